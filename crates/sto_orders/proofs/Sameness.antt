-- Replays that lead to the same.
use Rattle.std.proofs.Common.{◌≡◌, ℕ, List, length, sym, ap, ◌∙◌, subst}
use Rattle.std.specs.declared.cmp.Ordering.TheVariants.{Equal}
use Rattle.sto_model.specs.Run.{State}
use Rattle.sto_lang.specs.Scripts.{File}
use Rattle.sto_report_spec.specs.Orders.{TransactionPlace, IsOrder}
use Rattle.sto_journal.specs.declared.journal.Line.{Line}
use Rattle.sto_journal.specs.Journals.{HaveThreads, places}
use Rattle.sto_checker.specs.Runs.{IsReplay}
use Rattle.sto_orders.specs.declared.same_by.SameBy.{SameBy}
use Rattle.sto_orders.specs.declared.key.Key.{Key}
use Rattle.sto_orders.specs.Outcomes.{OrderEnd, end_of, threads_in}
use Rattle.sto_orders.specs.Keys.{key_cmp, IsReplayed, IsKeyOf}
use Rattle.sto_orders.proofs.Leading.{SameLead, lead_by_key}
use Rattle.sto_orders.proofs.Beginnings.{order_begins, lines_of_threads}
use Rattle.sto_orders.proofs.Comparing.{agree_by_cmp, key_agree, cmp_by_agree, agree_by_lead}
use Rattle.sto_orders.proofs.Gathering.{same_done}

pub replay_threads : (f : File) (n : ℕ) (lines found : List Line) (state : State) → length f.threads ≡ n → found ≡ lines → IsReplay f lines state → HaveThreads n found
replay_threads f n lines found state long same replay =
    subst (HaveThreads n) (sym same)
    (subst (λ (m : ℕ). HaveThreads m lines) long (lines_of_threads f lines (order_begins f (places lines) replay.order).inside))

pub replay_replayed : (f : File) (lines found : List Line) (state : State) → found ≡ lines → IsReplay f lines state → IsReplayed f found state
replay_replayed f lines found state same replay =
    subst (λ (ls : List Line). IsReplayed f ls state) (sym same) (record { entries = replay.entries; final = replay.final })

-- keys that are equal are those of orders that end alike
pub same_end : (by : SameBy) (f : File) (a b : List TransactionPlace) (x y : Key) → IsKeyOf by f a x → IsKeyOf by f b y → key_cmp x y ≡ Equal → end_of by f a ≡ end_of by f b
same_end by f a b x y one two equal =
    let lead : SameLead by f a b = lead_by_key by f a b y (key_agree by f a x y (agree_by_cmp x y equal) one) two in
    let threads = lead.threads in
    let writers = lead.writers in
    let state = lead.state in
    λ i. record { threads = threads i; writers = writers i; state = state i }

-- and those of orders that end alike are equal
pub equal_keys : (by : SameBy) (f : File) (a b : List TransactionPlace) (x y : Key) → IsOrder f a → IsOrder f b → IsKeyOf by f a x → IsKeyOf by f b y → end_of by f a ≡ end_of by f b → key_cmp x y ≡ Equal
equal_keys by f a b x y whole_a whole_b one two same =
    let lead : SameLead by f a b = record {
      done = same_done f a b (threads_in f) whole_a whole_b;
      threads = ap (λ (e : OrderEnd). e.threads) same;
      writers = ap (λ (e : OrderEnd). e.writers) same;
      state = ap (λ (e : OrderEnd). e.state) same;
    } in
    cmp_by_agree x y (agree_by_lead by f a b x y lead one two)
