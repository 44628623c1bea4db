-- One worker runs all in rising thread and then position, and hands nothing back.
use Rattle.std.proofs.Common.{◌≡◌, ℕ, suc, ◌+◌, ◌<◌, ◌≤◌, List, [], ◌∷◌, ◌++◌, map, length, refl, sym, ap, ◌∙◌, subst, arith, Bool, true, cond, append-nil, eq-eqb, ◌==◌, ◌&&◌, inl, inr}
use Rattle.sto_lang.specs.Scripts.{File}
use Rattle.sto_report_spec.specs.Orders.{TransactionPlace, positions_of, count_in, IsOrder}
use Rattle.sto_history.specs.Records.{Record, is_abort}
use Rattle.sto_history.specs.Counted.{finished_places, aborted_times}
use Rattle.sto_serializability.proofs.Chains.{Every}
use Rattle.sto_serializability.proofs.Working.{aborted_append}
use Rattle.sto_run_threads.specs.Plans.{Plan, thread_count}
use Rattle.sto_run_threads.specs.Running.{ended_of}
use Rattle.sto_run_threads.specs.Worked.{AbortsNone, IsDone}
use Rattle.sto_run_threads.specs.Ordered.{RunsInOrder, RanInTurn}
use Rattle.sto_run_threads.proofs.Claiming.{count_case}
use Rattle.sto_run_threads.proofs.Threads.{length_numbers, ended_append, all_aborted}

-- places of which no thread has any are none
no_places : (ps : List TransactionPlace) → ((u : ℕ) → length (positions_of u ps) ≡ 0) → ps ≡ []
no_places [] h = refl
no_places (p ∷ ps) h =
    let one : length (positions_of p.0 (p ∷ ps)) ≡ suc (length (positions_of p.0 ps)) =
    ap (λ (b : Bool). length (cond b (p.1 ∷ positions_of p.0 ps) (positions_of p.0 ps))) (eq-eqb p.0 p.0 refl) in
    let none = h p.0 in absurd (omega (arith, one, none))

-- an aborted record is counted at its own place
counted_own : (r : Record) (rs : List Record) → is_abort r.verdict ≡ true → aborted_times r.place (r ∷ rs) ≡ 1 + aborted_times r.place rs
counted_own r rs is i = (cond (eq-eqb r.place.0 r.place.0 refl i && (eq-eqb r.place.1 r.place.1 refl i && is i)) 1 0) + aborted_times r.place rs

no_records : (rs new : List Record) → finished_places new ≡ [] → AbortsNone rs (rs ++ new) → new ≡ []
no_records rs [] none aborts = refl
no_records rs (r ∷ new) none aborts =
    let all : Every (λ (x : Record). is_abort x.verdict ≡ true) (r ∷ new) = all_aborted (r ∷ new) none in
    let one = counted_own r new all.0 in
    let same = aborts r.place in
    let both = aborted_append r.place rs (r ∷ new) in absurd (omega (arith, one, same, both))

-- where all have ended and none is aborted, no record was added
pub nothing_left : (file : File) (from to : TransactionPlace) (rs later : List Record) → RunsInOrder from to rs later → IsOrder file (finished_places later)
    → ((u : ℕ) → u < length file.threads → ended_of u rs ≡ count_in file.threads u) → AbortsNone rs later → later ≡ rs
nothing_left file from to rs later h order all aborts =
    let ended : List TransactionPlace = finished_places h.new in
    let none : ended ≡ [] = no_places ended (λ u. of_thread u) in
    let empty : h.new ≡ [] = no_records rs h.new none (subst (AbortsNone rs) h.whole aborts) in
    h.whole ∙ ap (λ (l : List Record). rs ++ l) empty ∙ append-nil rs
  where
    of_thread : (u : ℕ) → length (positions_of u (finished_places h.new)) ≡ 0
    of_thread u =
        let whole = ap (ended_of u) h.whole in
        let both = ended_append u rs h.new in
        let count = ap length (order u) in
        let many = length_numbers 1 (count_in file.threads u) in elim (count_case file.threads u) [
          | inl low ↦ (let k = all u low in omega (arith, whole, both, count, many, k))
          | inr none ↦ omega (arith, whole, both, count, many, none)
        ]

-- a run of one worker and of what it handed back
pub turn_whole : (plan : Plan) (from to : TransactionPlace) (rs later : List Record) → 1 ≤ plan.tries → RanInTurn plan rs → AbortsNone [] rs
    → ((u : ℕ) → u < thread_count plan → IsDone plan rs u) → IsOrder plan.file (finished_places later) → AbortsNone rs later → RunsInOrder from to rs later
    → RanInTurn plan later
turn_whole plan from to rs later some turn none done order aborts left =
    subst (RanInTurn plan) (sym (nothing_left plan.file from to rs later left order (λ u low. ended u (done u low)) aborts)) turn
  where
    ended : (u : ℕ) → IsDone plan rs u → ended_of u rs ≡ count_in plan.file.threads u
    ended u (inl all) = all
    ended u (inr used) = absurd (let k = none (u, suc (ended_of u rs)) in omega (arith, used, k, some))
