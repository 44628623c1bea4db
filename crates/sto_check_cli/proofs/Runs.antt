-- A run of a transaction keeps to numbers of 64 bits, and so does the state that a file declares.
use Rattle.std.proofs.Common.{◌≡◌, ℕ, zero, suc, pos, ℤ, ◌+◌, ◌≤◌, ◌<◌, ◌^◌, List, [], ◌∷◌, length, Bool, true, false, cond, arith, refl, ◌==◌}
use Rattle.std.specs.List.{All}
use Rattle.std.proofs.lemmas.List.{length_push}
use Rattle.std.proofs.lemmas.List.Elements.{All-nil, All-cons, All-head, All-tail, All-push, All-weaker}
use Rattle.sto_model.specs.PlainReplies.{PlainReply}
use Rattle.sto_model.specs.Rows.{rows_below}
use Rattle.sto_model.specs.SequentialObjects.{reply_to, state_after, opening_of}
use Rattle.sto_model.specs.Objects.{opening_rows, machines_of}
use Rattle.sto_model.specs.Run.{Behaviour, State, MayAsk}
use Rattle.sto_model.specs.Serial.{SerialRun, by_next, ended, heard, run_within}
use Rattle.sto_model.specs.declared.call.Call.{Call}
use Rattle.sto_model.specs.declared.body.Next.{Next}
use Rattle.sto_model.specs.declared.body.Next.TheVariants.{Ask, Commit, Cancel}
use Rattle.sto_model.specs.declared.run.End.{End}
use Rattle.sto_model.specs.declared.run.End.TheVariants as E
use Rattle.sto_model.specs.declared.shape.Shape.{Shape}
use Rattle.sto_model.specs.declared.shape.Shape.TheVariants.{Single, Counter, Array, Hash, Tree, Vector}
use Rattle.sto_lang.specs.Shapes.{most_length}
use Rattle.sto_lang.specs.Sound.{HasRanges}
use Rattle.sto_check_cli.proofs.Numbers.{Fits, ToldFits, RowFits, HasFew, count_fits, zero_fits, reply_fits, state_fits}
use Rattle.sto_check_cli.proofs.Asking.{IsFittingOf, StepsOf}
use Rattle.sto_store.proofs.Meant.{OpensFit}

-- each object has at most so many rows, with numbers of 64 bits
abbrev pub AreFew : ℕ → State → Type 0
AreFew n st = All (HasFew n) st

pub few_more : (n m : ℕ) → n ≤ m → (st : State) → AreFew n st → AreFew m st
few_more n m l st h = All-weaker (HasFew n) (HasFew m) (λ rows k. record { few = (let s = k.few in omega (arith, s, l)); each = k.each }) st h

-- a run answers with numbers of 64 bits, and leaves such a state
pub record RunFits (n : ℕ) (run : SerialRun) : Type 0 where
  pub replies : All ToldFits run.replies
  pub after : AreFew n run.after

-- The declared state.

below_fits : (n : ℕ) (v : ℤ) → n < 2 ^ 63 → Fits v → All RowFits (rows_below n v)
below_fits zero v l f = All-nil RowFits
below_fits (suc n) v l f = All-push RowFits (rows_below n v) (pos n, v) (below_fits n v (omega (arith, l)) f) (count_fits n (omega (arith, l)), f)

below_count : (n : ℕ) (v : ℤ) → length (rows_below n v) ≡ n
below_count zero v = refl
below_count (suc n) v = let more = below_count n v in let one = length_push (rows_below n v) (pos n, v) in omega (arith, more, one)

length_few : (version : ℕ) → most_length version ≤ 16384
length_few version = by (version == 2)
  where
    by : (b : Bool) → cond b 16384 4096 ≤ 16384
    by true = omega arith
    by false = omega arith

one_row : (v : ℤ) → Fits v → HasFew 16384 ((pos 0, v) ∷ [])
one_row v f = record { few = omega arith; each = All-cons RowFits (pos 0, v) [] (zero_fits, f) (All-nil RowFits) }

no_row : HasFew 16384 []
no_row = record { few = omega arith; each = All-nil RowFits }

rows_few : (version : ℕ) (shape : Shape) → OpensFit shape × HasRanges version shape → HasFew 16384 (opening_rows shape)
rows_few version (Single v) h = one_row v h.0
rows_few version (Counter v) h = one_row v h.0
rows_few version (Array len v) h =
    let most = length_few version in
    let few = h.1.1 in
    let count = below_count len v in
    record { few = omega (arith, most, few, count); each = below_fits len v (omega (arith, most, few)) h.0 }
rows_few version (Hash buckets places) h = no_row
rows_few version (Tree leaves) h = no_row
rows_few version (Vector capacity) h = no_row

pub opening_few : (version : ℕ) (shapes : List Shape) → All (λ s. OpensFit s × HasRanges version s) shapes → AreFew 16384 (opening_of (machines_of shapes))
opening_few version [] h = All-nil (HasFew 16384)
opening_few version (s ∷ shapes) h =
    let P : Shape → Type 0 = λ s. OpensFit s × HasRanges version s in
    All-cons (HasFew 16384) (opening_rows s) _ (rows_few version s (All-head P s shapes h)) (opening_few version shapes (All-tail P s shapes h))

-- Runs.

at_once : (n m : ℕ) → n ≤ m → (end : End) (st : State) → AreFew n st → RunFits m (ended st end)
at_once n m l end st h = record { replies = All-nil ToldFits; after = few_more n m l st h }

pub run_fits : (P : Call → Type 0) (shapes : List Shape) (limit calls n : ℕ) (f : Behaviour) (st : State) → n + calls ≤ limit → limit < 2 ^ 63 → StepsOf P f → AreFew n st
    → RunFits limit (run_within (machines_of shapes) calls f st)
run_fits P shapes limit zero n f st l s asks h = by (f [])
  where
    by : (z : Next) → RunFits limit (by_next z (λ call. ended st E.Commit) (ended st))
    by (Ask call) = at_once n limit (omega (arith, l)) E.Commit st h
    by Commit = at_once n limit (omega (arith, l)) E.Commit st h
    by Cancel = at_once n limit (omega (arith, l)) E.Cancel st h
run_fits P shapes limit (suc calls) n f st l s asks h = by (f []) (asks [] (All-nil ToldFits)) (λ x t. run_fits P shapes limit calls (suc n) (λ rs. f (x ∷ rs)) t (omega (arith, l)) s)
  where
    by : (z : Next) → MayAsk (IsFittingOf P) z
        → ((x : PlainReply) (t : State) → StepsOf P (λ rs. f (x ∷ rs)) → AreFew (suc n) t → RunFits limit (run_within (machines_of shapes) calls (λ rs. f (x ∷ rs)) t))
        → RunFits limit (by_next z (λ call. heard (reply_to (machines_of shapes) call st) (run_within (machines_of shapes) calls (λ rs. f (reply_to (machines_of shapes) call st ∷ rs)) (state_after (machines_of shapes) call st))) (ended st))
    by (Ask call) k more =
        let x : PlainReply = reply_to (machines_of shapes) call st in
        let small : n < 2 ^ 63 = omega (arith, l, s) in
        let reply : ToldFits x = reply_fits n small shapes call.object call st h k.fits.first k.fits.second in
        let after : AreFew (suc n) (state_after (machines_of shapes) call st) = state_fits n small shapes call.object call st h k.fits.first k.fits.second in
        let rest = more x (state_after (machines_of shapes) call st) (λ rs r. asks (x ∷ rs) (All-cons ToldFits x rs reply r)) after in
        record { replies = All-cons ToldFits x _ reply rest.replies; after = rest.after }
    by Commit k more = at_once n limit (omega (arith, l)) E.Commit st h
    by Cancel k more = at_once n limit (omega (arith, l)) E.Cancel st h
