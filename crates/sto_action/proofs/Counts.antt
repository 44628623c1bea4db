-- Of the records of a transaction only the last one can have written.
use Rattle.std.specs.List.{All}
use Rattle.std.specs.Prelude.{◌==◌, ◌&&◌, if◌then◌else◌}
use Rattle.std.proofs.Common.{◌≡◌, ◌<◌, ◌≤◌, ℕ, Bool, true, false, List, [], ◌∷◌, ◌++◌, length, refl, sym, ap, ◌∙◌, arith, eq-eqb, true≢false}
use Rattle.std.proofs.lemmas.List.Elements.{All-nil, All-cons, All-head, All-tail}
use Rattle.sto_history.specs.Records.{TransactionPlace, Record, Verdict, Wrote, Read, Cancelled, Locked, Changed, is_abort, wrote_with, times_written}
use Rattle.sto_history.specs.Counted.{Follows, InThreads, aborted_times}

by_test : {P : Type 0} (b : Bool) → (b ≡ true → P) → (b ≡ false → P) → P
by_test true f g = f refl
by_test false f g = g refl

pub abort_wrote : (t : ℕ) (v : Verdict) → is_abort v ≡ true → wrote_with t v ≡ 0
abort_wrote t (Wrote n) h = absurd (true≢false (sym h))
abort_wrote t (Read n) h = refl
abort_wrote t (Cancelled n) h = refl
abort_wrote t (Locked n p) h = refl
abort_wrote t (Changed n p u) h = refl

abbrev counted : Bool → ℕ
counted b = if b then 1 else 0

one_few : (a b c : Bool) → counted (a && (b && c)) ≤ 1
one_few true true true = omega arith
one_few true true false = omega arith
one_few true false c = omega arith
one_few false b c = omega arith

one_abort : (a b c : Bool) → counted (a && (b && c)) ≡ 1 → c ≡ true
one_abort true true true h = refl
one_abort true true false h = absurd (omega (arith, h))
one_abort true false c h = absurd (omega (arith, h))
one_abort false b c h = absurd (omega (arith, h))

aborted_few : (place : TransactionPlace) (rs : List Record) → aborted_times place rs ≤ length rs
aborted_few place [] = omega arith
aborted_few place (r ∷ rs) =
    let here = one_few (r.place.0 == place.0) (r.place.1 == place.1) (is_abort r.verdict) in
    let rest = aborted_few place rs in omega (arith, here, rest)

-- where as many are aborted as there are, none wrote
pub all_aborted : (place : TransactionPlace) (t : ℕ) (rs : List Record) → aborted_times place rs ≡ length rs → times_written t rs ≡ 0
all_aborted place t [] h = refl
all_aborted place t (r ∷ rs) h =
    let few = one_few (r.place.0 == place.0) (r.place.1 == place.1) (is_abort r.verdict) in
    let rest = aborted_few place rs in
    let here : counted ((r.place.0 == place.0) && ((r.place.1 == place.1) && is_abort r.verdict)) ≡ 1 = omega (arith, h, few, rest) in
    let a = abort_wrote t r.verdict (one_abort (r.place.0 == place.0) (r.place.1 == place.1) (is_abort r.verdict) here) in
    let k = all_aborted place t rs (omega (arith, h, few, rest)) in
    omega (arith, a, k)

pub last_item : {X : Type 0} (P : X → Type 0) (xs : List X) (x : X) → All P (xs ++ x ∷ []) → P x
last_item P [] x h = All-head P x [] h
last_item P (y ∷ xs) x h = last_item P xs x (All-tail P y (xs ++ x ∷ []) h)

-- an aborted one at the place is counted
counted_one : (place : TransactionPlace) (x : Record) → is_abort x.verdict ≡ true → x.place ≡ place → counted ((x.place.0 == place.0) && ((x.place.1 == place.1) && is_abort x.verdict)) ≡ 1
counted_one place x abort at =
    let a : (x.place.0 == place.0) ≡ true = eq-eqb x.place.0 place.0 (ap (λ (p : TransactionPlace). p.0) at) in
    let b : (x.place.1 == place.1) ≡ true = eq-eqb x.place.1 place.1 (ap (λ (p : TransactionPlace). p.1) at) in
    ap (λ (c : Bool). counted (c && ((x.place.1 == place.1) && is_abort x.verdict))) a
    ∙ ap (λ (c : Bool). counted (true && (c && is_abort x.verdict))) b
    ∙ ap (λ (c : Bool). counted (true && (true && c))) abort

module _ (place : TransactionPlace) (x : Record) where
  -- those before the last one at a place are aborted
  pub all_before : (rs : List Record) → All (λ r. r.place ≡ place) (rs ++ x ∷ []) → InThreads (rs ++ x ∷ []) → All (λ r. is_abort r.verdict ≡ true) rs
  all_before [] at threads = All-nil (λ (r : Record). is_abort r.verdict ≡ true)
  all_before (r ∷ rs) at threads =
      let P : Record → Type 0 = λ y. y.place ≡ place in
      let Q : Record → Type 0 = λ y. is_abort y.verdict ≡ true in
      let here : r.place ≡ place = All-head P r (rs ++ x ∷ []) at in
      let there : x.place ≡ place = last_item P (r ∷ rs) x at in
      let same : r.place ≡ x.place = here ∙ sym there in
      let follows : Follows r x = last_item (λ (s : Record). r.place.0 ≡ s.place.0 → Follows r s) rs x threads.0 (ap (λ (p : TransactionPlace). p.0) same) in
      All-cons Q r rs (follows.again (ap (λ (p : TransactionPlace). p.1) same)) (all_before rs (All-tail P r (rs ++ x ∷ []) at) threads.1)

  -- so the last one alone wrote
  pub last_wrote : (t : ℕ) (rs : List Record) → All (λ r. is_abort r.verdict ≡ true) rs → times_written t (rs ++ x ∷ []) ≡ wrote_with t x.verdict
  last_wrote t [] h = omega arith
  last_wrote t (r ∷ rs) h =
      let P : Record → Type 0 = λ y. is_abort y.verdict ≡ true in
      let a = abort_wrote t r.verdict (All-head P r rs h) in
      let k = last_wrote t rs (All-tail P r rs h) in omega (arith, a, k)

  -- and an aborted one is counted
  pub some_aborted : is_abort x.verdict ≡ true → (rs : List Record) → x.place ≡ place → 0 < aborted_times place (rs ++ x ∷ [])
  some_aborted abort [] at = let one = counted_one place x abort at in omega (arith, one)
  some_aborted abort (r ∷ rs) at = let k = some_aborted abort rs at in omega (arith, k)

  -- where no more than one is aborted, none is before it
  pub none_before : is_abort x.verdict ≡ true → (rs : List Record) → All (λ r. r.place ≡ place) (rs ++ x ∷ []) → All (λ r. is_abort r.verdict ≡ true) rs → aborted_times place (rs ++ x ∷ []) ≤ 1 → rs ≡ []
  none_before abort [] at before few = refl
  none_before abort (r ∷ rs) at before few =
      let P : Record → Type 0 = λ y. y.place ≡ place in
      let here = counted_one place r (All-head (λ (y : Record). is_abort y.verdict ≡ true) r rs before) (All-head P r (rs ++ x ∷ []) at) in
      let there = some_aborted abort rs (last_item P (r ∷ rs) x at) in absurd (omega (arith, here, there, few))
