-- The one record of a transaction that ran beside nothing.
use Rattle.std.specs.List.{All}
use Rattle.std.specs.Prelude.{if◌then◌else◌, ◌==◌, ◌&&◌}
use Rattle.std.proofs.Common.{◌≡◌, ℕ, List, [], ◌∷◌, ◌++◌, length, map, refl, ap, ◌∙◌, arith, Bool, true, false, eq-eqb}
use Rattle.std.proofs.lemmas.List.Elements.{All-head, All-tail}
use Rattle.sto_history.specs.Records as plainly
use Rattle.sto_history.specs.Records.{TransactionPlace, is_abort, is_finished}
use Rattle.sto_history.specs.Counted.{aborted_times, finished_places}
use Rattle.sto_transaction.specs.declared.record.Record.{Record}
use Rattle.sto_transaction.specs.Plain.{plain}

abbrev counted : Bool → ℕ
counted b = if b then 1 else 0

-- the first of records at a place of which none is aborted is not aborted
first_ended : (place : TransactionPlace) (r : plainly.Record) (rs : List plainly.Record) → r.place ≡ place → aborted_times place (r ∷ rs) ≡ 0 → is_abort r.verdict ≡ false
first_ended place r rs at none = by (is_abort r.verdict) refl
  where
    by : (b : Bool) → is_abort r.verdict ≡ b → b ≡ false
    by false e = refl
    by true e = absurd (
        let a : (r.place.0 == place.0) ≡ true = eq-eqb r.place.0 place.0 (ap (λ (p : TransactionPlace). p.0) at) in
        let b : (r.place.1 == place.1) ≡ true = eq-eqb r.place.1 place.1 (ap (λ (p : TransactionPlace). p.1) at) in
        let one : counted ((r.place.0 == place.0) && ((r.place.1 == place.1) && is_abort r.verdict)) ≡ 1 =
        ap (λ (x : Bool). counted (x && ((r.place.1 == place.1) && is_abort r.verdict))) a
        ∙ ap (λ (x : Bool). counted (true && (x && is_abort r.verdict))) b
        ∙ ap (λ (x : Bool). counted (true && (true && x))) e in omega (arith, one, none))

finished_more : (r : plainly.Record) (rs : List plainly.Record) → is_abort r.verdict ≡ false → finished_places (r ∷ rs) ≡ r.place ∷ finished_places rs
finished_more r rs e = rw e refl

pub record IsSingle (new : List plainly.Record) : Type 0 where
  pub only : plainly.Record
  pub all : new ≡ only ∷ []
  pub ended : is_abort only.verdict ≡ false

pub single : (place : TransactionPlace) (new : List plainly.Record) → All (λ (r : plainly.Record). r.place ≡ place) new → aborted_times place new ≡ 0 → finished_places new ≡ place ∷ [] → IsSingle new
single place [] at none ends = absurd cc
single place (r ∷ []) at none ends =
    record { only = r; all = refl; ended = first_ended place r [] (All-head (λ (x : plainly.Record). x.place ≡ place) r [] at) none }
single place (r ∷ s ∷ rs) at none ends =
    let P : plainly.Record → Type 0 = λ x. x.place ≡ place in
    let first = first_ended place r (s ∷ rs) (All-head P r (s ∷ rs) at) none in
    let next = first_ended place s rs (All-head P s rs (All-tail P r (s ∷ rs) at)) (omega (arith, none)) in
    let two : finished_places (r ∷ s ∷ rs) ≡ r.place ∷ s.place ∷ finished_places rs = finished_more r (s ∷ rs) first ∙ ap (λ (l : List TransactionPlace). r.place ∷ l) (finished_more s rs next) in
    let l = ap length two in let k = ap length ends in absurd (omega (arith, l, k))

-- it is the one that is taken off the list
pub last_is : (left : List Record) (x : Record) (r : plainly.Record) → map plain (left ++ x ∷ []) ≡ r ∷ [] → plain x ≡ r
last_is [] x r e = cc
last_is (y ∷ []) x r e = absurd (let l = ap length e in omega (arith, l))
last_is (y ∷ z ∷ left) x r e = absurd (let l = ap length e in omega (arith, l))
