-- Where a part stands among entries in rising part number, from how many are of parts below it.
use Rattle.std.proofs.Common.{◌≡◌, ℕ, zero, suc, ◌+◌, ◌<◌, ◌≤◌, true, false, ltb, nat_eq, nat_lt, List, [], ◌∷◌, ◌++◌, length, take, drop, map, refl, ap, sym, ◌∙◌, subst, arith, slice_index_or, eq-eqb, inl, inr}
use Rattle.std.specs.List.{insert}
use Rattle.std.specs.List.Sorted.{IsNonDecreasingBy, IsPartitionPoint}
use Rattle.std.proofs.lemmas.List.{get_or-map, length-map}
use Rattle.std.proofs.lemmas.Bool.{cases_lt}
use Rattle.std.proofs.lemmas.Bool.Decides.{nat_tests}
use Rattle.sto_part.specs.Listed.{Listed}
use Rattle.sto_part.specs.declared.change.Change.{Change}
use Rattle.sto_item.specs.Pending.{Entry, plain, inserted, changes_of, IsRising, IsRisingFrom}
use Rattle.sto_item.specs.Places.{entry_at, IsPlaceOf, IsPlaceFor}
use Rattle.sto_item.proofs.Applied.{changes_of-below}
use Rattle.sto_item.proofs.Entries.{place_found, place_absent, place_end}

-- the numbers rise from place to place
from_at : (n : ℕ) (es : List Entry) (i : ℕ) → IsRisingFrom n es → i < length es → n ≤ (entry_at es i).0
from_at n [] i r h = absurd (omega (arith, h))
from_at n (e ∷ es) zero r h = r.0
from_at n (e ∷ es) (suc i) r h = omega (arith, r.0, from_at (e.0 + 1) es i r.1 (omega (arith, h)))

rises_at : (n : ℕ) (es : List Entry) (i j : ℕ) → IsRisingFrom n es → i ≤ j → j < length es → (entry_at es i).0 ≤ (entry_at es j).0
rises_at n [] i j r l h = absurd (omega (arith, h))
rises_at n (e ∷ es) zero zero r l h = omega arith
rises_at n (e ∷ es) zero (suc j) r l h = omega (arith, from_at (e.0 + 1) es j r.1 (omega (arith, h)))
rises_at n (e ∷ es) (suc i) zero r l h = absurd (omega (arith, l))
rises_at n (e ∷ es) (suc i) (suc j) r l h = rises_at (e.0 + 1) es i j r.1 (omega (arith, l)) (omega (arith, h))

-- entries of lower parts are passed over
abbrev AreBelow : List Entry → ℕ → ℕ → Type 0
AreBelow es p i = (k : ℕ) → k < i → (entry_at es k).0 < p

inserted_past : (es : List Entry) (p i : ℕ) (u : List Change) → i ≤ length es → AreBelow es p i → inserted es p u ≡ take i es ++ inserted (drop i es) p u
inserted_past [] p zero u l h = refl
inserted_past (e ∷ es) p zero u l h = refl
inserted_past [] p (suc i) u l h = absurd (omega (arith, l))
inserted_past (e ∷ es) p (suc i) u l h =
    let first : e.0 < p = h 0 (omega arith) in
    let low : nat_lt e.0 p ≡ true = grind (arith, nat_tests) in
    rw low (ap (λ (r : List Entry). e ∷ r) (inserted_past es p i u (omega (arith, l)) (λ k j. h (suc k) (omega (arith, j)))))

-- so their changes are none of the part's
changes_past : (es : List Entry) (p i : ℕ) → i ≤ length es → AreBelow es p i → changes_of es p ≡ changes_of (drop i es) p
changes_past [] p zero l h = refl
changes_past (e ∷ es) p zero l h = refl
changes_past [] p (suc i) l h = absurd (omega (arith, l))
changes_past (e ∷ es) p (suc i) l h =
    let first : e.0 < p = h 0 (omega arith) in
    let other : nat_eq e.0 p ≡ false = grind (arith, nat_tests) in
    rw other (changes_past es p i (omega (arith, l)) (λ k j. h (suc k) (omega (arith, j))))

changes_here : (es : List Entry) (p i : ℕ) → i < length es → (entry_at es i).0 ≡ p → changes_of (drop i es) p ≡ (entry_at es i).1
changes_here [] p i l e = absurd (omega (arith, l))
changes_here (x ∷ es) p zero l e = let same : nat_eq x.0 p ≡ true = eq-eqb x.0 p e in rw same refl
changes_here (x ∷ es) p (suc i) l e = changes_here es p i (omega (arith, l)) e

changes_none : (n : ℕ) (es : List Entry) (p i : ℕ) → IsRisingFrom n es → (i < length es → p < (entry_at es i).0) → changes_of (drop i es) p ≡ []
changes_none n [] p zero r h = refl
changes_none n [] p (suc i) r h = refl
changes_none n (x ∷ es) p zero r h = changes_of-below x.0 (x ∷ es) p (omega arith, r.1) (h (omega arith))
changes_none n (x ∷ es) p (suc i) r h = changes_none (x.0 + 1) es p i r.1 (λ l. h (omega (arith, l)))

-- the entries as the code holds them
module _ (rs : List (ℕ × Listed Change)) (p : ℕ) (rising : IsRising (map plain rs)) where
  abbrev es : List Entry
  es = map plain rs

  number_at : (i : ℕ) (d : ℕ × Listed Change) → i < length rs → (slice_index_or rs i d).0 ≡ (entry_at es i).0
  number_at i d h = sym (ap (λ (e : Entry). e.0) (get_or-map plain rs i d (0, []) h))

  pub parts_rise : IsNonDecreasingBy (λ (e : ℕ × Listed Change). e.0) rs
  parts_rise = λ i j d le lt. omega (arith, number_at i d (omega (arith, le, lt)), number_at j d lt, rises_at 0 es i j rising le (omega (arith, lt, length-map rs plain)))

  pub not_same : (i : ℕ) (x : ℕ × Listed Change) → ((slice_index_or rs i x).0 ≡ p → ⊥) → i < length rs → (entry_at es i).0 ≡ p → ⊥
  not_same i x other h e = other (number_at i x h ∙ e)

  module _ (i : ℕ) (few : i ≤ length rs) (point : IsPartitionPoint (λ (y : ℕ × Listed Change). ltb y.0 p ≡ true) (λ y. ltb y.0 p ≡ false) rs i) where
    below : AreBelow es p i
    below k h =
        let d : ℕ × Listed Change = (0, record { items = []; spare = 0 }) in
        let t : ltb (slice_index_or rs k d).0 p ≡ true = point.0 k d (omega arith) h in
        let l : (slice_index_or rs k d).0 < p = grind (arith, nat_tests) in
        omega (arith, l, number_at k d (omega (arith, h, few)))

    not_below : i < length rs → p ≤ (entry_at es i).0
    not_below h =
        let d : ℕ × Listed Change = (0, record { items = []; spare = 0 }) in
        let t : ltb (slice_index_or rs i d).0 p ≡ false = point.1 i d (omega arith) h in
        let l : p ≤ (slice_index_or rs i d).0 = grind (arith, nat_tests) in
        omega (arith, l, number_at i d h)

    within : i ≤ length es
    within = omega (arith, few, length-map rs plain)

    -- the part stands there
    module _ (x : ℕ × Listed Change) (h : i < length rs) (same : (slice_index_or rs i x).0 ≡ p) where
      here : (entry_at es i).0 ≡ p
      here = sym (number_at i x h) ∙ same

      inside : i < length es
      inside = omega (arith, h, length-map rs plain)

      pub is_there : IsPlaceOf es p i
      is_there = (inside, here, λ u. inserted_past es p i u within below ∙ place_found es i p u inside here)

      pub changes_there : changes_of es p ≡ (entry_at es i).1
      changes_there = changes_past es p i within below ∙ changes_here es p i inside here

    -- or it stands nowhere
    module _ (absent : i < length rs → (entry_at es i).0 ≡ p → ⊥) where
      above : i < length rs → p < (entry_at es i).0
      above h = let n : (entry_at es i).0 ≡ p → ⊥ = absent h in omega (arith, not_below h, n)

      pub belongs_there : IsPlaceFor es p i
      belongs_there = (within, λ u. inserted_past es p i u within below ∙ at_place u)
        where
          at_place : (u : List Change) → take i es ++ inserted (drop i es) p u ≡ insert es i (p, u)
          at_place u = elim (cases_lt i (length es)) [
            | inl inside ↦ place_absent es i p u inside (above (omega (arith, inside, length-map rs plain)))
            | inr out ↦
                let last : i ≡ length es = omega (arith, out, within) in
                subst (λ (k : ℕ). take k es ++ inserted (drop k es) p u ≡ insert es k (p, u)) (sym last) (place_end es p u)
          ]

      pub changes_nowhere : changes_of es p ≡ []
      changes_nowhere = changes_past es p i within below ∙ changes_none 0 es p i rising (λ l. above (omega (arith, l, length-map rs plain)))
