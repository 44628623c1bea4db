-- The rows of a map, by its places.
use Rattle.std.specs.Prelude.{◌≡◌, ◌<◌, ℕ, zero, suc, ℤ, Bool, true, false, ◌&&◌, if◌then◌else◌, Some, None, List, refl}
use Rattle.std.specs.Ordering.{int_eq}
use Rattle.std.proofs.Common.{ap, sym, ◌∙◌, arith, subst, inl, inr}
use Rattle.sto_part.specs.Parts.{part_of}
use Rattle.sto_model.specs.Rows.{IsRising, value_at, with_row}
use Rattle.sto_model.proofs.RowFacts.{by_test, same_of, equal_of, IsRising-with_row}
use Rattle.sto_model.proofs.Maps.{value_at-with_row_same, value_at-with_row_other, same_maps}
use Rattle.sto_type.specs.Known.{Parts}
use Rattle.sto_type.specs.Words.{word}
use Rattle.sto_map.specs.Counts.{same_or_below}
use Rattle.sto_container.specs.Places.{is_live}
use Rattle.sto_map.specs.Mapped.{Sizes, key_part, value_part, key_of, holds, placed, map_rows}

-- the value of a place
abbrev pub value_of : Sizes → Parts → ℕ → ℤ
value_of z c p = word (part_of c (value_part z p)) 0

module _ (z : Sizes) (c : Parts) where
  abbrev live_at : ℕ → Bool
  live_at p = is_live (part_of c (key_part z p))

  abbrev key_at : ℕ → ℤ
  key_at p = key_of (part_of c (key_part z p))

  abbrev holds_at : ℤ → ℕ → Bool
  holds_at k p = holds k (part_of c (key_part z p))

  pub placed-rises : (n : ℕ) → IsRising (placed z c n)
  placed-rises zero = tt
  placed-rises (suc n) =
      by_test (live_at n)
      (λ b. subst (λ (x : Bool). IsRising (if x then with_row (placed z c n) (key_at n) (value_of z c n) else placed z c n)) (sym b) (IsRising-with_row (placed z c n) (key_at n) (value_of z c n) (placed-rises n)))
      (λ b. subst (λ (x : Bool). IsRising (if x then with_row (placed z c n) (key_at n) (value_of z c n) else placed z c n)) (sym b) (placed-rises n))

  pub rows-rise : IsRising (map_rows z c)
  rows-rise = placed-rises z.places

  -- one place more
  value_next : (k : ℤ) (n : ℕ) → value_at (placed z c (suc n)) k ≡ (if holds_at k n then Some (value_of z c n) else value_at (placed z c n) k)
  value_next k n =
      by_test (live_at n)
      (λ b.
      by_test (int_eq (key_at n) k)
      (λ h.
      let t : holds_at k n ≡ true = (λ i. b i && h i) in
      ap (λ x. value_at (if x then with_row (placed z c n) (key_at n) (value_of z c n) else placed z c n) k) b
      ∙ ap (λ x. value_at (with_row (placed z c n) x (value_of z c n)) k) (same_of (key_at n) k h) ∙ value_at-with_row_same (placed z c n) k (value_of z c n)
      ∙ sym (ap (λ x. if x then Some (value_of z c n) else value_at (placed z c n) k) t))
      (λ h.
      let t : holds_at k n ≡ false = (λ i. b i && h i) in
      ap (λ x. value_at (if x then with_row (placed z c n) (key_at n) (value_of z c n) else placed z c n) k) b
      ∙ value_at-with_row_other (placed z c n) (key_at n) (value_of z c n) k (λ e. true_is_not (sym (equal_of (key_at n) k e) ∙ h))
      ∙ sym (ap (λ x. if x then Some (value_of z c n) else value_at (placed z c n) k) t)))
      (λ b.
      let t : holds_at k n ≡ false = ap (λ x. x && int_eq (key_at n) k) b in
      ap (λ x. value_at (if x then with_row (placed z c n) (key_at n) (value_of z c n) else placed z c n) k) b ∙ sym (ap (λ x. if x then Some (value_of z c n) else value_at (placed z c n) k) t))
    where
      true_is_not : true ≡ false → ⊥
      true_is_not e = cc

  pub value_past : (k : ℤ) (n : ℕ) → holds_at k n ≡ false → value_at (placed z c (suc n)) k ≡ value_at (placed z c n) k
  value_past k n h = value_next k n ∙ ap (λ x. if x then Some (value_of z c n) else value_at (placed z c n) k) h

  pub value_here : (k : ℤ) (n : ℕ) → holds_at k n ≡ true → value_at (placed z c (suc n)) k ≡ Some (value_of z c n)
  value_here k n h = value_next k n ∙ ap (λ x. if x then Some (value_of z c n) else value_at (placed z c n) k) h

  -- a key that stands nowhere has no row
  pub none_placed : (k : ℤ) (n : ℕ) → ((p : ℕ) → p < n → holds_at k p ≡ false) → value_at (placed z c n) k ≡ None
  none_placed k zero none = refl
  none_placed k (suc n) none = value_past k n (none n (omega arith)) ∙ none_placed k n (λ p l. none p (omega (arith, l)))

  -- a key that stands at one place alone has its value
  pub one_placed : (k : ℤ) (p n : ℕ) → p < n → holds_at k p ≡ true → ((q : ℕ) → q < n → holds_at k q ≡ true → q ≡ p) → value_at (placed z c n) k ≡ Some (value_of z c p)
  one_placed k p zero l h once = absurd (omega (arith, l))
  one_placed k p (suc n) l h once =
      by_test (holds_at k n)
      (λ t. value_here k n t ∙ ap (λ q. Some (value_of z c q)) (once n (omega arith) t))
      (λ t. elim (same_or_below p n l) [
        | inl same ↦ absurd (true_is_not (sym h ∙ ap (holds_at k) same ∙ t))
        | inr below ↦ value_past k n t ∙ one_placed k p n below h (λ q b. once q (omega (arith, b)))
      ])
    where
      true_is_not : true ≡ false → ⊥
      true_is_not e = cc

-- contents with the same key parts, and the same values where a key stands
module _ (z : Sizes) (c d : Parts) (keys : (p : ℕ) → p < z.places → part_of d (key_part z p) ≡ part_of c (key_part z p)) where
  pub same_placed :
      (k : ℤ) (n : ℕ) → ((p : ℕ) → p < n → p < z.places) → ((p : ℕ) → p < n → holds k (part_of c (key_part z p)) ≡ true → value_of z d p ≡ value_of z c p)
      → value_at (placed z d n) k ≡ value_at (placed z c n) k
  same_placed k zero within values = refl
  same_placed k (suc n) within values =
      let same : holds k (part_of d (key_part z n)) ≡ holds k (part_of c (key_part z n)) = ap (holds k) (keys n (within n (omega arith))) in
      let rest : value_at (placed z d n) k ≡ value_at (placed z c n) k = same_placed k n (λ p l. within p (omega (arith, l))) (λ p l. values p (omega (arith, l))) in
      by_test (holds k (part_of c (key_part z n)))
      (λ t. value_here z d k n (same ∙ t) ∙ ap Some (values n (omega arith) t) ∙ sym (value_here z c k n t))
      (λ t. value_past z d k n (same ∙ t) ∙ rest ∙ sym (value_past z c k n t))

  -- where the value at one place alone is another, the rows are those with this value at its key
  pub rows_with :
      (k v : ℤ) (p : ℕ) → p < z.places → holds k (part_of c (key_part z p)) ≡ true → ((q : ℕ) → q < z.places → holds k (part_of c (key_part z q)) ≡ true → q ≡ p)
      → value_of z d p ≡ v → ((q : ℕ) → q < z.places → (q ≡ p → ⊥) → value_of z d q ≡ value_of z c q) → map_rows z d ≡ with_row (map_rows z c) k v
  rows_with k v p l h once new others =
      same_maps (map_rows z d) (with_row (map_rows z c) k v) (rows-rise z d) (IsRising-with_row (map_rows z c) k v (rows-rise z c))
      (λ q.
      by_test (int_eq k q)
      (λ t.
      let same : k ≡ q = same_of k q t in
      let there : value_at (map_rows z d) k ≡ Some (value_of z d p) =
      one_placed z d k p z.places l (ap (holds k) (keys p l) ∙ h) (λ j b t. once j b (sym (ap (holds k) (keys j b)) ∙ t)) in
      ap (value_at (map_rows z d)) (sym same) ∙ there ∙ ap Some new ∙ sym (value_at-with_row_same (map_rows z c) k v) ∙ ap (value_at (with_row (map_rows z c) k v)) same)
      (λ t.
      let other : k ≡ q → ⊥ = λ e. true_is_not (sym (equal_of k q e) ∙ t) in
      same_placed q z.places (λ j b. b)
      (λ j b u. others j b (λ e. other (one_key (part_of c (key_part z p)) k q h (ap (λ x. holds q (part_of c (key_part z x))) (sym e) ∙ u))))
      ∙ sym (value_at-with_row_other (map_rows z c) k v q other)))
    where
      true_is_not : true ≡ false → ⊥
      true_is_not e = cc

      second : (a b : Bool) → (a && b) ≡ true → b ≡ true
      second true b e = e
      second false b e = cc

      one_key : (ws : List ℤ) (i j : ℤ) → holds i ws ≡ true → holds j ws ≡ true → i ≡ j
      one_key ws i j f g = sym (same_of (key_of ws) i (second (is_live ws) (int_eq (key_of ws) i) f)) ∙ same_of (key_of ws) j (second (is_live ws) (int_eq (key_of ws) j) g)
