-- A ring among other parts.
use Rattle.std.proofs.Common.{◌≡◌, ◌<◌, ◌≤◌, ◌+◌, ℕ, zero, suc, ℤ, pos, Bool, Some, List, [], ◌∷◌, ◌++◌, length, map, replicate, take, drop, slice_get, slice_index_or, refl, ap, sym, ◌∙◌, subst, arith, append_assoc}
use Rattle.std.proofs.lemmas.List.{length-map, length-take, length-drop, get_or-take, get_or-drop}
use Rattle.sto_part.specs.Parts.{part_of}
use Rattle.sto_type.specs.Known.{Parts}
use Rattle.sto_type.specs.Numbered.{numbered}
use Rattle.sto_type.specs.Words.{word}
use Rattle.sto_container.specs.Places.{wrapped, next, wrapped_below, is_live}
use Rattle.sto_ring.specs.LivePlaces.{size_by}
use Rattle.sto_ring.specs.Ringed.{place_part, along, head_of, tail_of, size_of, ring_rows, ring_widths, IsRing}
use Rattle.sto_ring.specs.RingedRows.{along-same, value_at, head_is, tail_is, size_is}
use Rattle.sto_ring.specs.RingedLaw.{length_twos}

-- widths
pub width_there : (n p : ℕ) → p < length (replicate {A = ℕ} n 2) → slice_get (replicate {A = ℕ} n 2) p ≡ Some 2
width_there zero p l = absurd (omega (arith, l))
width_there (suc n) zero l = refl
width_there (suc n) (suc p) l = width_there n p (omega (arith, l))

-- widths of parts
heads : (x y : ℕ) (xs ys : List ℕ) → x ∷ xs ≡ y ∷ ys → (x ≡ y) × (xs ≡ ys)
heads x y xs ys e = (cc, cc)

width_of : (d : Parts) (ws : List ℕ) (q : ℕ) → map length d ≡ ws → q < length ws → length (part_of d q) ≡ slice_index_or ws q 0
width_of [] [] q e l = absurd (omega (arith, l))
width_of [] (w ∷ ws) q e l = cc
width_of (x ∷ d) [] q e l = cc
width_of (x ∷ d) (w ∷ ws) zero e l = (heads (length x) w (map length d) ws e).0
width_of (x ∷ d) (w ∷ ws) (suc q) e l = width_of d ws q (heads (length x) w (map length d) ws e).1 (omega (arith, l))

same_number : (m n : ℕ) → pos m ≡ pos n → m ≡ n
same_number m n e = cc

-- the word of a place
some_is : (ws : List ℤ) (x : ℤ) → slice_get ws 0 ≡ Some x → slice_index_or ws 0 (pos 0) ≡ x
some_is [] x e = cc
some_is (w ∷ ws) x e = cc

part_is : (c : Parts) (p : ℕ) (ws : List ℤ) → slice_get c p ≡ Some ws → part_of c p ≡ ws
part_is [] p ws e = cc
part_is (x ∷ c) zero ws e = cc
part_is (x ∷ c) (suc p) ws e = part_is c p ws e

pub value_is : (first place : ℕ) (c : Parts) (ws : List ℤ) → slice_get c (first + (place + 2)) ≡ Some ws → word ws 1 ≡ word (part_of (drop first c) (suc (suc place))) 1
value_is first place c ws e =
    let n : place + 2 ≡ suc (suc place) = omega arith in
    ap (λ xs. word xs 1) (sym (ap (λ q. part_of (drop first c) q) (sym n) ∙ get_or-drop first c (place + 2) [] ∙ part_is c (first + (place + 2)) ws e))

pub append_none : (xs : List ℤ) → xs ++ [] ≡ xs
append_none [] = refl
append_none (x ∷ xs) = ap (λ l. x ∷ l) (append_none xs)

-- a step of the walk
pub step_along :
    (n : ℕ) (c : Parts) (values : List ℤ) (place : ℕ) (v : ℤ) (r : ℕ) (all : List ℤ) → v ≡ value_at c place → values ++ along n c place (suc r) ≡ all
    → (values ++ v ∷ []) ++ along n c (next n place) r ≡ all
step_along n c values place v r all e h = append_assoc values (v ∷ []) (along n c (next n place) r) ∙ ap (λ x. values ++ x ∷ along n c (next n place) r) e ∙ h

module _ (n first : ℕ) (c : Parts) (v : IsRing n (take (length (ring_widths n)) (drop first c))) where
  abbrev own : Parts
  own = take (length (ring_widths n)) (drop first c)

  full : length own ≡ length (ring_widths n)
  full = sym (length-map own length) ∙ ap length v.widths

  pub in_all : first + (n + 2) ≤ length c
  in_all = omega (arith, full, length-take (length (ring_widths n)) (drop first c), length-drop first c, length_twos n)

  part_there : (q : ℕ) → q < n + 2 → part_of own q ≡ part_of c (first + q)
  part_there q l = get_or-take (length (ring_widths n)) (drop first c) q [] (omega (arith, l, length_twos n)) ∙ get_or-drop first c q []

  zero_more : first + 0 ≡ first
  zero_more = omega arith

  head_same : part_of own 0 ≡ part_of c first
  head_same = part_there 0 (omega arith) ∙ ap (part_of c) zero_more

  tail_same : part_of own 1 ≡ part_of c (first + 1)
  tail_same = part_there 1 (omega arith)

  pub head_wide : 0 < length (part_of c first)
  head_wide = omega (arith, width_of own (ring_widths n) 0 v.widths (omega arith), ap length head_same)

  pub tail_wide : 0 < length (part_of c (first + 1))
  tail_wide = omega (arith, width_of own (ring_widths n) 1 v.widths (omega arith), ap length tail_same)

  module _ (x : ℤ) (at : slice_get (part_of c first) 0 ≡ Some x) where
    head_word : x ≡ pos v.first
    head_word = sym (some_is (part_of c first) x at) ∙ sym (ap (λ ws. word ws 0) head_same) ∙ v.head

    pub head_number : (i : ℕ) × (x ≡ pos i) × (i < n)
    head_number = (v.first, head_word, v.below)

    pub first_is : (head : ℕ) → pos head ≡ x → head ≡ v.first
    first_is head e = same_number head v.first (e ∙ head_word)

  module _ (x : ℤ) (at : slice_get (part_of c (first + 1)) 0 ≡ Some x) where
    tail_word : x ≡ pos (wrapped n (v.first + v.size))
    tail_word = sym (some_is (part_of c (first + 1)) x at) ∙ sym (ap (λ ws. word ws 0) tail_same) ∙ v.tail

    pub tail_number : (i : ℕ) × (x ≡ pos i) × (i < n)
    tail_number = (wrapped n (v.first + v.size), tail_word, wrapped_below n v.first v.size v.below v.few)

    pub last_is : (tail : ℕ) → pos tail ≡ x → tail ≡ wrapped n (v.first + v.size)
    last_is tail e = same_number tail (wrapped n (v.first + v.size)) (e ∙ tail_word)

  -- the rows
  pub rows_same :
      (head tail size : ℕ) (live : Bool) (ws : List ℤ) → head ≡ v.first → tail ≡ wrapped n (v.first + v.size) → slice_get c (first + (head + 2)) ≡ Some ws → live ≡ is_live ws → size ≡ size_by n head tail live
      → numbered 0 (along n (drop first c) head size) ≡ ring_rows n own
  rows_same head tail size live ws h t at l s =
      let hd : head ≡ head_of own = h ∙ sym (head_is n own v) in
      let tl : tail ≡ tail_of own = t ∙ sym (tail_is n own v) in
      let b : head < n = subst (λ (k : ℕ). k < n) (sym h) v.below in
      let two : head + 2 ≡ suc (suc head) = omega arith in
      let there : part_of own (place_part head) ≡ ws = part_there (suc (suc head)) (omega (arith, b)) ∙ ap (λ q. part_of c (first + q)) (sym two) ∙ part_is c (first + (head + 2)) ws at in
      let lv : live ≡ is_live (part_of own (place_part (head_of own))) = l ∙ sym (ap is_live there) ∙ ap (λ q. is_live (part_of own (place_part q))) hd in
      let sz : size ≡ size_of n own = s ∙ (λ i. size_by n (hd i) (tl i) (lv i)) in
      let few : size ≤ n = subst (λ (k : ℕ). k ≤ n) (sym (sz ∙ size_is n own v)) v.few in
      ap (numbered 0) (along-same n (drop first c) own head size b few
      (λ j d.
      let w : wrapped n (head + j) < n = wrapped_below n head j b (omega (arith, d, few)) in
      ap (λ ws. word ws 1) (sym (get_or-take (length (ring_widths n)) (drop first c) (place_part (wrapped n (head + j))) [] (omega (arith, w, length_twos n))))))
      ∙ (λ i. numbered 0 (along n own (hd i) (sz i)))
