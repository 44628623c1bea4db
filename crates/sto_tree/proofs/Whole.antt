-- Whole contents of a tree, alone and among other parts.
use Rattle.std.proofs.Common.{◌≡◌, ◌<◌, ◌≤◌, ◌+◌, ℕ, zero, suc, ℤ, pos, Option, Some, List, [], ◌∷◌, ◌++◌, ◌&&◌, length, replicate, take, drop, slice_get, sym, ◌∙◌, ap, arith}
use Rattle.std.proofs.lemmas.List.{length-map, length-take, length-drop, get_or-take, get_or-drop}
use Rattle.sto_part.specs.Parts.{part_of, zeros}
use Rattle.sto_type.specs.Known.{Parts}
use Rattle.std.specs.Ordering.{int_eq}
use Rattle.sto_model.specs.Rows.{Row}
use Rattle.sto_tree.specs.Tests.{true_equal}
use Rattle.sto_tree.specs.Layout.{listed, parts_of, width_of, word, slot_of}
use Rattle.sto_tree.specs.Sized.{HasTreeWidths, length-listed, tree_length, tree_width}

-- one part more
pub zeros_more : (f : ℕ → ℕ) (i n : ℕ) → zeros (listed f i (suc n)) ≡ zeros (listed f i n) ++ replicate (f (i + n)) (pos 0) ∷ []
zeros_more f i zero = let e : i ≡ i + 0 = omega arith in ap (λ (x : ℕ). replicate (f x) (pos 0) ∷ []) e
zeros_more f i (suc n) = let e : suc i + n ≡ i + suc n = omega arith in ap (λ l. replicate (f i) (pos 0) ∷ l) (zeros_more f (suc i) n ∙ ap (λ (x : ℕ). zeros (listed f (suc i) n) ++ replicate (f x) (pos 0) ∷ []) e)

pub length-zeros : (f : ℕ → ℕ) (i n : ℕ) → length (zeros (listed f i n)) ≡ n
length-zeros f i n = length-map (listed f i n) (λ w. replicate w (pos 0)) ∙ length-listed f i n

-- a part among other parts
module _ (leaves first : ℕ) (c : Parts) (h : HasTreeWidths leaves (take (parts_of leaves) (drop first c))) where
  pub all_there : first + parts_of leaves ≤ length c
  all_there = omega (arith, tree_length leaves (take (parts_of leaves) (drop first c)) h, length-take (parts_of leaves) (drop first c), length-drop first c)

  pub part_there : (p : ℕ) → p < parts_of leaves → part_of (take (parts_of leaves) (drop first c)) p ≡ part_of c (first + p)
  part_there p b = get_or-take (parts_of leaves) (drop first c) p [] b ∙ get_or-drop first c p []

  pub word_there : (p w : ℕ) → p < parts_of leaves → w < width_of leaves p → w < length (part_of c (first + p))
  word_there p w b g = let e : length (part_of c (first + p)) ≡ width_of leaves p = ap length (sym (part_there p b)) ∙ tree_width leaves (take (parts_of leaves) (drop first c)) p h b in omega (arith, e, g)

pub word_is : (ws : List ℤ) (i : ℕ) (x : ℤ) → slice_get ws i ≡ Some x → x ≡ word ws i
word_is [] zero x e = cc
word_is [] (suc i) x e = cc
word_is (y ∷ ws) zero x e = cc
word_is (y ∷ ws) (suc i) x e = word_is ws i x e

-- a place that is present in a leaf that is live
pub slot_there : (a b k v x y : ℤ) → a ≡ pos 1 → b ≡ pos 1 → x ≡ k → y ≡ v → Some (x, y) ≡ slot_of (int_eq a (pos 1) && int_eq b (pos 1)) k v
slot_there a b k v x y live present ek ev =
    let same : ◌≡◌ {A = Option Row} (Some (x, y)) (Some (k, v)) = λ i. Some (ek i, ev i) in
    same ∙ sym (ap (λ u. slot_of (u && int_eq b (pos 1)) k v) (true_equal a (pos 1) live) ∙ ap (λ u. slot_of u k v) (true_equal b (pos 1) present))
