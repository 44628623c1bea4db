-- The predicates of a tree name words of their parts.
use Rattle.std.proofs.Common.{◌≡◌, ◌<◌, ◌+◌, ◌*◌, ℕ, zero, suc, ℤ, List, [], ◌∷◌, ◌++◌, slice_index_or, ◌∙◌, ap, arith, refl, inl, inr}
use Rattle.std.specs.List.{flat_map}
use Rattle.sto_item.specs.declared.item.Item.{Item}
use Rattle.sto_item.specs.declared.item.Item.TheVariants.{Seen, Holds}
use Rattle.sto_type.specs.Meaning.{EachInside}
use Rattle.sto_tree.specs.Layout.{listed, parts_of, width_of, key_part}
use Rattle.sto_tree.specs.Said.{cover, here}
use Rattle.sto_tree.specs.Between.{all_seen}
use Rattle.sto_tree.specs.Members.{IsIn}
use Rattle.sto_tree.specs.Sized.{listed_at, key_width}

module _ (leaves : ℕ) where
  abbrev pub AreInside : List Item → Type 0
  AreInside is = EachInside (listed (width_of leaves) 0 (parts_of leaves)) is

  width_there : (p : ℕ) → p < parts_of leaves → slice_index_or (listed (width_of leaves) 0 (parts_of leaves)) p 0 ≡ width_of leaves p
  width_there p h = let e : 0 + p ≡ p = omega arith in listed_at (width_of leaves) 0 (parts_of leaves) p 0 h ∙ ap (width_of leaves) e

  -- a word of the size, of the directory, of a key part
  pub in_size : 0 < slice_index_or (listed (width_of leaves) 0 (parts_of leaves)) 0 0
  in_size = omega (arith, width_there 0 (omega arith))

  pub in_directory : (w : ℕ) → w < 3 * leaves → w < slice_index_or (listed (width_of leaves) 0 (parts_of leaves)) 1 0
  in_directory w h = omega (arith, h, width_there 1 (omega (arith, h)))

  in_keys : (l w : ℕ) → l < leaves → w < 16 → w < slice_index_or (listed (width_of leaves) 0 (parts_of leaves)) (key_part l) 0
  in_keys l w b g = omega (arith, g, width_there (key_part l) (omega (arith, b)), key_width leaves l)

  pub inside_cover : (l : ℕ) (x y : ℤ) (is : List Item) → l < leaves → AreInside is → AreInside (cover l x y is)
  inside_cover l x y is b h = (in_directory (3 * l) (omega (arith, b)), (in_directory (3 * l + 1) (omega (arith, b)), (in_directory (3 * l + 2) (omega (arith, b)), h)))

  pub inside_here : (l i : ℕ) (k : ℤ) (is : List Item) → l < leaves → i < 8 → AreInside is → AreInside (here l i k is)
  inside_here l i k is b g h = (in_keys l (2 * i) b (omega (arith, g)), (in_keys l (2 * i + 1) b (omega (arith, g)), h))

  -- items one after the other
  pub inside_append : (is js : List Item) → AreInside is → AreInside js → AreInside (is ++ js)
  inside_append [] js h k = k
  inside_append (Seen p ∷ is) js h k = inside_append is js h k
  inside_append (Holds p ∷ is) js h k = (h.0, inside_append is js h.1 k)

  pub inside_seen : (ps : List ℕ) → AreInside (all_seen ps)
  inside_seen [] = tt
  inside_seen (p ∷ ps) = inside_seen ps

  pub inside_each : (f : ℕ → List Item) (ls : List ℕ) → ((l : ℕ) → IsIn l ls → AreInside (f l)) → AreInside (flat_map f ls)
  inside_each f [] all = tt
  inside_each f (l ∷ ls) all = inside_append (f l) (flat_map f ls) (all l (inl refl)) (inside_each f ls (λ m h. all m (inr h)))
