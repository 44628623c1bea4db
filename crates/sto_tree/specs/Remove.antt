-- remove k
use Rattle.std.specs.Prelude.{ℕ, ℤ, pos, negsuc, Option, Some, None, [], ◌∷◌}
use Rattle.sto_part.specs.declared.change.Change.TheVariants.{Keep, Put}
use Rattle.sto_item.specs.declared.item.Item.TheVariants.{Seen}
use Rattle.sto_type.specs.Reading.{Reading, Say}
use Rattle.sto_tree.specs.Layout.{key_part, place_of}
use Rattle.sto_tree.specs.Said.{cover, here, at_leaf, key_changes, at_place, size_grows}

-- a key that is there: its place, which is present no more; one that is not: the whole key part
abbrev pub remove_there : ℤ → ℕ → Option ℕ → Reading
remove_there k l (Some i) = Say (cover l k k (here l i k [])) (size_grows (negsuc 0) ∷ (key_part l, key_changes (at_place i (Put (pos 0)) Keep)) ∷ [])
remove_there k l None = Say (cover l k k (Seen (key_part l) ∷ [])) []

abbrev pub remove_reading : ℕ → ℤ → Reading
remove_reading leaves k = at_leaf leaves k (λ dir l ks. remove_there k l (place_of ks k))
