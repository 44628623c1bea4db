-- get k
use Rattle.std.specs.Prelude.{ℕ, ℤ, Option, Some, None, [], ◌∷◌}
use Rattle.sto_item.specs.declared.item.Item.TheVariants.{Seen}
use Rattle.sto_type.specs.Reading.{Reading, Read, Say}
use Rattle.sto_tree.specs.Layout.{key_part, value_part, place_of}
use Rattle.sto_tree.specs.Said.{cover, here, at_leaf}

-- a key that is there: its place, and its value; one that is not: the whole key part
abbrev pub get_there : ℤ → ℕ → Option ℕ → Reading
get_there k l (Some i) = Read (value_part l i) (λ ws. Say (cover l k k (here l i k (Seen (value_part l i) ∷ []))) [])
get_there k l None = Say (cover l k k (Seen (key_part l) ∷ [])) []

abbrev pub get_reading : ℕ → ℤ → Reading
get_reading leaves k = at_leaf leaves k (λ dir l ks. get_there k l (place_of ks k))
