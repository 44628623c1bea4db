-- next k
use Rattle.std.specs.Prelude.{ℕ, ℤ, Option, Some, None, List, [], ◌∷◌}
use Rattle.std.specs.List.{flat_map}
use Rattle.sto_item.specs.declared.item.Item.{Item}
use Rattle.sto_item.specs.declared.item.Item.TheVariants.{Seen}
use Rattle.sto_model.specs.Rows.{least_from}
use Rattle.sto_type.specs.Reading.{Reading, Read, Say}
use Rattle.sto_tree.specs.Layout.{key_part, greatest}
use Rattle.sto_tree.specs.Said.{cover}
use Rattle.sto_tree.specs.Between.{leaves_between, from_in, to_in, key_rows}

-- what a count from a to b observes of a leaf, and of all
abbrev pub leaf_seen : List ℤ → ℤ → ℤ → ℕ → List Item
leaf_seen dir a b l = cover l (from_in dir a l) (to_in dir b l) (Seen (key_part l) ∷ [])

abbrev pub all_between : ℕ → List ℤ → ℤ → ℤ → List Item
all_between leaves dir a b = flat_map (leaf_seen dir a b) (leaves_between leaves dir a b)

-- a key is found, and all from k to it is observed; else the search goes on
abbrev pub next_in : ℕ → List ℤ → ℤ → Reading → Option ℤ → Reading
next_in leaves dir k further (Some found) = Say (all_between leaves dir k found) []
next_in leaves dir k further None = further

-- one leaf after the other; where none has a key, all from k on is observed
abbrev pub next_each : ℕ → List ℤ → ℤ → List ℕ → Reading
next_each leaves dir k [] = Say (all_between leaves dir k greatest) []
next_each leaves dir k (l ∷ ls) = Read (key_part l) (λ ks. next_in leaves dir k (next_each leaves dir k ls) (least_from (key_rows ks) k))

abbrev pub next_reading : ℕ → ℤ → Reading
next_reading leaves k = Read 1 (λ dir. next_each leaves dir k (leaves_between leaves dir k greatest))
