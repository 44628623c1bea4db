-- The rows of a range, as far as what is known tells them.
use Rattle.std.specs.Prelude.{◌/◌, ◌%◌, ◌*◌, ℕ, zero, suc, ℤ, pos, Option, Some, None, List, if◌then◌else◌}
use Rattle.sto_model.specs.Rows.{Row}
use Rattle.sto_type.specs.Known.{Known}
use Rattle.sto_tree.specs.Slots.{Slots, with_slot, gathered}
use Rattle.sto_tree.specs.Layout.{key_part, value_part, is_present, key, word, slot_of, place_slot}
use Rattle.sto_tree.specs.Between.{meets}

-- a value that is known, else 0
abbrev pub known_value : Option (List ℤ) → ℤ
known_value (Some ws) = word ws 0
known_value None = pos 0

-- the row at a place of a key part that is known
abbrev pub known_place : Option (List ℤ) → ℕ → ℤ → Option Row
known_place (Some ks) i v = slot_of (is_present ks i) (key ks i) v
known_place None i v = None

-- the rows of the leaves that have some number from a to b
abbrev pub known_slot : Known → List ℤ → ℤ → ℤ → Slots
known_slot k dir a b j = if meets dir a b (j / 8) then known_place (k (key_part (j / 8))) (j % 8) (known_value (k (value_part (j / 8) (j % 8)))) else None

abbrev pub known_rows : ℕ → Known → List ℤ → ℤ → ℤ → List Row
known_rows leaves k dir a b = gathered (known_slot k dir a b) (8 * leaves)

-- rows with those of the first n places of a key part
abbrev pub with_places : List Row → List ℤ → (ℕ → ℤ) → ℕ → List Row
with_places rows ks values zero = rows
with_places rows ks values (suc i) = with_slot (with_places rows ks values i) (place_slot ks values i)

-- rows with those of a key part, as far as it is known
abbrev pub with_part : List Row → Option (List ℤ) → (ℕ → ℤ) → List Row
with_part rows (Some ks) values = with_places rows ks values 8
with_part rows None values = rows

-- the value at a place of leaf l, 0 where it is not known
abbrev pub known_values : Known → ℕ → ℕ → ℤ
known_values k l i = known_value (k (value_part l i))
