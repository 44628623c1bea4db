-- count a b and scan a b
use Rattle.std.specs.Prelude.{ℕ, zero, ℤ, pos, negsuc, int_le, Bool, true, false, ◌&&◌, if◌then◌else◌, unwrap_or, List, [], ◌∷◌, ◌++◌, map}
use Rattle.std.specs.Int.{int_min, int_max}
use Rattle.sto_item.specs.declared.item.Item.{Item}
use Rattle.sto_item.specs.declared.item.Item.TheVariants.{Seen}
use Rattle.sto_model.specs.Rows.{Row, rows_between}
use Rattle.sto_type.specs.Reading.{Reading, Read, Say, read_all}
use Rattle.sto_tree.specs.Slots.{Slots, gathered}
use Rattle.sto_tree.specs.Layout.{key_part, value_part, is_live, low, high, place_of, place_slot, slot_of}
use Rattle.sto_tree.specs.Said.{cover}

-- whether leaf l is live and has some number from a to b
abbrev pub meets : List ℤ → ℤ → ℤ → ℕ → Bool
meets dir a b l = is_live dir l && (int_le (low dir l) b && int_le a (high dir l))

-- such leaves, each where it begins
abbrev pub leaf_slots : List ℤ → ℤ → ℤ → Slots
leaf_slots dir a b l = slot_of (meets dir a b l) (low dir l) (pos l)

abbrev pub leaf_number : Row → ℕ
leaf_number (k, pos l) = l
leaf_number (k, negsuc l) = zero

-- their numbers, in the order of their ranges
abbrev pub leaves_between : ℕ → List ℤ → ℤ → ℤ → List ℕ
leaves_between leaves dir a b = map leaf_number (gathered (leaf_slots dir a b) leaves)

-- the part of leaf l from a to b
abbrev pub from_in : List ℤ → ℤ → ℕ → ℤ
from_in dir a l = int_max a (low dir l)

abbrev pub to_in : List ℤ → ℤ → ℕ → ℤ
to_in dir b l = int_min b (high dir l)

-- the keys that are present in a key part, in rising order, each with the value 0
abbrev pub key_rows : List ℤ → List Row
key_rows ks = gathered (place_slot ks (λ i. pos 0)) 8

-- the value part of a key of leaf l
abbrev pub value_part_of : ℕ → List ℤ → ℤ → ℕ
value_part_of l ks k = value_part l (unwrap_or (place_of ks k) 0)

-- those of the keys from x to y, in rising key
abbrev pub values_between : ℕ → List ℤ → ℤ → ℤ → List ℕ
values_between l ks x y = map (λ r. value_part_of l ks r.0) (rows_between (key_rows ks) x y)

-- those that are read: a scan reads them, a count does not
abbrev pub values_read : Bool → ℕ → List ℤ → ℤ → ℤ → List ℕ
values_read true l ks x y = values_between l ks x y
values_read false l ks x y = []

abbrev pub all_seen : List ℕ → List Item
all_seen ps = map (λ p. Seen p) ps

-- what is read of leaf l after its key part, and what is observed of it
abbrev pub leaf_values : Bool → List ℤ → ℤ → ℤ → List ℤ → ℕ → List ℕ
leaf_values scans dir a b ks l = values_read scans l ks (from_in dir a l) (to_in dir b l)

abbrev pub leaf_items : Bool → List ℤ → ℤ → ℤ → List ℤ → ℕ → List Item
leaf_items scans dir a b ks l = cover l (from_in dir a l) (to_in dir b l) (Seen (key_part l) ∷ all_seen (leaf_values scans dir a b ks l))

-- one leaf after the other, after what was observed before
abbrev pub between_each : Bool → List ℤ → ℤ → ℤ → List ℕ → List Item → Reading
between_each scans dir a b [] is = Say is []
between_each scans dir a b (l ∷ ls) is =
    Read (key_part l) (λ ks. read_all (leaf_values scans dir a b ks l) (between_each scans dir a b ls (is ++ leaf_items scans dir a b ks l)))

-- nothing where a is above b
abbrev pub between_reading : ℕ → Bool → ℤ → ℤ → Reading
between_reading leaves scans a b = if int_le a b then Read 1 (λ dir. between_each scans dir a b (leaves_between leaves dir a b) []) else Say [] []
