-- How many keys of a range there are, as far as what is known tells it.
use Rattle.std.specs.Prelude.{◌+◌, ℕ, zero, suc, ℤ, pos, Bool, true, false, ◌&&◌, Option, Some, None, List, if◌then◌else◌}
use Rattle.sto_model.specs.Rows.{rows_between}
use Rattle.sto_model.specs.PlainReplies.{PlainReply, Value, Pairs}
use Rattle.sto_type.specs.Known.{Known}
use Rattle.sto_tree.specs.Layout.{key_part, is_present, key}
use Rattle.sto_tree.specs.Between.{meets}
use Rattle.sto_tree.specs.RowsBetween.{lies}
use Rattle.sto_tree.specs.KnownRows.{known_rows}

-- whether place i of a key part is present with a key from a to b
abbrev pub is_counted : List ℤ → ℤ → ℤ → ℕ → Bool
is_counted ks a b i = is_present ks i && lies a b (key ks i)

-- how many of the first n places are
abbrev pub counted_keys : List ℤ → ℤ → ℤ → ℕ → ℕ
counted_keys ks a b zero = 0
counted_keys ks a b (suc i) = if is_counted ks a b i then suc (counted_keys ks a b i) else counted_keys ks a b i

abbrev pub counted_part : Option (List ℤ) → ℤ → ℤ → ℕ
counted_part (Some ks) a b = counted_keys ks a b 8
counted_part None a b = 0

-- how many of the places of leaf l are, where it has some number from a to b
abbrev pub counted_leaf : Known → List ℤ → ℤ → ℤ → ℕ → ℕ
counted_leaf k dir a b l = if meets dir a b l then counted_part (k (key_part l)) a b else 0

-- how many of the places of the first n leaves are
abbrev pub known_count : ℕ → Known → List ℤ → ℤ → ℤ → ℕ
known_count zero k dir a b = 0
known_count (suc l) k dir a b = counted_leaf k dir a b l + known_count l k dir a b

-- what a scan, or a count, tells of the range
abbrev pub known_told : Bool → ℕ → Known → List ℤ → ℤ → ℤ → PlainReply
known_told true leaves k dir a b = Pairs (rows_between (known_rows leaves k dir a b) a b)
known_told false leaves k dir a b = Value (pos (known_count leaves k dir a b))
