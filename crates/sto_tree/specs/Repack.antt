-- put k v, where the leaf of k has no free place and all leaves are live: all pairs are packed anew, four in a leaf
use Rattle.std.specs.Prelude.{◌+◌, ◌*◌, ◌/◌, ◌-ℤ◌, ℕ, zero, suc, ℤ, pos, nat_eq, nat_lt, if◌then◌else◌, List, [], ◌∷◌, ◌++◌, take, drop, length, slice_index_or}
use Rattle.sto_part.specs.declared.change.Change.{Change}
use Rattle.sto_part.specs.declared.change.Change.TheVariants.{Keep, Put}
use Rattle.sto_item.specs.declared.item.Item.{Item}
use Rattle.sto_item.specs.declared.item.Item.TheVariants.{Seen}
use Rattle.sto_item.specs.Pending.{Entry}
use Rattle.sto_model.specs.Rows.{Row, with_row}
use Rattle.sto_type.specs.Reading.{Reading, Say, read_each}
use Rattle.sto_tree.specs.Layout.{listed, key_part, value_part, is_present, word, rows_by, least, greatest}
use Rattle.sto_tree.specs.Said.{has_room, key_changes, size_grows, value_is}
use Rattle.sto_tree.specs.Between.{all_seen}
use Rattle.sto_tree.specs.Split.{in_threes}

-- the value parts of the present places of the first n leaves, rising
abbrev pub present_values_in : ℕ → List ℤ → ℕ → List ℕ
present_values_in l ks zero = []
present_values_in l ks (suc n) = present_values_in l ks n ++ (if is_present ks n then value_part l n ∷ [] else [])

abbrev pub present_values : (ℕ → List ℤ) → ℕ → List ℕ
present_values words zero = []
present_values words (suc l) = present_values words l ++ present_values_in l (words (key_part l)) 8

-- row j of a list
abbrev pub row_at : List Row → ℕ → Row
row_at rows j = slice_index_or rows j (pos 0, pos 0)

-- how many leaves so many rows take, four in a leaf; and the rows of leaf j
abbrev pub leaves_for : ℕ → ℕ
leaves_for n = (n + 3) / 4

abbrev pub rows_of_leaf : List Row → ℕ → List Row
rows_of_leaf rows j = take 4 (drop (4 * j) rows)

-- the places of a key part: from place 0 on they take the rows, and no other is present
abbrev pub filled : List Row → ℕ → Change × Change
filled rows i = if nat_lt i (length rows) then (Put (pos 1), Put (row_at rows i).0) else (Put (pos 0), Keep)

-- the values of the rows, from place i of leaf l on
abbrev pub row_values : ℕ → ℕ → List Row → List Entry
row_values l i [] = []
row_values l i (r ∷ rows) = value_is l i r.1 ∷ row_values l (suc i) rows

module _ (rows : List Row) where
  -- where leaf j begins: the first at the least number, another at its first key
  abbrev pub begins : ℕ → ℤ
  begins j = if nat_eq j 0 then least else (row_at rows (4 * j)).0

  -- where it ends: below the next leaf, the last at the greatest number
  abbrev pub ends : ℕ → ℤ
  ends j = if nat_lt (suc j) (leaves_for (length rows)) then begins (suc j) -ℤ pos 1 else greatest

  -- the directory anew
  abbrev pub packed_ranges : ℕ → Change × Change × Change
  packed_ranges j =
      if nat_lt j (leaves_for (length rows)) then (Put (pos 1), Put (begins j), Put (ends j)) else (Put (pos 0), Put (pos 0), Put (pos 0))

  -- n leaves, from leaf j on
  abbrev pub packed_leaves : ℕ → ℕ → List Entry
  packed_leaves j zero = []
  packed_leaves j (suc n) = (key_part j, key_changes (filled (rows_of_leaf rows j))) ∷ row_values j 0 (rows_of_leaf rows j) ++ packed_leaves (suc j) n

-- all leaves, of which the rows are one more than before
abbrev pub packed_updates : ℕ → List Row → List Entry
packed_updates leaves rows = size_grows (pos 1) ∷ (1, in_threes (packed_ranges rows) 0 leaves) ∷ packed_leaves rows 0 leaves

-- the key parts of all leaves
abbrev pub key_parts : ℕ → List ℕ
key_parts leaves = listed key_part 0 leaves

abbrev pub repack_items : ℕ → (ℕ → List ℤ) → List Item
repack_items leaves words = Seen 1 ∷ all_seen (key_parts leaves) ++ (all_seen (present_values words leaves) ++ has_room leaves ∷ [])

-- the rows by the words that were read
abbrev pub rows_read : ℕ → List ℤ → (ℕ → List ℤ) → (ℕ → List ℤ) → List Row
rows_read leaves dir words values = rows_by leaves dir (λ l. words (key_part l)) (λ l i. word (values (value_part l i)) 0)

abbrev pub repack_reading : ℕ → ℤ → ℤ → List ℤ → Reading
repack_reading leaves k v dir =
    read_each (key_parts leaves)
    (λ words. read_each (present_values words leaves)
    (λ values. Say (repack_items leaves words) (packed_updates leaves (with_row (rows_read leaves dir words values) k v))))
