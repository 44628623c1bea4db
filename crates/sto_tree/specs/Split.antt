-- put k v, where the leaf of k has no free place and some leaf is not live: the leaf is split
use Rattle.std.specs.Prelude.{◌+◌, ◌*◌, ◌-◌, ◌-ℤ◌, ℕ, zero, suc, ℤ, pos, int_le, int_lt, nat_eq, nat_lt, Bool, ◌&&◌, if◌then◌else◌, unwrap_or, List, [], ◌∷◌, ◌++◌, drop, slice_index_or}
use Rattle.sto_part.specs.declared.change.Change.{Change}
use Rattle.sto_part.specs.declared.change.Change.TheVariants.{Keep, Put}
use Rattle.sto_part.specs.declared.pred.Test.TheVariants.{Eq, Le}
use Rattle.sto_item.specs.declared.item.Item.{Item}
use Rattle.sto_item.specs.declared.item.Item.TheVariants.{Seen}
use Rattle.sto_item.specs.Pending.{Entry, with_updates}
use Rattle.sto_model.specs.Rows.{Row}
use Rattle.sto_type.specs.Reading.{Reading, Say, read_each}
use Rattle.sto_tree.specs.Search.{first_below}
use Rattle.sto_tree.specs.Slots.{gathered}
use Rattle.sto_tree.specs.Layout.{key_part, value_part, is_present, key, high, word, place_slot}
use Rattle.sto_tree.specs.Said.{compared, has_room, key_changes, value_is, new_row}
use Rattle.sto_tree.specs.Between.{key_rows, all_seen}

-- the changes of the directory, three for each leaf
abbrev pub in_threes : (ℕ → Change × Change × Change) → ℕ → ℕ → List Change
in_threes f l zero = []
in_threes f l (suc n) = (f l).0 ∷ (f l).1 ∷ (f l).2 ∷ in_threes f (suc l) n

-- the fifth key of a full leaf, in rising order
abbrev pub middle : List ℤ → ℤ
middle ks = (slice_index_or (key_rows ks) 4 (pos 0, pos 0)).0

-- whether place i moves: its key is one of the upper four
abbrev pub moves : List ℤ → ℕ → Bool
moves ks i = is_present ks i && int_le (middle ks) (key ks i)

-- the places below n that move, rising, as value parts of leaf l
abbrev pub moved_values : ℕ → List ℤ → ℕ → List ℕ
moved_values l ks zero = []
moved_values l ks (suc n) = moved_values l ks n ++ (if moves ks n then value_part l n ∷ [] else [])

-- the upper four rows, by the words of their value parts
abbrev pub upper_rows : ℕ → List ℤ → (ℕ → List ℤ) → List Row
upper_rows l ks words = drop 4 (gathered (place_slot ks (λ i. word (words (value_part l i)) 0)) 8)

module _ (leaves : ℕ) (dir : List ℤ) (l : ℕ) (ks : List ℤ) (m : ℕ) where
  -- leaf l ends below the fifth key, where leaf m begins
  abbrev pub split_ranges : ℕ → Change × Change × Change
  split_ranges j =
      if nat_eq j l then (Keep, Keep, Put (middle ks -ℤ pos 1))
      else if nat_eq j m then (Put (pos 1), Put (middle ks), Put (high dir l))
      else (Keep, Keep, Keep)

  -- leaf l loses the places that move
  abbrev pub split_lower : ℕ → Change × Change
  split_lower i = if moves ks i then (Put (pos 0), Keep) else (Keep, Keep)

  -- leaf m gets the upper four pairs in its places 0 to 3
  abbrev pub split_upper : List Row → ℕ → Change × Change
  split_upper upper i = if nat_lt i 4 then (Put (pos 1), Put (slice_index_or upper i (pos 0, pos 0)).0) else (Put (pos 0), Keep)

  -- their values, from place i of leaf m on
  abbrev pub upper_values : ℕ → List Row → List Entry
  upper_values i [] = []
  upper_values i (r ∷ rows) = value_is m i r.1 ∷ upper_values (suc i) rows

  abbrev pub move_updates : List Row → List Entry
  move_updates upper =
      (1, in_threes split_ranges 0 leaves) ∷ (key_part l, key_changes split_lower) ∷ (key_part m, key_changes (split_upper upper)) ∷ upper_values 0 upper

-- where a new key goes: to leaf l below the fifth key, else to leaf m; there to the lowest place that is free after the move
abbrev pub split_place : ℤ → ℕ → List ℤ → ℕ → ℕ × ℕ
split_place k l ks m = if int_lt k (middle ks) then (l, unwrap_or (first_below (moves ks) 8) 0) else (m, 4)

module _ (leaves : ℕ) (k v : ℤ) (dir : List ℤ) (l : ℕ) (ks : List ℤ) (m : ℕ) where
  abbrev pub split_items : List Item
  split_items =
      compared 1 (3 * l) Eq (pos 1) ∷ compared 1 (3 * l + 1) Le k ∷ compared 1 (3 * l + 2) Eq (high dir l) ∷ compared 1 (3 * (m - 1)) Eq (pos 1) ∷ compared 1 (3 * m) Eq (pos 0)
      ∷ Seen (key_part l) ∷ all_seen (moved_values l ks 8) ++ has_room leaves ∷ []

  -- the move, and then the new row
  abbrev pub split_updates : List Row → List Entry
  split_updates upper = with_updates (move_updates leaves dir l ks m upper) (new_row (split_place k l ks m).0 (split_place k l ks m).1 k v)

  abbrev pub split_reading : Reading
  split_reading = read_each (moved_values l ks 8) (λ words. Say split_items (split_updates (upper_rows l ks words)))
