-- put k v
use Rattle.std.specs.Prelude.{◌*◌, ℕ, ℤ, pos, int_le, not, Bool, true, false, Option, Some, None, List, [], ◌∷◌}
use Rattle.sto_item.specs.declared.item.Item.TheVariants.{Seen}
use Rattle.sto_type.specs.Reading.{Reading, Read, Say}
use Rattle.sto_tree.specs.Search.{first_below}
use Rattle.sto_tree.specs.Layout.{key_part, place_of, free_place, is_live, word}
use Rattle.sto_tree.specs.Said.{cover, here, at_leaf, value_is, new_row, has_room, is_full}
use Rattle.sto_tree.specs.Split.{split_reading}
use Rattle.sto_tree.specs.Repack.{repack_reading}

-- the lowest leaf that is not live
abbrev pub free_leaf : ℕ → List ℤ → Option ℕ
free_leaf leaves dir = first_below (λ l. not (is_live dir l)) leaves

module _ (leaves : ℕ) (k v : ℤ) where
  -- all places of the leaf are present: it is split, or where all leaves are live all are packed anew
  abbrev pub put_crowded : List ℤ → ℕ → List ℤ → Option ℕ → Reading
  put_crowded dir l ks (Some m) = split_reading leaves k v dir l ks m
  put_crowded dir l ks None = repack_reading leaves k v dir

  -- a new key goes to the lowest free place
  abbrev pub put_free : List ℤ → ℕ → List ℤ → Option ℕ → Reading
  put_free dir l ks (Some i) =
      Say (cover l k k (Seen (key_part l) ∷ has_room leaves ∷ [])) (new_row l i k v)
  put_free dir l ks None = put_crowded dir l ks (free_leaf leaves dir)

  -- a new key, by whether the tree is full
  abbrev pub put_new : List ℤ → ℕ → List ℤ → Bool → Reading
  put_new dir l ks true = Say (cover l k k (Seen (key_part l) ∷ is_full leaves ∷ [])) []
  put_new dir l ks false = put_free dir l ks (free_place ks)

  -- by the place of the key
  abbrev pub put_there : List ℤ → ℕ → List ℤ → Option ℕ → Reading
  put_there dir l ks (Some i) = Say (cover l k k (here l i k [])) (value_is l i v ∷ [])
  put_there dir l ks None = Read 0 (λ ws. put_new dir l ks (int_le (pos (4 * leaves)) (word ws 0)))

  abbrev pub put_reading : Reading
  put_reading = at_leaf leaves k (λ dir l ks. put_there dir l ks (place_of ks k))
