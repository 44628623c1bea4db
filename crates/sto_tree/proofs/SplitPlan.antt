-- What a put that splits its leaf comes to, on what is known.
use Rattle.std.proofs.Common.{◌≡◌, ◌≢◌, ◌<◌, ◌*◌, ◌^◌, ◌⊎◌, nat_eq, ℕ, zero, suc, ℤ, pos, Bool, true, false, int_le, int_lt, Some, None, List, [], ◌∷◌, ◌++◌, length, drop, refl, sym, ◌∙◌, ap, subst, arith, inl, inr}
use Rattle.std.specs.Prelude.{if◌then◌else◌, unwrap_or, ◌-ℤ◌}
use Rattle.std.specs.Int.{w64}
use Rattle.std.specs.Int.RustNames.{FitsSigned}
use Rattle.std.proofs.lemmas.Bool.Decides.{nat_tests}
use Rattle.std.proofs.lemmas.List.{take_all, length-drop}
use Rattle.sto_part.specs.Parts.{part_of}
use Rattle.sto_item.specs.declared.item.Item.{Item}
use Rattle.sto_item.specs.Pending.{Entry, AreUpdates, with_updates}
use Rattle.sto_item.specs.Agreement.{HasWidths}
use Rattle.sto_model.specs.declared.call.Call.{Call}
use Rattle.sto_model.specs.declared.operation.Operation.TheVariants.{Put}
use Rattle.sto_model.specs.Rows.{Row}
use Rattle.sto_model.specs.PlainReplies.{Done}
use Rattle.sto_model.proofs.RowFacts.{by_test}
use Rattle.sto_type.specs.Known.{Parts, Known, IsPartOf}
use Rattle.sto_type.specs.Plans.{Ask, Say, IsPlan}
use Rattle.sto_type.specs.Reading.{Reading, updates_at, read_each, Say as Said}
use Rattle.sto_tree.specs.Search.{first_below}
use Rattle.sto_tree.specs.Slots.{gathered}
use Rattle.sto_tree.specs.SlotFacts.{gathered_same}
use Rattle.sto_tree.specs.Layout.{parts_of, directory, keys, key, value_part, word, size, is_present, place_of, free_place, place_slot, slot_of, leaf_of}
use Rattle.sto_tree.specs.Valid.{IsTree}
use Rattle.sto_tree.specs.Said.{new_row}
use Rattle.sto_tree.specs.Put.{free_leaf}
use Rattle.sto_tree.specs.Repack.{rows_of_leaf}
use Rattle.sto_tree.specs.Split.{middle, moves, moved_values, upper_rows, move_updates, split_place, split_items, split_updates}
use Rattle.sto_tree.specs.SplitMove.{IsCrowded as IsFullLeaf, moved_listed, l_below_m, eight, down_fits, move_widths}
use Rattle.sto_tree.specs.SplitLaw.{w, move_ordered, more_widths, target}
use Rattle.sto_tree.specs.Members.{IsIn}
use Rattle.sto_tree.specs.Meaning.{tree_meaning}
use Rattle.sto_tree.specs.Threes.{words_on, words_on_part, updates_read_each}
use Rattle.sto_tree.specs.Found.{IsAtLeaf, IsCrowded}
use Rattle.sto_tree.specs.KnownRows.{known_value}
use Rattle.sto_tree.specs.Walked.{first_unknown, moved_value}
use Rattle.sto_tree.proofs.Parts.{known_part}
use Rattle.sto_tree.proofs.Leaves.{leaf_in, same_directory, same_leaf, same_keys}
use Rattle.sto_tree.proofs.Walks.{each_known, need_each, items_each}
use Rattle.sto_tree.proofs.PutPlan.{crowded_asks, crowded_says}

-- a part that is not listed has no words
pub words_on_other : (ps : List ℕ) (c : Parts) (q : ℕ) → (IsIn q ps → ⊥) → words_on ps c q ≡ []
words_on_other [] c q h = refl
words_on_other (p ∷ ps) c q h = elim (same_or_not q p) [
  | inl e ↦ absurd (h (inl (sym e)))
  | inr n ↦ ap (λ (b : Bool). if b then part_of c p else words_on ps c q) (other q p n) ∙ words_on_other ps c q (λ i. h (inr i))
] where
  same_or_not : (a b : ℕ) → (a ≡ b) ⊎ (a ≢ b)
  same_or_not a b = grind arith

  other : (a b : ℕ) → a ≢ b → nat_eq a b ≡ false
  other a b n = grind (arith, nat_tests)

apart : (x : ℕ) (xs ys : List ℕ) → IsIn x (xs ++ ys) → IsIn x xs ⊎ IsIn x ys
apart x [] ys h = inr h
apart x (y ∷ xs) ys h = elim h [ inl at ↦ inl (inl at) | inr later ↦ elim (apart x xs ys later) [ inl a ↦ inl (inr a) | inr a ↦ inr a ] ]

-- a place whose value part is listed moves
pub listed_moves : (l : ℕ) (ks : List ℤ) (n i : ℕ) → IsIn (value_part l i) (moved_values l ks n) → moves ks i ≡ true
listed_moves l ks zero i h = absurd h
listed_moves l ks (suc n) i h = elim (apart (value_part l i) (moved_values l ks n) (if moves ks n then value_part l n ∷ [] else []) h) [
  | inl front ↦ listed_moves l ks n i front
  | inr back ↦ one (moves ks n) refl back
] where
  one : (b : Bool) → moves ks n ≡ b → IsIn (value_part l i) (if b then value_part l n ∷ [] else []) → moves ks i ≡ true
  one true e h = elim h [ inl at ↦ let same : n ≡ i = omega (arith, at) in subst (λ (x : ℕ). moves ks x ≡ true) same e | inr bad ↦ absurd bad ]
  one false e h = absurd h

-- rows at a place that is present or not
pub slot_alike : (b : Bool) (k v x : ℤ) → (b ≡ true → v ≡ x) → slot_of b k v ≡ slot_of b k x
slot_alike true k v x h = ap (λ y. Some (k, y)) (h refl)
slot_alike false k v x h = refl

module _ (leaves : ℕ) (few : parts_of leaves < 2 ^ 32) (k : Known) (call : Call) (object : call.object ≡ 0) (third : call.c ≡ pos 0) (operation : call.operation ≡ Put)
    (fits_a : FitsSigned w64 call.a) (fits_b : FitsSigned w64 call.b)
    (dir : List ℤ) (l : ℕ) (ks : List ℤ) (at : IsAtLeaf leaves k call.a dir l ks) (crowded : IsCrowded leaves k call.a ks) (m : ℕ) (free : free_leaf leaves dir ≡ Some m) where
  abbrev moved : List ℕ
  moved = moved_values l ks 8

  -- the rows of the leaf, as far as they are known
  abbrev pub leaf_rows : List Row
  leaf_rows = gathered (place_slot ks (moved_value k l ks)) 8

  abbrev split : (ℕ → List ℤ) → Reading
  split words = Said (split_items leaves call.a call.b dir l ks m) (split_updates leaves call.a call.b dir l ks m (upper_rows l ks words))

  pub split_asks : (p : ℕ) → Some p ≡ first_unknown k moved → IsPlan (tree_meaning leaves) call k (Ask p)
  split_asks p e =
      crowded_asks leaves k call object third operation dir l ks at crowded.new crowded.size crowded.size_known crowded.room crowded.filled (Some m) free p
      (need_each k moved split (λ words. refl) ∙ sym e)

  module _ (d : Parts) (t : IsTree leaves d) (part : IsPartOf k d) where
    low : l < leaves
    low = leaf_in leaves k call.a dir l ks at

    dir_same : directory d ≡ dir
    dir_same = same_directory leaves k call.a dir l ks at d t part

    keys_same : keys d l ≡ ks
    keys_same = same_keys leaves k call.a dir l ks at d t part

    there : leaf_of leaves (directory d) call.a ≡ Some l
    there = same_leaf leaves k call.a dir l ks at d t part

    none : place_of (keys d l) call.a ≡ None
    none = ap (λ xs. place_of xs call.a) keys_same ∙ crowded.new

    not_full : int_le (pos (4 * leaves)) (size d) ≡ false
    not_full = ap (λ xs. int_le (pos (4 * leaves)) (word xs 0)) (known_part leaves k d 0 crowded.size t part (omega arith) crowded.size_known) ∙ crowded.room

    no_place : free_place (keys d l) ≡ None
    no_place = ap free_place keys_same ∙ crowded.filled

    free_there : free_leaf leaves (directory d) ≡ Some m
    free_there = ap (free_leaf leaves) dir_same ∙ free

    full_leaf : IsFullLeaf leaves d l m
    full_leaf = w leaves d t few call.a call.b fits_a fits_b l there none not_full no_place m free_there

    pub other_in : m < leaves
    other_in = full_leaf.other_in

    pub above : l < m
    above = l_below_m leaves d t l m full_leaf

    pub below_fits : FitsSigned w64 (middle ks -ℤ pos 1)
    below_fits = subst (λ (xs : List ℤ). FitsSigned w64 (middle xs -ℤ pos 1)) keys_same (down_fits leaves d t l m full_leaf)

    pub target_in : (split_place call.a l ks m).1 < 8
    target_in = subst (λ (xs : List ℤ). (split_place call.a l xs m).1 < 8) keys_same (target leaves d t few call.a call.b fits_a fits_b l there none not_full no_place m free_there).in_block

    pub target_below : (split_place call.a l ks m).0 < leaves
    target_below =
        by_test (int_lt call.a (middle ks))
        (λ e. subst (λ (q : ℕ × ℕ). q.0 < leaves) (sym (ap (λ (b : Bool). if b then (l, unwrap_or (first_below (moves ks) 8) 0) else (m, 4)) e)) low)
        (λ e. subst (λ (q : ℕ × ℕ). q.0 < leaves) (sym (ap (λ (b : Bool). if b then (l, unwrap_or (first_below (moves ks) 8) 0) else (m, 4)) e)) other_in)

    -- the rows are those that the law gathers
    module _ (all : None ≡ first_unknown k moved) where
      value_there : (i : ℕ) → i < 8 → moved_value k l ks i ≡ word (words_on moved d (value_part l i)) 0
      value_there i h =
          by_test (moves ks i)
          (λ e.
          let listed : IsIn (value_part l i) moved = moved_listed l ks 8 i h e in
          let ws : (ws : List ℤ) × (k (value_part l i) ≡ Some ws) = each_known k moved (sym all) (value_part l i) listed in
          let same : part_of d (value_part l i) ≡ ws.0 = known_part leaves k d (value_part l i) ws.0 t part (omega (arith, low, h)) ws.1 in
          ap (λ (b : Bool). if b then known_value (k (value_part l i)) else pos 0) e ∙ ap known_value ws.1 ∙ ap (λ xs. word xs 0) (sym same ∙ sym (words_on_part moved d (value_part l i) listed)))
          (λ e.
          let gone : IsIn (value_part l i) moved → ⊥ = λ x. let z : true ≡ false = sym (listed_moves l ks 8 i x) ∙ e in absurd (cc) in
          ap (λ (b : Bool). if b then known_value (k (value_part l i)) else pos 0) e ∙ ap (λ xs. word xs 0) (sym (words_on_other moved d (value_part l i) gone)))

      rows_there : leaf_rows ≡ gathered (place_slot ks (λ i. word (words_on moved d (value_part l i)) 0)) 8
      rows_there =
          gathered_same (place_slot ks (moved_value k l ks)) (place_slot ks (λ i. word (words_on moved d (value_part l i)) 0)) 8
          (λ i h. slot_alike (is_present ks i) (key ks i) (moved_value k l ks i) (word (words_on moved d (value_part l i)) 0) (λ p. value_there i h))

      pub eight_rows : length leaf_rows ≡ 8
      eight_rows =
          ap length rows_there
          ∙ subst (λ (xs : List ℤ). length (gathered (place_slot xs (λ i. word (words_on (moved_values l xs 8) d (value_part l i)) 0)) 8) ≡ 8) keys_same (eight leaves d t l m full_leaf)

      pub upper_there : rows_of_leaf leaf_rows 1 ≡ upper_rows l ks (words_on moved d)
      upper_there = take_all 4 (drop 4 leaf_rows) (omega (arith, eight_rows, length-drop 4 leaf_rows)) ∙ ap (drop 4) rows_there

      abbrev moving : List Entry
      moving = move_updates leaves dir l ks m (rows_of_leaf leaf_rows 1)

      -- what the law tells of the move, on what is known
      told_move : (P : List Entry → Type 0) → P (move_updates leaves (directory d) l (keys d l) m (upper_rows l (keys d l) (words_on (moved_values l (keys d l) 8) d))) → P moving
      told_move P h =
          subst (λ (us : List Row). P (move_updates leaves dir l ks m us)) (sym upper_there)
          (subst (λ (xs : List ℤ). P (move_updates leaves dir l xs m (upper_rows l xs (words_on (moved_values l xs 8) d)))) keys_same
          (subst (λ (ys : List ℤ). P (move_updates leaves ys l (keys d l) m (upper_rows l (keys d l) (words_on (moved_values l (keys d l) 8) d)))) dir_same h))

      pub moving_ordered : AreUpdates moving
      moving_ordered = told_move AreUpdates (move_ordered leaves d t few call.a call.b fits_a fits_b l there none not_full no_place m free_there)

      pub moving_widths : HasWidths moving d
      moving_widths = told_move (λ es. HasWidths es d) (move_widths leaves d t l m full_leaf)

      pub row_widths : HasWidths (new_row (split_place call.a l ks m).0 (split_place call.a l ks m).1 call.a call.b) d
      row_widths =
          subst (λ (xs : List ℤ). HasWidths (new_row (split_place call.a l xs m).0 (split_place call.a l xs m).1 call.a call.b) d) keys_same
          (more_widths leaves d t few call.a call.b fits_a fits_b l there none not_full no_place m free_there)

      split_says_here : with_updates moving (new_row (split_place call.a l ks m).0 (split_place call.a l ks m).1 call.a call.b) ≡ updates_at (read_each moved split) d
      split_says_here = ap (λ us. split_updates leaves call.a call.b dir l ks m us) upper_there ∙ sym (updates_read_each moved split d)

  pub split_says :
      (is : List Item) (us : List Entry) → None ≡ first_unknown k moved → is ≡ split_items leaves call.a call.b dir l ks m
      → us ≡ with_updates (move_updates leaves dir l ks m (rows_of_leaf leaf_rows 1)) (new_row (split_place call.a l ks m).0 (split_place call.a l ks m).1 call.a call.b) → IsPlan (tree_meaning leaves) call k (Say Done is us)
  split_says is us all items updates =
      crowded_says leaves k call object third operation dir l ks at crowded.new crowded.size crowded.size_known crowded.room crowded.filled (Some m) free is us
      (need_each k moved split (λ words. refl) ∙ sym all)
      (items ∙ sym (items_each k moved split (split_items leaves call.a call.b dir l ks m) (λ words. refl) (sym all)))
      (λ d t part. updates ∙ split_says_here d t part all)
