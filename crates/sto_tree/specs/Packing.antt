-- A directory and leaves that are written from a rising list of rows are those of a tree with these rows.
use Rattle.std.proofs.Common.{◌≡◌, ◌≢◌, ◌<◌, ◌≤◌, ◌⊎◌, ◌≤ℤ◌, ◌<ℤ◌, ◌+◌, ◌*◌, ◌^◌, ℕ, zero, suc, ℤ, pos, true, false, int_le, nat_lt, nat_eq, None, List, [], ◌∷◌, ◌++◌, length, take, drop, refl, sym, ◌∙◌, ap, subst, arith, inl, inr}
use Rattle.std.specs.Prelude.{◌-ℤ◌}
use Rattle.std.specs.Int.{w64}
use Rattle.std.specs.Int.RustNames.{FitsSigned}
use Rattle.std.specs.Ordering.{int_eq}
use Rattle.std.proofs.lemmas.Int.{ints}
use Rattle.std.proofs.lemmas.Bool.Decides.{nat_tests}
use Rattle.std.proofs.lemmas.List.{length-drop, length-take, get_or-take}
use Rattle.sto_part.specs.Parts.{part_of}
use Rattle.sto_part.specs.Changes.{applied, applied_all, wrapped_sum}
use Rattle.sto_part.specs.declared.change.Change.{Change}
use Rattle.sto_part.specs.declared.change.Change.TheVariants.{Keep, Put, Add}
use Rattle.sto_item.specs.Pending.{Entry, EachChanges, AreUpdates, is_keep, changes_of, IsRising, IsRisingFrom, applied_updates}
use Rattle.sto_item.specs.Agreement.{HasWidths}
use Rattle.sto_model.specs.Rows.{Row, RisesFrom, IsRising as RowsRise, value_at}
use Rattle.sto_model.proofs.RowFacts.{by_test, not_equal_of, IsRising-of}
use Rattle.sto_model.proofs.Maps.{same_maps, value_at-none}
use Rattle.sto_type.specs.Known.{Parts, ContentsFit}
use Rattle.sto_tree.specs.SlotFacts.{gathered_rises}
use Rattle.sto_tree.specs.Searches.{first_none}
use Rattle.sto_tree.specs.Layout.{parts_of, word, is_live, low, high, is_present, key, directory, keys, value, size, covers, leaf_of, key_part, value_part, tree_slot, tree_rows, count_present, least, greatest}
use Rattle.sto_tree.specs.Said.{key_changes}
use Rattle.sto_tree.specs.Split.{in_threes}
use Rattle.sto_tree.specs.Repack.{leaves_for, rows_of_leaf, filled, row_values, begins, ends, packed_ranges, packed_leaves, packed_updates}
use Rattle.sto_tree.specs.Valid.{IsDirectory, IsShaped, IsTree}
use Rattle.sto_tree.specs.Tests.{true_equal, le_true, true_le, le_false, by_option}
use Rattle.sto_tree.specs.Lookup.{leaf_has, value_in, value_at_tree}
use Rattle.sto_tree.specs.Sized.{HasTreeWidths, tree_length, tree_width, key_width, value_width, widths_after, UpdatesFit, ChangeFits, in_pairs_fit, fits_after, changes_here, changes_past, touched, word_after, length-in_pairs, in_pairs_first, key_words_after}
use Rattle.sto_tree.specs.OneLeaf.{same_or_not}
use Rattle.sto_tree.specs.Updating.{key_not_value, other_value, count_is, one_more}
use Rattle.sto_tree.specs.LeavesBetween.{HasRange, covers_has, has_covers}
use Rattle.sto_tree.specs.RowsBetween.{at_head, at_tail}
use Rattle.sto_tree.specs.RowLists.{row_at, rising_index, index_of_value, drop_rises, drop_index, value_at_drop, HoldsRows, value_at_held}
use Rattle.sto_tree.specs.Threes.{length-in_threes, in_threes_at, some_change, in_threes_fit, directory_after}
use Rattle.sto_tree.specs.SplitMove.{less_or_not}

-- the first n rows
pub take_rises : (n : ℕ) (rows : List Row) → RowsRise rows → RowsRise (take n rows)
take_rises zero rows h = tt
take_rises (suc n) [] h = tt
take_rises (suc n) (r ∷ rows) h = from r n rows h where
  from : (r : Row) (n : ℕ) (rows : List Row) → RisesFrom r rows → RisesFrom r (take n rows)
  from r zero rows h = tt
  from r (suc n) [] h = tt
  from r (suc n) (s ∷ rows) h = (h.0, from s n rows h.1)

-- a key below the row after the first n is among these, or nowhere
value_at_take : (n : ℕ) (rows : List Row) (q : ℤ) → RowsRise rows → (n < length rows → q <ℤ (row_at rows n).0) → value_at (take n rows) q ≡ value_at rows q
value_at_take n [] q h b = nothing n where
  nothing : (n : ℕ) → value_at (take n []) q ≡ None
  nothing zero = refl
  nothing (suc n) = refl
value_at_take zero (r ∷ rows) q h b = sym (at_tail r rows q (not_equal_of r.0 q (λ e. ne q r.0 (b (omega arith)) e)) ∙ value_at-none r rows q h (le q r.0 (b (omega arith)))) where
  ne : (q x : ℤ) → q <ℤ x → x ≡ q → ⊥
  ne q x l e = absurd (omega (arith, ints, l, e))

  le : (q x : ℤ) → q <ℤ x → q ≤ℤ x
  le q x l = grind (arith, ints)
value_at_take (suc n) (r ∷ rows) q h b =
    let rest : value_at (take n rows) q ≡ value_at rows q = value_at_take n rows q (IsRising-of r rows h) (λ l. b (omega (arith, l))) in
    by_test (int_eq r.0 q)
    (λ e. at_head r (take n rows) q e ∙ sym (at_head r rows q e))
    (λ e. at_tail r (take n rows) q e ∙ rest ∙ sym (at_tail r rows q e))

-- rising further
IsRisingFrom-less : (m n : ℕ) (es : List Entry) → m ≤ n → IsRisingFrom n es → IsRisingFrom m es
IsRisingFrom-less m n [] h r = tt
IsRisingFrom-less m n (e ∷ es) h r = (omega (arith, h, r.0), r.1)

lt_le_one : (x s : ℤ) → x <ℤ s → x ≤ℤ (s -ℤ pos 1)
lt_le_one x s h = omega (arith, ints, h)

le_one_lt : (x s : ℤ) → x ≤ℤ (s -ℤ pos 1) → x <ℤ s
le_one_lt x s h = omega (arith, ints, h)

lt_le : (x y : ℤ) → x <ℤ y → x ≤ℤ y
lt_le x y h = grind (arith, ints)

le_lt : (x y z : ℤ) → x ≤ℤ y → y <ℤ z → x <ℤ z
le_lt x y z h k = grind (arith, ints)

lt_trans : (x y z : ℤ) → x <ℤ y → y <ℤ z → x <ℤ z
lt_trans x y z h k = grind (arith, ints)

lt_not_le : (x y : ℤ) → x <ℤ y → y ≤ℤ x → ⊥
lt_not_le x y h k = absurd (omega (arith, ints, h, k))

yes_less : (i n : ℕ) → i < n → nat_lt i n ≡ true
yes_less i n h = grind (arith, nat_tests)

not_less : (i n : ℕ) → n ≤ i → nat_lt i n ≡ false
not_less i n h = grind (arith, nat_tests)

fits_low : (x : ℤ) → FitsSigned w64 x → least ≤ℤ x
fits_low x f = search (arith, ints)

fits_high : (x : ℤ) → FitsSigned w64 x → x ≤ℤ greatest
fits_high x f = search (arith, ints)

fits_mid : (a x b : ℤ) → FitsSigned w64 a → FitsSigned w64 b → a ≤ℤ x → x ≤ℤ b → FitsSigned w64 x
fits_mid a x b fa fb h k = search (arith, ints)

least_fits : FitsSigned w64 least
least_fits = search (arith, ints)

greatest_fits : FitsSigned w64 greatest
greatest_fits = search (arith, ints)

zero_fits : FitsSigned w64 (pos 0)
zero_fits = search (arith, ints)

one_fits : FitsSigned w64 (pos 1)
one_fits = search (arith, ints)

module _ (leaves : ℕ) (c : Parts) (widths : HasTreeWidths leaves c) (fits : ContentsFit c) (rows : List Row) (rise : RowsRise rows) (some : 1 ≤ length rows) (enough : length rows ≤ 4 * leaves)
    (rows_fit : (i : ℕ) → i < length rows → FitsSigned w64 (row_at rows i).0 × FitsSigned w64 (row_at rows i).1) where
  abbrev n : ℕ
  n = length rows

  abbrev u : ℕ
  u = leaves_for n

  abbrev chunk : ℕ → List Row
  chunk j = rows_of_leaf rows j

  abbrev es : List Entry
  es = packed_updates leaves rows

  abbrev e : Parts
  e = applied_updates es c

  used : u ≤ leaves
  used = omega (arith, enough)

  some_used : 1 ≤ u
  some_used = omega (arith, some)

  long : length c ≡ parts_of leaves
  long = tree_length leaves c widths

  chunk_length : (j : ℕ) → length (chunk j) ≤ 4
  chunk_length j = omega (arith, length-take 4 (drop (4 * j) rows))

  chunk_there : (j i : ℕ) → i < length (chunk j) → (i < 4) × (4 * j + i < n)
  chunk_there j i h = (omega (arith, h, length-take 4 (drop (4 * j) rows)), omega (arith, h, length-take 4 (drop (4 * j) rows), length-drop (4 * j) rows))

  chunk_index : (j i : ℕ) → i < 4 → row_at (chunk j) i ≡ row_at rows (4 * j + i)
  chunk_index j i h = get_or-take 4 (drop (4 * j) rows) i (pos 0, pos 0) h ∙ drop_index (4 * j) rows i

  chunk_used : (j i : ℕ) → i < length (chunk j) → j < u
  chunk_used j i h = let b : (i < 4) × (4 * j + i < n) = chunk_there j i h in omega (arith, b.0, b.1)

  -- the updates rise and have their widths
  values_then : (m l i : ℕ) (rs : List Row) (fs : List Entry) → m ≤ value_part l i → i + length rs ≤ 8 → IsRisingFrom (key_part (suc l)) fs → IsRisingFrom m (row_values l i rs ++ fs)
  values_then m l i [] fs h b r = IsRisingFrom-less m (key_part (suc l)) fs (omega (arith, h, b)) r
  values_then m l i (r0 ∷ rs) fs h b r = (h, values_then (value_part l i + 1) l (suc i) rs fs (omega arith) (omega (arith, b)) r)

  leaves_rise : (m j k : ℕ) → m ≤ key_part j → IsRisingFrom m (packed_leaves rows j k)
  leaves_rise m j zero h = tt
  leaves_rise m j (suc k) h =
      (h, values_then (key_part j + 1) j 0 (chunk j) (packed_leaves rows (suc j) k) (omega arith) (omega (arith, chunk_length j)) (leaves_rise (key_part (suc j)) (suc j) k (omega arith)))

  rising : IsRising es
  rising = (omega arith, (omega arith, leaves_rise 2 0 leaves (omega arith)))

  -- each update changes a word
  values_change : (l i : ℕ) (rs : List Row) (fs : List Entry) → EachChanges fs → EachChanges (row_values l i rs ++ fs)
  values_change l i [] fs h = h
  values_change l i (r0 ∷ rs) fs h = (refl, values_change l (suc i) rs fs h)

  filled_change : (rs : List Row) → is_keep (filled rs (0 + 0)).0 ≡ false
  filled_change rs = by_test (nat_lt (0 + 0) (length rs)) (λ e. rw e refl) (λ e. rw e refl)

  ranges_change : (j : ℕ) → is_keep (packed_ranges rows j).0 ≡ false
  ranges_change j = by_test (nat_lt j u) (λ e. rw e refl) (λ e. rw e refl)

  leaves_change : (j k : ℕ) → EachChanges (packed_leaves rows j k)
  leaves_change j zero = tt
  leaves_change j (suc k) =
      (some_change (key_changes (filled (chunk j))) (2 * 0) (ap is_keep (in_pairs_first (filled (chunk j)) 0 8 0 (omega arith)) ∙ filled_change (chunk j)), values_change j 0 (chunk j) (packed_leaves rows (suc j) k) (leaves_change (suc j) k))

  pub packed_ordered : AreUpdates es
  packed_ordered =
      (rising, (refl, (some_change (in_threes (packed_ranges rows) 0 leaves) (3 * 0) (ap is_keep (in_threes_at (packed_ranges rows) 0 leaves 0 (omega (arith, used, some_used))).0 ∙ ranges_change (0 + 0)), leaves_change 0 leaves)))

  values_widths : (l i : ℕ) (rs : List Row) (fs : List Entry) → l < leaves → i + length rs ≤ 8 → HasWidths fs c → HasWidths (row_values l i rs ++ fs) c
  values_widths l i [] fs h b w = w
  values_widths l i (r ∷ rs) fs h b w =
      let g : i < 8 = omega (arith, b) in
      (omega (arith, long, h, g), tree_width leaves c (value_part l i) widths (omega (arith, h, g)) ∙ value_width leaves l i g, values_widths l (suc i) rs fs h (omega (arith, b)) w)

  keys_wide : (j : ℕ) → j < leaves → length (keys c j) ≡ 16
  keys_wide j h = tree_width leaves c (key_part j) widths (omega (arith, h)) ∙ key_width leaves j

  leaves_widths : (j k : ℕ) → j + k ≤ leaves → HasWidths (packed_leaves rows j k) c
  leaves_widths j zero h = tt
  leaves_widths j (suc k) h =
      let b : j < leaves = omega (arith, h) in
      (omega (arith, long, b), keys_wide j b ∙ sym (length-in_pairs (filled (chunk j)) 0 8), values_widths j 0 (chunk j) (packed_leaves rows (suc j) k) b (omega (arith, chunk_length j)) (leaves_widths (suc j) k (omega (arith, h))))

  directory_wide : length (directory c) ≡ 3 * leaves
  directory_wide = tree_width leaves c 1 widths (omega (arith, some_used, used))

  pub packed_widths : HasWidths es c
  packed_widths = (
    omega (arith, long),
    tree_width leaves c 0 widths (omega arith),
    (omega (arith, long, some_used, used), directory_wide ∙ sym (length-in_threes (packed_ranges rows) 0 leaves), leaves_widths 0 leaves (omega arith)),
  )

  -- which update a part has
  values_skipped : (l i : ℕ) (rs : List Row) (fs : List Entry) (p : ℕ) → i + length rs ≤ 8 → ((x : ℕ) → x < 8 → value_part l x ≢ p) → changes_of (row_values l i rs ++ fs) p ≡ changes_of fs p
  values_skipped l i [] fs p b other = refl
  values_skipped l i (r ∷ rs) fs p b other = changes_past (value_part l i) p (Put r.1 ∷ []) (row_values l (suc i) rs ++ fs) (other i (omega (arith, b))) ∙ values_skipped l (suc i) rs fs p (omega (arith, b)) other

  value_found : (l i : ℕ) (rs : List Row) (fs : List Entry) (x : ℕ) → x < length rs → changes_of (row_values l i rs ++ fs) (value_part l (i + x)) ≡ Put (row_at rs x).1 ∷ []
  value_found l i [] fs x h = absurd (omega (arith, h))
  value_found l i (r ∷ rs) fs zero h = let g : i + 0 ≡ i = omega arith in ap (λ (y : ℕ). changes_of (row_values l i (r ∷ rs) ++ fs) (value_part l y)) g ∙ changes_here (value_part l i) (Put r.1 ∷ []) (row_values l (suc i) rs ++ fs)
  value_found l i (r ∷ rs) fs (suc x) h =
      let g : i + suc x ≡ suc i + x = omega arith in
      ap (λ (y : ℕ). changes_of (row_values l i (r ∷ rs) ++ fs) (value_part l y)) g
      ∙ changes_past (value_part l i) (value_part l (suc i + x)) (Put r.1 ∷ []) (row_values l (suc i) rs ++ fs) (λ z. absurd (omega (arith, z))) ∙ value_found l (suc i) rs fs x (omega (arith, h))

  keys_found : (j k d : ℕ) → d < k → changes_of (packed_leaves rows j k) (key_part (j + d)) ≡ key_changes (filled (chunk (j + d)))
  keys_found j zero d h = absurd (omega (arith, h))
  keys_found j (suc k) zero h = let g : j + 0 ≡ j = omega arith in
      ap (λ (y : ℕ). changes_of (packed_leaves rows j (suc k)) (key_part y)) g ∙ changes_here (key_part j) (key_changes (filled (chunk j))) (row_values j 0 (chunk j) ++ packed_leaves rows (suc j) k) ∙ ap (λ (y : ℕ). key_changes (filled (chunk y))) (sym g)
  keys_found j (suc k) (suc d) h =
      let g : j + suc d ≡ suc j + d = omega arith in
      ap (λ (y : ℕ). changes_of (packed_leaves rows j (suc k)) (key_part y)) g
      ∙ changes_past (key_part j) (key_part (suc j + d)) (key_changes (filled (chunk j))) (row_values j 0 (chunk j) ++ packed_leaves rows (suc j) k) (λ z. absurd (omega (arith, z)))
      ∙ values_skipped j 0 (chunk j) (packed_leaves rows (suc j) k) (key_part (suc j + d)) (omega (arith, chunk_length j)) (λ x b. key_not_value j (suc j + d) x b)
      ∙ keys_found (suc j) k d (omega (arith, h)) ∙ ap (λ (y : ℕ). key_changes (filled (chunk y))) (sym g)

  values_found : (j k d x : ℕ) → d < k → x < length (chunk (j + d)) → changes_of (packed_leaves rows j k) (value_part (j + d) x) ≡ Put (row_at (chunk (j + d)) x).1 ∷ []
  values_found j zero d x h b = absurd (omega (arith, h))
  values_found j (suc k) zero x h b =
      let g : j + 0 ≡ j = omega arith in
      let b' : x < length (chunk j) = subst (λ (y : ℕ). x < length (chunk y)) g b in
      let z : 0 + x ≡ x = omega arith in
      ap (λ (y : ℕ). changes_of (packed_leaves rows j (suc k)) (value_part y x)) g
      ∙ changes_past (key_part j) (value_part j x) (key_changes (filled (chunk j))) (row_values j 0 (chunk j) ++ packed_leaves rows (suc j) k) (λ e. key_not_value j j x (omega (arith, b', chunk_length j)) (sym e))
      ∙ ap (λ (y : ℕ). changes_of (row_values j 0 (chunk j) ++ packed_leaves rows (suc j) k) (value_part j y)) (sym z)
      ∙ value_found j 0 (chunk j) (packed_leaves rows (suc j) k) x b' ∙ ap (λ (y : ℕ). Put (row_at (chunk y) x).1 ∷ []) (sym g)
  values_found j (suc k) (suc d) x h b =
      let g : j + suc d ≡ suc j + d = omega arith in
      let b' : x < length (chunk (suc j + d)) = subst (λ (y : ℕ). x < length (chunk y)) g b in
      ap (λ (y : ℕ). changes_of (packed_leaves rows j (suc k)) (value_part y x)) g
      ∙ changes_past (key_part j) (value_part (suc j + d) x) (key_changes (filled (chunk j))) (row_values j 0 (chunk j) ++ packed_leaves rows (suc j) k) (λ e. key_not_value (suc j + d) j x (omega (arith, b', chunk_length (suc j + d))) (sym e))
      ∙ values_skipped j 0 (chunk j) (packed_leaves rows (suc j) k) (value_part (suc j + d) x) (omega (arith, chunk_length j)) (λ y q. other_value j (suc j + d) y x q (omega (arith, b', chunk_length (suc j + d))) (inl (λ e. absurd (omega (arith, e)))))
      ∙ values_found (suc j) k d x (omega (arith, h)) b' ∙ ap (λ (y : ℕ). Put (row_at (chunk y) x).1 ∷ []) (sym g)

  new_size : size e ≡ wrapped_sum (size c) (pos 1)
  new_size =
      ap (λ ws. word ws 0) (touched es c 0 (Add (pos 1) ∷ []) rising packed_widths (changes_here 0 (Add (pos 1) ∷ []) ((1, in_threes (packed_ranges rows) 0 leaves) ∷ packed_leaves rows 0 leaves)))
      ∙ word_after (Add (pos 1) ∷ []) (part_of c 0) 0 (sym (tree_width leaves c 0 widths (omega arith)))

  new_directory : directory e ≡ applied_all (in_threes (packed_ranges rows) 0 leaves) (directory c)
  new_directory =
      touched es c 1 (in_threes (packed_ranges rows) 0 leaves) rising packed_widths
      (changes_past 0 1 (Add (pos 1) ∷ []) ((1, in_threes (packed_ranges rows) 0 leaves) ∷ packed_leaves rows 0 leaves) (λ z. absurd (omega (arith, z)))
      ∙ changes_here 1 (in_threes (packed_ranges rows) 0 leaves) (packed_leaves rows 0 leaves))

  new_keys : (j : ℕ) → j < leaves → keys e j ≡ applied_all (key_changes (filled (chunk j))) (keys c j)
  new_keys j h =
      let g : 0 + j ≡ j = omega arith in
      touched es c (key_part j) (key_changes (filled (chunk j))) rising packed_widths
      (changes_past 0 (key_part j) (Add (pos 1) ∷ []) ((1, in_threes (packed_ranges rows) 0 leaves) ∷ packed_leaves rows 0 leaves) (λ z. absurd (omega (arith, z)))
      ∙ changes_past 1 (key_part j) (in_threes (packed_ranges rows) 0 leaves) (packed_leaves rows 0 leaves) (λ z. absurd (omega (arith, z)))
      ∙ ap (λ (y : ℕ). changes_of (packed_leaves rows 0 leaves) (key_part y)) (sym g) ∙ keys_found 0 leaves j h ∙ ap (λ (y : ℕ). key_changes (filled (chunk y))) g)

  new_value : (j i : ℕ) → j < leaves → i < length (chunk j) → value e j i ≡ (row_at (chunk j) i).1
  new_value j i h b =
      let g : 0 + j ≡ j = omega arith in
      let b' : i < length (chunk (0 + j)) = subst (λ (y : ℕ). i < length (chunk y)) (sym g) b in
      let few : i < 8 = omega (arith, b, chunk_length j) in
      ap (λ ws. word ws 0) (touched es c (value_part j i) (Put (row_at (chunk j) i).1 ∷ []) rising packed_widths
      (changes_past 0 (value_part j i) (Add (pos 1) ∷ []) ((1, in_threes (packed_ranges rows) 0 leaves) ∷ packed_leaves rows 0 leaves) (λ z. absurd (omega (arith, z)))
      ∙ changes_past 1 (value_part j i) (in_threes (packed_ranges rows) 0 leaves) (packed_leaves rows 0 leaves) (λ z. absurd (omega (arith, z)))
      ∙ ap (λ (y : ℕ). changes_of (packed_leaves rows 0 leaves) (value_part y i)) (sym g) ∙ values_found 0 leaves j i h b' ∙ ap (λ (y : ℕ). Put (row_at (chunk y) i).1 ∷ []) g))
      ∙ word_after (Put (row_at (chunk j) i).1 ∷ []) (part_of c (value_part j i)) 0 (sym (tree_width leaves c (value_part j i) widths (omega (arith, h, few)) ∙ value_width leaves j i few))

  -- the places of a leaf
  filled_used : (rs : List Row) (i : ℕ) → i < length rs → filled rs i ≡ (Put (pos 1), Put (row_at rs i).0)
  filled_used rs i h = let b : nat_lt i (length rs) ≡ true = yes_less i (length rs) h in rw b refl

  filled_free : (rs : List Row) (i : ℕ) → length rs ≤ i → filled rs i ≡ (Put (pos 0), Keep)
  filled_free rs i h = let b : nat_lt i (length rs) ≡ false = not_less i (length rs) h in rw b refl

  place_words : (j i : ℕ) → j < leaves → i < 8 → (word (keys e j) (2 * i) ≡ applied (filled (chunk j) i).0 (word (keys c j) (2 * i))) × (key (keys e j) i ≡ applied (filled (chunk j) i).1 (key (keys c j) i))
  place_words j i hj hi =
      let r : (word (applied_all (key_changes (filled (chunk j))) (keys c j)) (2 * i) ≡ applied (filled (chunk j) i).0 (word (keys c j) (2 * i))) × (word (applied_all (key_changes (filled (chunk j))) (keys c j)) (2 * i + 1) ≡ applied (filled (chunk j) i).1 (word (keys c j) (2 * i + 1))) = key_words_after (filled (chunk j)) (keys c j) i (keys_wide j hj) hi in
      (ap (λ ws. word ws (2 * i)) (new_keys j hj) ∙ r.0, ap (λ ws. word ws (2 * i + 1)) (new_keys j hj) ∙ r.1)

  place_used : (j i : ℕ) → j < leaves → i < length (chunk j) → (word (keys e j) (2 * i) ≡ pos 1) × (key (keys e j) i ≡ (row_at (chunk j) i).0)
  place_used j i hj h =
      let r : (word (keys e j) (2 * i) ≡ applied (filled (chunk j) i).0 (word (keys c j) (2 * i))) × (key (keys e j) i ≡ applied (filled (chunk j) i).1 (key (keys c j) i)) = place_words j i hj (omega (arith, h, chunk_length j)) in
      (r.0 ∙ ap (λ (y : Change × Change). applied y.0 (word (keys c j) (2 * i))) (filled_used (chunk j) i h), r.1 ∙ ap (λ (y : Change × Change). applied y.1 (key (keys c j) i)) (filled_used (chunk j) i h))

  place_free : (j i : ℕ) → j < leaves → i < 8 → length (chunk j) ≤ i → word (keys e j) (2 * i) ≡ pos 0
  place_free j i hj hi h = (place_words j i hj hi).0 ∙ ap (λ (y : Change × Change). applied y.0 (word (keys c j) (2 * i))) (filled_free (chunk j) i h)

  chunk_held : (j : ℕ) → j < leaves → HoldsRows (keys e j) (value e j) (chunk j)
  chunk_held j hj = record {
    few = omega (arith, chunk_length j);
    present = λ i h. elim (less_or_not i (length (chunk j))) [
      | inl a ↦ true_equal (word (keys e j) (2 * i)) (pos 1) (place_used j i hj a.1).0 ∙ sym a.0
      | inr a ↦ ap (λ x. int_eq x (pos 1)) (place_free j i hj h a.1) ∙ sym a.0
    ];
    at_key = λ i h. (place_used j i hj h).1;
    at_value = λ i h. new_value j i hj h;
  }

  is_used : (j i : ℕ) → j < leaves → i < 8 → is_present (keys e j) i ≡ true → i < length (chunk j)
  is_used j i hj hi p = elim (less_or_not i (length (chunk j))) [ inl a ↦ a.1 | inr a ↦ let z : true ≡ false = sym p ∙ ap (λ x. int_eq x (pos 1)) (place_free j i hj hi a.1) in absurd (cc) ]

  -- where the leaves begin and end
  begins_past : (j : ℕ) → j ≢ 0 → begins rows j ≡ (row_at rows (4 * j)).0
  begins_past j h = let b : nat_eq j 0 ≡ false = no_zero j h in rw b refl where
    no_zero : (j : ℕ) → j ≢ 0 → nat_eq j 0 ≡ false
    no_zero j h = grind (arith, nat_tests)

  first_there : (j : ℕ) → j < u → 4 * j < n
  first_there j h = omega (arith, h)

  begins_below : (j i : ℕ) → i < 4 → 4 * j + i < n → begins rows j ≤ℤ (row_at rows (4 * j + i)).0
  begins_below j i hi h = elim (same_or_not j 0) [
    | inl at ↦ subst (λ (y : ℕ). begins rows y ≤ℤ (row_at rows (4 * j + i)).0) (sym at) (fits_low (row_at rows (4 * j + i)).0 (rows_fit (4 * j + i) h).0)
    | inr past ↦ subst (λ (x : ℤ). x ≤ℤ (row_at rows (4 * j + i)).0) (sym (begins_past j past)) (elim (same_or_not i 0) [
      | inl at ↦ let g : 4 * j ≡ 4 * j + i = omega (arith, at) in subst (λ (y : ℕ). (row_at rows (4 * j)).0 ≤ℤ (row_at rows y).0) g (le_refl (row_at rows (4 * j)).0)
      | inr more ↦ lt_le (row_at rows (4 * j)).0 (row_at rows (4 * j + i)).0 (rising_index rows (4 * j) (4 * j + i) rise (omega (arith, more)) h)
    ])
  ] where
    le_refl : (x : ℤ) → x ≤ℤ x
    le_refl x = grind (arith, ints)

  begins_fit : (j : ℕ) → j < u → FitsSigned w64 (begins rows j)
  begins_fit j h = elim (same_or_not j 0) [
    | inl at ↦ subst (λ (y : ℕ). FitsSigned w64 (begins rows y)) (sym at) least_fits
    | inr past ↦ subst (FitsSigned w64) (sym (begins_past j past)) (rows_fit (4 * j) (first_there j h)).0
  ]

  begins_rise : (i j : ℕ) → i < j → j < u → begins rows i <ℤ begins rows j
  begins_rise i j h b =
      let low_i : begins rows i ≤ℤ (row_at rows (4 * i)).0 = let g : 4 * i + 0 ≡ 4 * i = omega arith in subst (λ (y : ℕ). begins rows i ≤ℤ (row_at rows y).0) g (begins_below i 0 (omega arith) (omega (arith, h, b))) in
      subst (λ (x : ℤ). begins rows i <ℤ x) (sym (begins_past j (λ z. absurd (omega (arith, z, h)))))
      (le_lt (begins rows i) (row_at rows (4 * i)).0 (row_at rows (4 * j)).0 low_i (rising_index rows (4 * i) (4 * j) rise (omega (arith, h)) (first_there j b)))

  ends_next : (j : ℕ) → suc j < u → ends rows j ≡ begins rows (suc j) -ℤ pos 1
  ends_next j h = let b : nat_lt (suc j) u ≡ true = yes_less (suc j) u h in rw b refl

  ends_last : (j : ℕ) → u ≤ suc j → ends rows j ≡ greatest
  ends_last j h = let b : nat_lt (suc j) u ≡ false = not_less (suc j) u h in rw b refl

  next_or_last : (j : ℕ) → (suc j < u) ⊎ (u ≤ suc j)
  next_or_last j = grind arith

  key_ends : (j i : ℕ) → i < 4 → 4 * j + i < n → (row_at rows (4 * j + i)).0 ≤ℤ ends rows j
  key_ends j i hi h = elim (next_or_last j) [
    | inl next ↦ subst (λ (x : ℤ). (row_at rows (4 * j + i)).0 ≤ℤ x) (sym (ends_next j next))
        (lt_le_one (row_at rows (4 * j + i)).0 (begins rows (suc j)) (subst (λ (x : ℤ). (row_at rows (4 * j + i)).0 <ℤ x) (sym (begins_past (suc j) (λ z. absurd (omega (arith, z)))))
        (rising_index rows (4 * j + i) (4 * suc j) rise (omega (arith, hi)) (first_there (suc j) next))))
    | inr last ↦ subst (λ (x : ℤ). (row_at rows (4 * j + i)).0 ≤ℤ x) (sym (ends_last j last)) (fits_high (row_at rows (4 * j + i)).0 (rows_fit (4 * j + i) h).0)
  ]

  pub ends_fit : (j : ℕ) → j < u → FitsSigned w64 (ends rows j)
  ends_fit j h = elim (next_or_last j) [
    | inl next ↦ subst (FitsSigned w64) (sym (ends_next j next)) (fits_mid (begins rows j) (begins rows (suc j) -ℤ pos 1) (begins rows (suc j)) (begins_fit j h) (begins_fit (suc j) next)
        (lt_le_one (begins rows j) (begins rows (suc j)) (begins_rise j (suc j) (omega arith) next)) (lt_le (begins rows (suc j) -ℤ pos 1) (begins rows (suc j)) (less_one (begins rows (suc j)))))
    | inr last ↦ subst (FitsSigned w64) (sym (ends_last j last)) greatest_fits
  ] where
    less_one : (x : ℤ) → (x -ℤ pos 1) <ℤ x
    less_one x = omega (arith, ints)

  begins_ends : (j : ℕ) → j < u → begins rows j ≤ℤ ends rows j
  begins_ends j h =
      let g : 4 * j + 0 < n = let f : 4 * j < n = first_there j h in omega (arith, f) in
      le_trans_z (begins rows j) (row_at rows (4 * j + 0)).0 (ends rows j) (begins_below j 0 (omega arith) g) (key_ends j 0 (omega arith) g)
    where
      le_trans_z : (x y z : ℤ) → x ≤ℤ y → y ≤ℤ z → x ≤ℤ z
      le_trans_z x y z h k = grind (arith, ints)

  -- the words of the directory
  abbrev Three : ℕ → Type 0
  Three j = (word (directory e) (3 * j) ≡ applied (packed_ranges rows j).0 (word (directory c) (3 * j))) × (low (directory e) j ≡ applied (packed_ranges rows j).1 (low (directory c) j)) × (high (directory e) j ≡ applied (packed_ranges rows j).2 (high (directory c) j))

  three : (j : ℕ) → j < leaves → Three j
  three j h =
      let r : (word (applied_all (in_threes (packed_ranges rows) 0 leaves) (directory c)) (3 * j) ≡ applied (packed_ranges rows j).0 (word (directory c) (3 * j))) × (word (applied_all (in_threes (packed_ranges rows) 0 leaves) (directory c)) (3 * j + 1) ≡ applied (packed_ranges rows j).1 (word (directory c) (3 * j + 1))) × (word (applied_all (in_threes (packed_ranges rows) 0 leaves) (directory c)) (3 * j + 2) ≡ applied (packed_ranges rows j).2 (word (directory c) (3 * j + 2))) = directory_after (packed_ranges rows) leaves (directory c) j directory_wide h in
      (ap (λ ws. word ws (3 * j)) new_directory ∙ r.0, ap (λ ws. word ws (3 * j + 1)) new_directory ∙ r.1, ap (λ ws. word ws (3 * j + 2)) new_directory ∙ r.2)

  ranges_used : (j : ℕ) → j < u → packed_ranges rows j ≡ (Put (pos 1), Put (begins rows j), Put (ends rows j))
  ranges_used j h = let b : nat_lt j u ≡ true = yes_less j u h in rw b refl

  ranges_free : (j : ℕ) → u ≤ j → packed_ranges rows j ≡ (Put (pos 0), Put (pos 0), Put (pos 0))
  ranges_free j h = let b : nat_lt j u ≡ false = not_less j u h in rw b refl

  at_used : (j : ℕ) → j < u → (word (directory e) (3 * j) ≡ pos 1) × (low (directory e) j ≡ begins rows j) × (high (directory e) j ≡ ends rows j)
  at_used j h =
      let r : Three j = three j (omega (arith, h, used)) in
      (r.0 ∙ ap (λ (y : Change × Change × Change). applied y.0 (word (directory c) (3 * j))) (ranges_used j h), r.1 ∙ ap (λ (y : Change × Change × Change). applied y.1 (low (directory c) j)) (ranges_used j h), r.2 ∙ ap (λ (y : Change × Change × Change). applied y.2 (high (directory c) j)) (ranges_used j h))

  at_free : (j : ℕ) → j < leaves → u ≤ j → word (directory e) (3 * j) ≡ pos 0
  at_free j b h = (three j b).0 ∙ ap (λ (y : Change × Change × Change). applied y.0 (word (directory c) (3 * j))) (ranges_free j h)

  live_used : (j : ℕ) → j < u → is_live (directory e) j ≡ true
  live_used j h = true_equal (word (directory e) (3 * j)) (pos 1) (at_used j h).0

  used_live : (j : ℕ) → j < leaves → is_live (directory e) j ≡ true → j < u
  used_live j b live = elim (less_or_not j u) [ inl a ↦ a.1 | inr a ↦ let z : true ≡ false = sym live ∙ ap (λ x. int_eq x (pos 1)) (at_free j b a.1) in absurd (cc) ]

  covers_make : (x : ℤ) (j : ℕ) → j < u → begins rows j ≤ℤ x → x ≤ℤ ends rows j → covers (directory e) x x j ≡ true
  covers_make x j h from to = has_covers (directory e) x x j (record {
    live = live_used j h;
    from = ap (λ y. int_le y x) (at_used j h).1 ∙ true_le (begins rows j) x from;
    to = ap (int_le x) (at_used j h).2 ∙ true_le x (ends rows j) to;
  })

  covers_take : (x : ℤ) (j : ℕ) → j < leaves → covers (directory e) x x j ≡ true → (j < u) × (begins rows j ≤ℤ x) × (x ≤ℤ ends rows j)
  covers_take x j b g =
      let r : HasRange (directory e) x x j = covers_has (directory e) x x j g in
      let h : j < u = used_live j b r.live in
      (h, le_true (begins rows j) x (sym (ap (λ y. int_le y x) (at_used j h).1) ∙ r.from), le_true x (ends rows j) (sym (ap (int_le x) (at_used j h).2) ∙ r.to))

  before_next : (x : ℤ) (j : ℕ) → suc j < u → x ≤ℤ ends rows j → x <ℤ begins rows (suc j)
  before_next x j h to = le_one_lt x (begins rows (suc j)) (subst (λ (y : ℤ). x ≤ℤ y) (ends_next j h) to)

  not_both : (i j : ℕ) (x : ℤ) → i < j → j < u → x ≤ℤ ends rows i → begins rows j ≤ℤ x → ⊥
  not_both i j x h b to from = elim (same_or_not (suc i) j) [
    | inl at ↦ lt_not_le x (begins rows (suc i)) (before_next x i (omega (arith, h, b)) to) (subst (λ (y : ℕ). begins rows y ≤ℤ x) (sym at) from)
    | inr n0 ↦ lt_not_le x (begins rows j) (lt_trans x (begins rows (suc i)) (begins rows j) (before_next x i (omega (arith, h, b)) to) (begins_rise (suc i) j (omega (arith, n0, h)) b)) from
  ]

  find_leaf : (x : ℤ) → FitsSigned w64 x → (k : ℕ) → 1 ≤ k → k ≤ u → (j : ℕ) × (j < k) × (begins rows j ≤ℤ x) × (suc j < k → x <ℤ begins rows (suc j))
  find_leaf x f zero h b = absurd (omega (arith, h))
  find_leaf x f (suc zero) h b = (0, omega arith, fits_low x f, λ z. absurd (omega (arith, z)))
  find_leaf x f (suc (suc k)) h b =
      let w : (j : ℕ) × (j < suc k) × (begins rows j ≤ℤ x) × (suc j < suc k → x <ℤ begins rows (suc j)) = find_leaf x f (suc k) (omega arith) (omega (arith, b)) in
      by_test (int_le (begins rows (suc k)) x)
      (λ t. (suc k, omega arith, le_true (begins rows (suc k)) x t, λ z. absurd (omega (arith, z))))
      (λ t. (
        w.0,
        omega (arith, w.1),
        w.2,
        λ z. elim (same_or_not w.0 k) [
          | inl at ↦ subst (λ (y : ℕ). x <ℤ begins rows (suc y)) (sym at) (le_false (begins rows (suc k)) x t)
          | inr n0 ↦ w.3 (omega (arith, z, n0, w.1))
        ],
      ))

  packed_whole : (x : ℤ) → FitsSigned w64 x → (j : ℕ) × (j < leaves) × (covers (directory e) x x j ≡ true)
  packed_whole x f =
      let w : (j : ℕ) × (j < u) × (begins rows j ≤ℤ x) × (suc j < u → x <ℤ begins rows (suc j)) = find_leaf x f u some_used (omega arith) in
      let to : x ≤ℤ ends rows w.0 = elim (next_or_last w.0) [
        | inl next ↦ subst (λ (y : ℤ). x ≤ℤ y) (sym (ends_next w.0 next)) (lt_le_one x (begins rows (suc w.0)) (w.3 next))
        | inr last ↦ subst (λ (y : ℤ). x ≤ℤ y) (sym (ends_last w.0 last)) (fits_high x f)
      ] in
      (w.0, omega (arith, w.1, used), covers_make x w.0 w.1 w.2 to)

  packed_directory : IsDirectory leaves (directory e)
  packed_directory = record {
    bits = λ j h. elim (less_or_not j u) [ inl a ↦ inr (at_used j a.1).0 | inr a ↦ inl (at_free j h a.1) ];
    number = u;
    live = λ j h. elim (less_or_not j u) [
      | inl a ↦ live_used j a.1 ∙ sym a.0
      | inr a ↦ ap (λ x. int_eq x (pos 1)) (at_free j h a.1) ∙ sym a.0
    ];
    filled = λ j h live.
        let b : j < u = used_live j h live in
        subst (λ (x : ℤ). x ≤ℤ high (directory e) j) (sym (at_used j b).1) (subst (λ (x : ℤ). begins rows j ≤ℤ x) (sym (at_used j b).2) (begins_ends j b));
    apart = λ i j x hi hj gi gj.
        let a : (i < u) × (begins rows i ≤ℤ x) × (x ≤ℤ ends rows i) = covers_take x i hi gi in
        let b : (j < u) × (begins rows j ≤ℤ x) × (x ≤ℤ ends rows j) = covers_take x j hj gj in
        elim (order i j) [
          | inl same ↦ same
          | inr (inl lt) ↦ absurd (not_both i j x lt b.0 a.2 b.1)
          | inr (inr lt) ↦ absurd (not_both j i x lt a.0 b.2 a.1)
        ];
    whole = packed_whole;
  } where
    order : (i j : ℕ) → (i ≡ j) ⊎ ((i < j) ⊎ (j < i))
    order i j = grind arith

  -- the updates fit
  values_fit : (l i : ℕ) (rs : List Row) (fs : List Entry) → ((x : ℕ) → x < length rs → FitsSigned w64 (row_at rs x).1) → UpdatesFit fs → UpdatesFit (row_values l i rs ++ fs)
  values_fit l i [] fs all h = h
  values_fit l i (r ∷ rs) fs all h = ((all 0 (omega arith), tt), values_fit l (suc i) rs fs (λ x b. all (suc x) (omega (arith, b))) h)

  chunk_fits : (j i : ℕ) → i < length (chunk j) → FitsSigned w64 (row_at (chunk j) i).0 × FitsSigned w64 (row_at (chunk j) i).1
  chunk_fits j i h =
      let b : (i < 4) × (4 * j + i < n) = chunk_there j i h in
      subst (λ (r : Row). FitsSigned w64 r.0 × FitsSigned w64 r.1) (sym (chunk_index j i b.0)) (rows_fit (4 * j + i) b.1)

  filled_fits : (j i : ℕ) → ChangeFits (filled (chunk j) i).0 × ChangeFits (filled (chunk j) i).1
  filled_fits j i = elim (less_or_not i (length (chunk j))) [
    | inl a ↦ subst (λ (y : Change × Change). ChangeFits y.0 × ChangeFits y.1) (sym (filled_used (chunk j) i a.1)) (one_fits, (chunk_fits j i a.1).0)
    | inr a ↦ subst (λ (y : Change × Change). ChangeFits y.0 × ChangeFits y.1) (sym (filled_free (chunk j) i a.1)) (zero_fits, tt)
  ]

  leaves_fit : (j k : ℕ) → UpdatesFit (packed_leaves rows j k)
  leaves_fit j zero = tt
  leaves_fit j (suc k) = (in_pairs_fit (filled (chunk j)) 0 8 (filled_fits j), values_fit j 0 (chunk j) (packed_leaves rows (suc j) k) (λ x b. (chunk_fits j x b).1) (leaves_fit (suc j) k))

  ranges_fit : (j : ℕ) → ChangeFits (packed_ranges rows j).0 × ChangeFits (packed_ranges rows j).1 × ChangeFits (packed_ranges rows j).2
  ranges_fit j = elim (less_or_not j u) [
    | inl a ↦ subst (λ (y : Change × Change × Change). ChangeFits y.0 × ChangeFits y.1 × ChangeFits y.2) (sym (ranges_used j a.1)) (one_fits, begins_fit j a.1, ends_fit j a.1)
    | inr a ↦ subst (λ (y : Change × Change × Change). ChangeFits y.0 × ChangeFits y.1 × ChangeFits y.2) (sym (ranges_free j a.1)) (zero_fits, zero_fits, zero_fits)
  ]

  row_key : (j i : ℕ) → j < leaves → i < length (chunk j) → key (keys e j) i ≡ (row_at rows (4 * j + i)).0
  row_key j i hj h = (place_used j i hj h).1 ∙ ap (λ r. r.0) (chunk_index j i (chunk_there j i h).0)

  pub packed_shaped : IsShaped leaves e
  packed_shaped = record {
    widths = widths_after leaves c es widths;
    fits = fits_after es c ((tt, tt), (in_threes_fit (packed_ranges rows) 0 leaves ranges_fit, leaves_fit 0 leaves)) fits;
    ranges = packed_directory;
    bits = λ j i hj hi. elim (less_or_not i (length (chunk j))) [ inl a ↦ inr (place_used j i hj a.1).0 | inr a ↦ inl (place_free j i hj hi a.1) ];
    once = λ j a b hj ha hb live pa pb same.
        let ua : a < length (chunk j) = is_used j a hj ha pa in
        let ub : b < length (chunk j) = is_used j b hj hb pb in
        let rows_same : (row_at rows (4 * j + a)).0 ≡ (row_at rows (4 * j + b)).0 = sym (row_key j a hj ua) ∙ same ∙ row_key j b hj ub in
        elim (order a b) [
          | inl e0 ↦ e0
          | inr (inl lt) ↦ absurd (ne (row_at rows (4 * j + a)).0 (row_at rows (4 * j + b)).0 (rising_index rows (4 * j + a) (4 * j + b) rise (omega (arith, lt)) (chunk_there j b ub).1) rows_same)
          | inr (inr lt) ↦ absurd (ne (row_at rows (4 * j + b)).0 (row_at rows (4 * j + a)).0 (rising_index rows (4 * j + b) (4 * j + a) rise (omega (arith, lt)) (chunk_there j a ua).1) (sym rows_same))
        ];
    inside = λ j i hj hi live p.
        let there : i < length (chunk j) = is_used j i hj hi p in
        let b : (i < 4) × (4 * j + i < n) = chunk_there j i there in
        subst (λ (x : ℤ). covers (directory e) x x j ≡ true) (sym (row_key j i hj there))
        (covers_make (row_at rows (4 * j + i)).0 j (chunk_used j i there) (begins_below j i b.0 b.1) (key_ends j i b.0 b.1));
  } where
    order : (i j : ℕ) → (i ≡ j) ⊎ ((i < j) ⊎ (j < i))
    order i j = grind arith

    ne : (x y : ℤ) → x <ℤ y → x ≡ y → ⊥
    ne x y h e0 = absurd (omega (arith, ints, h, e0))

  -- the value at each key
  from_chunk : (j : ℕ) (q : ℤ) → j < u → begins rows j ≤ℤ q → q ≤ℤ ends rows j → value_at (chunk j) q ≡ value_at rows q
  from_chunk j q h from to =
      value_at_take 4 (drop (4 * j) rows) q (drop_rises (4 * j) rows rise) (λ more.
      let next : suc j < u = omega (arith, more, length-drop (4 * j) rows) in
      let g : 4 * suc j ≡ 4 * j + 4 = omega arith in
      subst (λ (x : ℤ). q <ℤ x) (begins_past (suc j) (λ z. absurd (omega (arith, z))) ∙ ap (λ (y : ℕ). (row_at rows y).0) g ∙ sym (ap (λ r. r.0) (drop_index (4 * j) rows 4))) (before_next q j next to))
      ∙ elim (same_or_not j 0) [
        | inl at ↦ let g : 0 ≡ 4 * j = omega (arith, at) in subst (λ (y : ℕ). value_at (drop y rows) q ≡ value_at rows q) g refl
        | inr past ↦ value_at_drop (4 * j) rows q rise (first_there j h) (subst (λ (x : ℤ). x ≤ℤ q) (begins_past j past) from)
      ]

  pub packed_rows : tree_rows leaves e ≡ rows
  packed_rows = same_maps (tree_rows leaves e) rows (gathered_rises (tree_slot e) (8 * leaves)) rise (λ q.
      value_at_tree leaves e packed_shaped q
      ∙ by_option (value_in e q (leaf_of leaves (directory e) q) ≡ value_at rows q) (leaf_of leaves (directory e) q)
      (λ none. ap (value_in e q) none ∙ sym (by_option (value_at rows q ≡ None) (value_at rows q) (λ h. h) (λ x found.
      let i : (i : ℕ) × (i < length rows) × ((row_at rows i).0 ≡ q) × ((row_at rows i).1 ≡ x) = index_of_value rows q x found in
      let f : FitsSigned w64 q = subst (FitsSigned w64) i.2 (rows_fit i.0 i.1).0 in
      let w : (j : ℕ) × (j < leaves) × (covers (directory e) q q j ≡ true) = packed_whole q f in
      let z : true ≡ false = sym w.2 ∙ first_none (covers (directory e) q q) leaves none w.0 w.1 in absurd (cc))))
      (λ j there.
      let g : (j < leaves) × (covers (directory e) q q j ≡ true) = leaf_has leaves e packed_shaped j q there in
      let a : (j < u) × (begins rows j ≤ℤ q) × (q ≤ℤ ends rows j) = covers_take q j g.0 g.1 in
      ap (value_in e q) there ∙ value_at_held (keys e j) (value e j) (chunk j) q (take_rises 4 (drop (4 * j) rows) (drop_rises (4 * j) rows rise)) (chunk_held j g.0) ∙ from_chunk j q a.0 a.1 a.2))

  pub packed_tree : (old : ℕ) → n ≡ suc old → size c ≡ pos old → old < 2 ^ 60 → IsTree leaves e
  packed_tree old grown was few =
      let count : count_present leaves e ≡ suc old = sym (count_is leaves e packed_shaped) ∙ ap length packed_rows ∙ grown in
      record {
        shaped = packed_shaped;
        counted = new_size ∙ ap (λ x. wrapped_sum x (pos 1)) was ∙ one_more old few ∙ ap pos (sym count);
        bounded = omega (arith, count, grown, enough);
      }
