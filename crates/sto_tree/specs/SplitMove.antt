-- The move of a split: half of a full leaf goes to the lowest leaf that is not live. The rows stay.
use Rattle.std.proofs.Common.{◌≡◌, ◌≢◌, ◌<◌, ◌≤◌, ◌⊎◌, ◌≤ℤ◌, ◌<ℤ◌, ◌+◌, ◌*◌, ◌-◌, ℕ, zero, suc, ℤ, pos, true, false, ◌&&◌, int_le, nat_lt, nat_eq, Some, None, List, [], ◌∷◌, ◌++◌, length, refl, sym, ◌∙◌, ap, subst, arith, inl, inr}
use Rattle.std.specs.Prelude.{◌-ℤ◌, if◌then◌else◌}
use Rattle.std.specs.Int.{w64}
use Rattle.std.specs.Int.RustNames.{FitsSigned}
use Rattle.std.specs.Ordering.{int_eq}
use Rattle.std.proofs.lemmas.Int.{ints}
use Rattle.std.proofs.lemmas.Bool.Decides.{nat_tests}
use Rattle.std.proofs.lemmas.List.{length-drop}
use Rattle.sto_part.specs.Parts.{part_of}
use Rattle.sto_part.specs.Changes.{applied, applied_all}
use Rattle.sto_part.specs.declared.change.Change.{Change}
use Rattle.sto_part.specs.declared.change.Change.TheVariants.{Keep, Put}
use Rattle.sto_item.specs.Pending.{Entry, changes_of, IsRising, IsRisingFrom, applied_updates}
use Rattle.sto_item.specs.Agreement.{HasWidths}
use Rattle.sto_model.specs.Rows.{Row, IsRising as RowsRise, value_at}
use Rattle.sto_model.proofs.RowFacts.{by_test, not_equal_of}
use Rattle.sto_model.proofs.Maps.{same_maps}
use Rattle.sto_type.specs.Known.{Parts}
use Rattle.sto_tree.specs.Slots.{gathered, AreApart}
use Rattle.sto_tree.specs.SlotFacts.{gathered_rises}
use Rattle.sto_tree.specs.Searches.{first_some, first_none, first_same, first_absent}
use Rattle.sto_tree.specs.Layout.{parts_of, word, is_live, low, high, is_present, key, directory, keys, value, size, covers, leaf_of, holds_key, place_of, place_slot, key_part, value_part, tree_slot, tree_rows, count_present}
use Rattle.sto_tree.specs.Said.{key_changes}
use Rattle.sto_tree.specs.Split.{in_threes, middle, moves, moved_values, upper_rows, split_ranges, split_lower, split_upper, upper_values, move_updates}
use Rattle.sto_tree.specs.Valid.{IsBit, IsDirectory, IsShaped, IsTree}
use Rattle.sto_tree.specs.Tests.{both_true, equal_true, true_equal, le_true, true_le, le_false, fits_at, by_option}
use Rattle.sto_tree.specs.Lookup.{leaf_has, leaf_is, value_there, value_in, value_at_tree}
use Rattle.sto_tree.specs.Sized.{tree_length, tree_width, key_width, value_width, widths_after, UpdatesFit, ChangeFits, in_pairs_fit, fits_after, changes_here, changes_past, untouched, touched, word_after, length-in_pairs, key_words_after}
use Rattle.sto_tree.specs.OneLeaf.{same_or_not}
use Rattle.sto_tree.specs.Updating.{key_not_value, other_value, not_present, count_is}
use Rattle.sto_tree.specs.LeavesBetween.{HasRange, covers_has, has_covers, le_trans}
use Rattle.sto_tree.specs.RowLists.{row_at, rising_index, value_at_index, drop_rises, drop_index, value_at_drop, HoldsRows, value_at_held, bare_gathered, bare_index, block_apart, block_value, block_length}
use Rattle.sto_tree.specs.Members.{IsIn}
use Rattle.sto_tree.specs.Threes.{length-in_threes, in_threes_fit, directory_after, words_on, words_on_part}

-- the leaf of k is full, and m is the lowest leaf that is not live
pub record IsCrowded (leaves : ℕ) (c : Parts) (l m : ℕ) : Type 0 where
  pub leaf_in : l < leaves
  pub live : is_live (directory c) l ≡ true
  pub crowd : (i : ℕ) → i < 8 → is_present (keys c l) i ≡ true
  pub other_in : m < leaves
  pub dead : is_live (directory c) m ≡ false
  pub below : (j : ℕ) → j < m → is_live (directory c) j ≡ true

-- the places that move are listed
pub moved_listed : (l : ℕ) (ks : List ℤ) (n i : ℕ) → i < n → moves ks i ≡ true → IsIn (value_part l i) (moved_values l ks n)
moved_listed l ks zero i h e = absurd (omega (arith, h))
moved_listed l ks (suc n) i h e = elim (cut i n h) [
  | inl g ↦ in_front (value_part l i) (moved_values l ks n) (if moves ks n then value_part l n ∷ [] else []) (moved_listed l ks n i g e)
  | inr g ↦ in_back (value_part l i) (moved_values l ks n) (if moves ks n then value_part l n ∷ [] else []) (rw (ap (moves ks) (sym g) ∙ e) (inl (ap (value_part l) (sym g))))
] where
  cut : (i n : ℕ) → i < suc n → (i < n) ⊎ (i ≡ n)
  cut i n h = grind arith

  in_front : (x : ℕ) (xs ys : List ℕ) → IsIn x xs → IsIn x (xs ++ ys)
  in_front x [] ys h = absurd h
  in_front x (y ∷ xs) ys h = elim h [ inl at ↦ inl at | inr later ↦ inr (in_front x xs ys later) ]

  in_back : (x : ℕ) (xs ys : List ℕ) → IsIn x ys → IsIn x (xs ++ ys)
  in_back x [] ys h = h
  in_back x (y ∷ xs) ys h = inr (in_back x xs ys h)

pub less_or_not : (i n : ℕ) → (nat_lt i n ≡ true) × (i < n) ⊎ (nat_lt i n ≡ false) × (n ≤ i)
less_or_not i n = grind (arith, nat_tests)

eq_test : (a b : ℕ) → a ≡ b → nat_eq a b ≡ true
eq_test a b e = grind (arith, nat_tests)

ne_test : (a b : ℕ) → a ≢ b → nat_eq a b ≡ false
ne_test a b n = grind (arith, nat_tests)

less_one : (x : ℤ) → (x -ℤ pos 1) <ℤ x
less_one x = omega (arith, ints)

lt_le_one : (x s : ℤ) → x <ℤ s → x ≤ℤ (s -ℤ pos 1)
lt_le_one x s h = omega (arith, ints, h)

le_one_lt : (x s : ℤ) → x ≤ℤ (s -ℤ pos 1) → x <ℤ s
le_one_lt x s h = omega (arith, ints, h)

fits_down : (a x s : ℤ) → FitsSigned w64 a → FitsSigned w64 s → a ≤ℤ x → x ≤ℤ s → FitsSigned w64 x
fits_down a x s fa fs h k = search (arith, ints)

lt_le : (x y : ℤ) → x <ℤ y → x ≤ℤ y
lt_le x y h = grind (arith, ints)

lt_not_le : (x y : ℤ) → x <ℤ y → y ≤ℤ x → ⊥
lt_not_le x y h k = absurd (omega (arith, ints, h, k))

module _ (leaves : ℕ) (c : Parts) (t : IsTree leaves c) (l m : ℕ) (w : IsCrowded leaves c l m) where
  abbrev dir : List ℤ
  dir = directory c

  abbrev ks : List ℤ
  ks = keys c l

  abbrev words : ℕ → List ℤ
  words = words_on (moved_values l ks 8) c

  abbrev vs : ℕ → ℤ
  vs i = word (words (value_part l i)) 0

  abbrev rows : List Row
  rows = gathered (place_slot ks vs) 8

  abbrev upper : List Row
  upper = upper_rows l ks words

  abbrev s : ℤ
  s = middle ks

  v : IsShaped leaves c
  v = t.shaped

  pub l_below_m : l < m
  l_below_m = order l m v.ranges.number (sym (v.ranges.live l w.leaf_in) ∙ w.live) (sym (v.ranges.live m w.other_in) ∙ w.dead) where
    order : (l m n : ℕ) → nat_lt l n ≡ true → nat_lt m n ≡ false → l < m
    order l m n a b = grind (arith, nat_tests)

  l_not_m : l ≢ m
  l_not_m = λ e. absurd (omega (arith, e, l_below_m))

  apart : AreApart (place_slot ks vs) 8
  apart = block_apart ks vs (λ i j hi hj pi pj e. v.once l i j w.leaf_in hi hj w.live pi pj e)

  rows_rise : RowsRise rows
  rows_rise = gathered_rises (place_slot ks vs) 8

  pub eight : length rows ≡ 8
  eight = block_length ks vs 8 apart w.crowd

  pub four : length upper ≡ 4
  four = length-drop 4 rows ∙ ap (λ n. n - 4) eight

  pub s_is : s ≡ (row_at rows 4).0
  s_is = ap (λ rs. (row_at rs 4).0) (sym (bare_gathered ks vs 8)) ∙ bare_index rows 4

  -- each row stands at a place of the leaf
  pub row_place : (i : ℕ) → i < 8 → (j : ℕ) × (j < 8) × (key ks j ≡ (row_at rows i).0) × (place_of ks (row_at rows i).0 ≡ Some j)
  row_place i h =
      let q : ℤ = (row_at rows i).0 in
      let found : value_at rows q ≡ Some (row_at rows i).1 = value_at_index rows i rows_rise (omega (arith, h, eight)) in
      by_option ((j : ℕ) × (j < 8) × (key ks j ≡ (row_at rows i).0) × (place_of ks (row_at rows i).0 ≡ Some j)) (place_of ks (row_at rows i).0)
      (λ none. let z : Some (row_at rows i).1 ≡ None = sym found ∙ block_value ks vs (row_at rows i).0 apart ∙ ap (value_there vs) none in absurd (cc))
      (λ j some.
      let g : (j < 8) × (holds_key ks (row_at rows i).0 j ≡ true) = first_some (holds_key ks (row_at rows i).0) 8 j some in
      (j, g.0, equal_true (key ks j) (row_at rows i).0 (both_true (is_present ks j) (int_eq (key ks j) (row_at rows i).0) g.1).1, some))

  row_covered : (i : ℕ) → i < 8 → covers dir (row_at rows i).0 (row_at rows i).0 l ≡ true
  row_covered i h =
      let p : (j : ℕ) × (j < 8) × (key ks j ≡ (row_at rows i).0) × (place_of ks (row_at rows i).0 ≡ Some j) = row_place i h in
      subst (λ (x : ℤ). covers dir x x l ≡ true) p.2 (v.inside l p.0 w.leaf_in p.1 w.live (w.crowd p.0 p.1))

  row_fits : (i : ℕ) → i < 8 → FitsSigned w64 (row_at rows i).0
  row_fits i h =
      let p : (j : ℕ) × (j < 8) × (key ks j ≡ (row_at rows i).0) × (place_of ks (row_at rows i).0 ≡ Some j) = row_place i h in
      subst (FitsSigned w64) p.2 (fits_at c (key_part l) (2 * p.0 + 1) v.fits)

  s_fits : FitsSigned w64 s
  s_fits = subst (FitsSigned w64) (sym s_is) (row_fits 4 (omega arith))

  s_covered : covers dir s s l ≡ true
  s_covered = subst (λ (x : ℤ). covers dir x x l ≡ true) (sym s_is) (row_covered 4 (omega arith))

  s_range : HasRange dir s s l
  s_range = covers_has dir s s l s_covered

  -- the first key is below the fifth, so leaf l keeps a range
  low_below : low dir l <ℤ s
  low_below =
      let first : (row_at rows 0).0 <ℤ (row_at rows 4).0 = rising_index rows 0 4 rows_rise (omega arith) (omega (arith, eight)) in
      let r : HasRange dir (row_at rows 0).0 (row_at rows 0).0 l = covers_has dir (row_at rows 0).0 (row_at rows 0).0 l (row_covered 0 (omega arith)) in
      subst (λ (x : ℤ). low dir l <ℤ x) (sym s_is) (le_lt (low dir l) (row_at rows 0).0 (row_at rows 4).0 (le_true (low dir l) (row_at rows 0).0 r.from) first)
    where
      le_lt : (a b d : ℤ) → a ≤ℤ b → b <ℤ d → a <ℤ d
      le_lt a b d h k = grind (arith, ints)

  pub down_fits : FitsSigned w64 (s -ℤ pos 1)
  down_fits = fits_down (low dir l) (s -ℤ pos 1) s (fits_at c 1 (3 * l + 1) v.fits) s_fits (lt_le_one (low dir l) s low_below) (lt_le (s -ℤ pos 1) s (less_one s))

  -- the updates
  abbrev es : List Entry
  es = move_updates leaves dir l ks m upper

  abbrev e : Parts
  e = applied_updates es c

  abbrev values : ℕ → List Row → List Entry
  values i rs = upper_values leaves dir l ks m i rs

  abbrev lower : ℕ → Change × Change
  lower = split_lower leaves dir l ks m

  abbrev higher : ℕ → Change × Change
  higher = split_upper leaves dir l ks m upper

  abbrev ranges : ℕ → Change × Change × Change
  ranges = split_ranges leaves dir l ks m

  values_rise : (n i : ℕ) (rs : List Row) → n ≤ value_part m i → IsRisingFrom n (values i rs)
  values_rise n i [] h = tt
  values_rise n i (r ∷ rs) h = (h, values_rise (value_part m i + 1) (suc i) rs (omega arith))

  pub rising : IsRising es
  rising = (omega arith, (omega arith, (omega (arith, l_below_m), values_rise (key_part m + 1) 0 upper (omega arith))))

  long : length c ≡ parts_of leaves
  long = tree_length leaves c v.widths

  values_widths : (i : ℕ) (rs : List Row) → i + length rs ≤ 8 → HasWidths (values i rs) c
  values_widths i [] h = tt
  values_widths i (r ∷ rs) h =
      let b : i < 8 = omega (arith, h) in
      (omega (arith, long, w.other_in, b), tree_width leaves c (value_part m i) v.widths (omega (arith, w.other_in, b)) ∙ value_width leaves m i b, values_widths (suc i) rs (omega (arith, h)))

  directory_wide : length dir ≡ 3 * leaves
  directory_wide = tree_width leaves c 1 v.widths (omega (arith, w.leaf_in))

  pub keys_wide : (j : ℕ) → j < leaves → length (keys c j) ≡ 16
  keys_wide j h = tree_width leaves c (key_part j) v.widths (omega (arith, h)) ∙ key_width leaves j

  pub move_widths : HasWidths es c
  move_widths = (
    omega (arith, long, w.leaf_in),
    directory_wide ∙ sym (length-in_threes ranges 0 leaves),
    (
      omega (arith, long, w.leaf_in),
      keys_wide l w.leaf_in ∙ sym (length-in_pairs lower 0 8),
      (omega (arith, long, w.other_in), keys_wide m w.other_in ∙ sym (length-in_pairs higher 0 8), values_widths 0 upper (omega (arith, four))),
    ),
  )

  values_other : (i : ℕ) (rs : List Row) (p : ℕ) → i + length rs ≤ 8 → ((j : ℕ) → j < 8 → value_part m j ≢ p) → changes_of (values i rs) p ≡ []
  values_other i [] p b n = refl
  values_other i (r ∷ rs) p b n = changes_past (value_part m i) p (Put r.1 ∷ []) (values (suc i) rs) (n i (omega (arith, b))) ∙ values_other (suc i) rs p (omega (arith, b)) n

  values_at : (i : ℕ) (rs : List Row) (j : ℕ) → j < length rs → changes_of (values i rs) (value_part m (i + j)) ≡ Put (row_at rs j).1 ∷ []
  values_at i [] j h = absurd (omega (arith, h))
  values_at i (r ∷ rs) zero h = let g : i + 0 ≡ i = omega arith in ap (λ (x : ℕ). changes_of (values i (r ∷ rs)) (value_part m x)) g ∙ changes_here (value_part m i) (Put r.1 ∷ []) (values (suc i) rs)
  values_at i (r ∷ rs) (suc j) h =
      let g : i + suc j ≡ suc i + j = omega arith in
      ap (λ (x : ℕ). changes_of (values i (r ∷ rs)) (value_part m x)) g
      ∙ changes_past (value_part m i) (value_part m (suc i + j)) (Put r.1 ∷ []) (values (suc i) rs) (λ z. absurd (omega (arith, z))) ∙ values_at (suc i) rs j (omega (arith, h))

  -- the parts after the move
  tail2 : (p : ℕ) → p ≢ key_part m → ((j : ℕ) → j < 8 → value_part m j ≢ p) → changes_of ((key_part m, key_changes higher) ∷ values 0 upper) p ≡ []
  tail2 p n nv = changes_past (key_part m) p (key_changes higher) (values 0 upper) (λ z. n (sym z)) ∙ values_other 0 upper p (omega (arith, four)) nv

  tail1 : (p : ℕ) → p ≢ key_part l → p ≢ key_part m → ((j : ℕ) → j < 8 → value_part m j ≢ p) → changes_of ((key_part l, key_changes lower) ∷ (key_part m, key_changes higher) ∷ values 0 upper) p ≡ []
  tail1 p nl n nv = changes_past (key_part l) p (key_changes lower) ((key_part m, key_changes higher) ∷ values 0 upper) (λ z. nl (sym z)) ∙ tail2 p n nv

  pub untouched_part : (p : ℕ) → p ≢ 1 → p ≢ key_part l → p ≢ key_part m → ((j : ℕ) → j < 8 → value_part m j ≢ p) → part_of e p ≡ part_of c p
  untouched_part p n1 nl n nv =
      untouched es c p rising move_widths
      (changes_past 1 p (in_threes ranges 0 leaves) ((key_part l, key_changes lower) ∷ (key_part m, key_changes higher) ∷ values 0 upper) (λ z. n1 (sym z)) ∙ tail1 p nl n nv)

  new_directory : directory e ≡ applied_all (in_threes ranges 0 leaves) dir
  new_directory = touched es c 1 (in_threes ranges 0 leaves) rising move_widths (changes_here 1 (in_threes ranges 0 leaves) ((key_part l, key_changes lower) ∷ (key_part m, key_changes higher) ∷ values 0 upper))

  new_lower : keys e l ≡ applied_all (key_changes lower) ks
  new_lower =
      touched es c (key_part l) (key_changes lower) rising move_widths
      (changes_past 1 (key_part l) (in_threes ranges 0 leaves) ((key_part l, key_changes lower) ∷ (key_part m, key_changes higher) ∷ values 0 upper) (λ z. absurd (omega (arith, z)))
      ∙ changes_here (key_part l) (key_changes lower) ((key_part m, key_changes higher) ∷ values 0 upper))

  new_higher : keys e m ≡ applied_all (key_changes higher) (keys c m)
  new_higher =
      touched es c (key_part m) (key_changes higher) rising move_widths
      (changes_past 1 (key_part m) (in_threes ranges 0 leaves) ((key_part l, key_changes lower) ∷ (key_part m, key_changes higher) ∷ values 0 upper) (λ z. absurd (omega (arith, z)))
      ∙ changes_past (key_part l) (key_part m) (key_changes lower) ((key_part m, key_changes higher) ∷ values 0 upper) (λ z. l_not_m (omega (arith, z)))
      ∙ changes_here (key_part m) (key_changes higher) (values 0 upper))

  same_keys : (j : ℕ) → j ≢ l → j ≢ m → keys e j ≡ keys c j
  same_keys j nl nm = untouched_part (key_part j) (λ z. absurd (omega (arith, z))) (λ z. nl (omega (arith, z))) (λ z. nm (omega (arith, z))) (λ i h. key_not_value m j i h)

  same_values : (j i : ℕ) → i < 8 → j ≢ m → value e j i ≡ value c j i
  same_values j i h nm =
      ap (λ ws. word ws 0) (untouched_part (value_part j i) (λ z. absurd (omega (arith, z))) (λ z. key_not_value j l i h z) (λ z. key_not_value j m i h z) (λ x hx. other_value m j x i hx h (inl nm)))

  pub same_size : size e ≡ size c
  same_size = ap (λ ws. word ws 0) (untouched_part 0 (λ z. absurd (omega (arith, z))) (λ z. absurd (omega (arith, z))) (λ z. absurd (omega (arith, z))) (λ x hx z. absurd (omega (arith, z))))

  upper_value : (i : ℕ) → i < 4 → value e m i ≡ (row_at upper i).1
  upper_value i h =
      let there : i < length upper = omega (arith, h, four) in
      let g : 0 + i ≡ i = omega arith in
      ap (λ ws. word ws 0) (touched es c (value_part m i) (Put (row_at upper i).1 ∷ []) rising move_widths
      (changes_past 1 (value_part m i) (in_threes ranges 0 leaves) ((key_part l, key_changes lower) ∷ (key_part m, key_changes higher) ∷ values 0 upper) (λ z. absurd (omega (arith, z)))
      ∙ changes_past (key_part l) (value_part m i) (key_changes lower) ((key_part m, key_changes higher) ∷ values 0 upper) (λ z. key_not_value m l i (omega (arith, h)) (sym z))
      ∙ changes_past (key_part m) (value_part m i) (key_changes higher) (values 0 upper) (λ z. key_not_value m m i (omega (arith, h)) (sym z))
      ∙ ap (λ (x : ℕ). changes_of (values 0 upper) (value_part m x)) (sym g) ∙ values_at 0 upper i there))
      ∙ word_after (Put (row_at upper i).1 ∷ []) (part_of c (value_part m i)) 0 (sym (tree_width leaves c (value_part m i) v.widths (omega (arith, w.other_in, h)) ∙ value_width leaves m i (omega (arith, h))))

  -- the words of the directory
  abbrev Three : ℕ → Type 0
  Three j = (word (directory e) (3 * j) ≡ applied (ranges j).0 (word dir (3 * j))) × (low (directory e) j ≡ applied (ranges j).1 (low dir j)) × (high (directory e) j ≡ applied (ranges j).2 (high dir j))

  three : (j : ℕ) → j < leaves → Three j
  three j h =
      let r : (word (applied_all (in_threes ranges 0 leaves) dir) (3 * j) ≡ applied (ranges j).0 (word dir (3 * j))) × (word (applied_all (in_threes ranges 0 leaves) dir) (3 * j + 1) ≡ applied (ranges j).1 (word dir (3 * j + 1))) × (word (applied_all (in_threes ranges 0 leaves) dir) (3 * j + 2) ≡ applied (ranges j).2 (word dir (3 * j + 2))) = directory_after ranges leaves dir j directory_wide h in
      (ap (λ ws. word ws (3 * j)) new_directory ∙ r.0, ap (λ ws. word ws (3 * j + 1)) new_directory ∙ r.1, ap (λ ws. word ws (3 * j + 2)) new_directory ∙ r.2)

  pub ranges_l : ranges l ≡ (Keep, Keep, Put (s -ℤ pos 1))
  ranges_l = rw (eq_test l l refl) refl

  ranges_m : ranges m ≡ (Put (pos 1), Put s, Put (high dir l))
  ranges_m = rw (ne_test m l (λ z. l_not_m (sym z)), eq_test m m refl) refl

  ranges_other : (j : ℕ) → j ≢ l → j ≢ m → ranges j ≡ (Keep, Keep, Keep)
  ranges_other j nl nm = rw (ne_test j l nl, ne_test j m nm) refl

  at_l : (word (directory e) (3 * l) ≡ word dir (3 * l)) × (low (directory e) l ≡ low dir l) × (high (directory e) l ≡ s -ℤ pos 1)
  at_l = let r : Three l = three l w.leaf_in in
      (r.0 ∙ ap (λ (u : Change × Change × Change). applied u.0 (word dir (3 * l))) ranges_l, r.1 ∙ ap (λ (u : Change × Change × Change). applied u.1 (low dir l)) ranges_l, r.2 ∙ ap (λ (u : Change × Change × Change). applied u.2 (high dir l)) ranges_l)

  at_m : (word (directory e) (3 * m) ≡ pos 1) × (low (directory e) m ≡ s) × (high (directory e) m ≡ high dir l)
  at_m = let r : Three m = three m w.other_in in
      (r.0 ∙ ap (λ (u : Change × Change × Change). applied u.0 (word dir (3 * m))) ranges_m, r.1 ∙ ap (λ (u : Change × Change × Change). applied u.1 (low dir m)) ranges_m, r.2 ∙ ap (λ (u : Change × Change × Change). applied u.2 (high dir m)) ranges_m)

  at_other : (j : ℕ) → j < leaves → j ≢ l → j ≢ m → (word (directory e) (3 * j) ≡ word dir (3 * j)) × (low (directory e) j ≡ low dir j) × (high (directory e) j ≡ high dir j)
  at_other j h nl nm = let r : Three j = three j h in
      (r.0 ∙ ap (λ (u : Change × Change × Change). applied u.0 (word dir (3 * j))) (ranges_other j nl nm), r.1 ∙ ap (λ (u : Change × Change × Change). applied u.1 (low dir j)) (ranges_other j nl nm), r.2 ∙ ap (λ (u : Change × Change × Change). applied u.2 (high dir j)) (ranges_other j nl nm))

  live_l : is_live (directory e) l ≡ true
  live_l = ap (λ x. int_eq x (pos 1)) at_l.0 ∙ w.live

  live_m : is_live (directory e) m ≡ true
  live_m = true_equal (word (directory e) (3 * m)) (pos 1) at_m.0

  -- whose range a number is in, after the move
  covers_other : (j : ℕ) → j < leaves → j ≢ l → j ≢ m → (x : ℤ) → covers (directory e) x x j ≡ covers dir x x j
  covers_other j h nl nm x =
      let a : (word (directory e) (3 * j) ≡ word dir (3 * j)) × (low (directory e) j ≡ low dir j) × (high (directory e) j ≡ high dir j) = at_other j h nl nm in
      ap (λ y. int_eq y (pos 1) && (int_le (low (directory e) j) x && int_le x (high (directory e) j))) a.0
      ∙ ap (λ y. is_live dir j && (int_le y x && int_le x (high (directory e) j))) a.1
      ∙ ap (λ y. is_live dir j && (int_le (low dir j) x && int_le x y)) a.2

  pub l_covers : (x : ℤ) → covers dir x x l ≡ true → x <ℤ s → covers (directory e) x x l ≡ true
  l_covers x h lt =
      let r : HasRange dir x x l = covers_has dir x x l h in
      has_covers (directory e) x x l (record {
        live = live_l;
        from = ap (λ y. int_le y x) at_l.1 ∙ r.from;
        to = ap (int_le x) at_l.2 ∙ true_le x (s -ℤ pos 1) (lt_le_one x s lt);
      })

  pub m_covers : (x : ℤ) → covers dir x x l ≡ true → s ≤ℤ x → covers (directory e) x x m ≡ true
  m_covers x h le =
      let r : HasRange dir x x l = covers_has dir x x l h in
      has_covers (directory e) x x m (record {
        live = live_m;
        from = ap (λ y. int_le y x) at_m.1 ∙ true_le s x le;
        to = ap (int_le x) at_m.2 ∙ r.to;
      })

  covers_l : (x : ℤ) → covers (directory e) x x l ≡ true → (covers dir x x l ≡ true) × (x <ℤ s)
  covers_l x h =
      let r : HasRange (directory e) x x l = covers_has (directory e) x x l h in
      let lt : x <ℤ s = le_one_lt x s (le_true x (s -ℤ pos 1) (sym (ap (int_le x) at_l.2) ∙ r.to)) in
      (has_covers dir x x l (record { live = w.live; from = sym (ap (λ y. int_le y x) at_l.1) ∙ r.from; to = le_trans x s (high dir l) (true_le x s (lt_le x s lt)) s_range.to }), lt)

  covers_m : (x : ℤ) → covers (directory e) x x m ≡ true → (covers dir x x l ≡ true) × (s ≤ℤ x)
  covers_m x h =
      let r : HasRange (directory e) x x m = covers_has (directory e) x x m h in
      let from : int_le s x ≡ true = sym (ap (λ y. int_le y x) at_m.1) ∙ r.from in
      (has_covers dir x x l (record { live = w.live; from = le_trans (low dir l) s x s_range.from from; to = sym (ap (int_le x) at_m.2) ∙ r.to }), le_true s x from)

  never_m : (x : ℤ) → covers dir x x m ≡ true → ⊥
  never_m x h = let z : true ≡ false = sym (covers_has dir x x m h).live ∙ w.dead in absurd (cc)

  -- the lowest leaf that is not live is the number of the live ones
  number_is : v.ranges.number ≡ m
  number_is =
      let last : is_live dir (m - 1) ≡ true = w.below (m - 1) (omega (arith, l_below_m)) in
      order (m - 1) m v.ranges.number (omega (arith, l_below_m)) (sym (v.ranges.live (m - 1) (omega (arith, w.other_in))) ∙ last) (sym (v.ranges.live m w.other_in) ∙ w.dead)
    where
      order : (j m n : ℕ) → suc j ≡ m → nat_lt j n ≡ true → nat_lt m n ≡ false → n ≡ m
      order j m n e a b = grind (arith, nat_tests)

  -- each number of a range after the move is in the range of a leaf before it
  was_in : (j : ℕ) → j < leaves → (x : ℤ) → covers (directory e) x x j ≡ true → (a : ℕ) × (a < leaves) × (covers dir x x a ≡ true)
  was_in j h x g = elim (same_or_not j l) [
    | inl at ↦ (l, w.leaf_in, (covers_l x (subst (λ (y : ℕ). covers (directory e) x x y ≡ true) at g)).0)
    | inr nl ↦ elim (same_or_not j m) [
      | inl at ↦ (l, w.leaf_in, (covers_m x (subst (λ (y : ℕ). covers (directory e) x x y ≡ true) at g)).0)
      | inr nm ↦ (j, h, sym (covers_other j h nl nm x) ∙ g)
    ]
  ]

  -- which leaf it is now
  abbrev OwnerIs : ℤ → ℕ → ℕ → Type 0
  OwnerIs x j a = ((a ≡ j) × (j ≢ l) × (j ≢ m)) ⊎ ((a ≡ l) × (((j ≡ l) × (x <ℤ s)) ⊎ ((j ≡ m) × (s ≤ℤ x))))

  owner : (j : ℕ) → j < leaves → (x : ℤ) → covers (directory e) x x j ≡ true → (a : ℕ) → a < leaves → covers dir x x a ≡ true → OwnerIs x j a
  owner j h x g a ha ga = elim (same_or_not j l) [
    | inl at ↦
        let c1 : (covers dir x x l ≡ true) × (x <ℤ s) = covers_l x (subst (λ (y : ℕ). covers (directory e) x x y ≡ true) at g) in
        inr (v.ranges.apart a l x ha w.leaf_in ga c1.0, inl (at, c1.1))
    | inr nl ↦ elim (same_or_not j m) [
      | inl at ↦
          let c1 : (covers dir x x l ≡ true) × (s ≤ℤ x) = covers_m x (subst (λ (y : ℕ). covers (directory e) x x y ≡ true) at g) in
          inr (v.ranges.apart a l x ha w.leaf_in ga c1.0, inr (at, c1.1))
      | inr nm ↦ inl (v.ranges.apart a j x ha h ga (sym (covers_other j h nl nm x) ∙ g), nl, nm)
    ]
  ]

  one_owner : (i j a : ℕ) (x : ℤ) → OwnerIs x i a → OwnerIs x j a → i ≡ j
  one_owner i j a x (inl p) (inl q) = sym p.0 ∙ q.0
  one_owner i j a x (inl p) (inr q) = absurd (p.1 (sym p.0 ∙ q.0))
  one_owner i j a x (inr p) (inl q) = absurd (q.1 (sym q.0 ∙ p.0))
  one_owner i j a x (inr (p, inl y)) (inr (q, inl z)) = y.0 ∙ sym z.0
  one_owner i j a x (inr (p, inl y)) (inr (q, inr z)) = absurd (lt_not_le x s y.1 z.1)
  one_owner i j a x (inr (p, inr y)) (inr (q, inl z)) = absurd (lt_not_le x s z.1 y.1)
  one_owner i j a x (inr (p, inr y)) (inr (q, inr z)) = y.0 ∙ sym z.0

  -- and where a number goes
  goes_to : (x : ℤ) (a : ℕ) → a < leaves → covers dir x x a ≡ true → (j : ℕ) × (j < leaves) × (covers (directory e) x x j ≡ true)
  goes_to x a h g = elim (same_or_not a l) [
    | inl at ↦
        let gl : covers dir x x l ≡ true = subst (λ (y : ℕ). covers dir x x y ≡ true) at g in
        by_test (int_le s x) (λ le. (m, w.other_in, m_covers x gl (le_true s x le))) (λ lt. (l, w.leaf_in, l_covers x gl (le_false s x lt)))
    | inr nl ↦
        let nm : a ≢ m = λ z. never_m x (subst (λ (y : ℕ). covers dir x x y ≡ true) z g) in
        (a, h, covers_other a h nl nm x ∙ g)
  ]

  moved_directory : IsDirectory leaves (directory e)
  moved_directory = record {
    bits = λ j h. elim (same_or_not j l) [
      | inl at ↦ subst (λ (y : ℕ). IsBit (word (directory e) (3 * y))) (sym at) (subst IsBit (sym at_l.0) (v.ranges.bits l w.leaf_in))
      | inr nl ↦ elim (same_or_not j m) [
        | inl at ↦ subst (λ (y : ℕ). IsBit (word (directory e) (3 * y))) (sym at) (inr at_m.0)
        | inr nm ↦ subst IsBit (sym (at_other j h nl nm).0) (v.ranges.bits j h)
      ]
    ];
    number = suc m;
    live = λ j h. elim (same_or_not j l) [
      | inl at ↦ subst (λ (y : ℕ). is_live (directory e) y ≡ nat_lt y (suc m)) (sym at) (live_l ∙ sym (below l m l_below_m))
      | inr nl ↦ elim (same_or_not j m) [
        | inl at ↦ subst (λ (y : ℕ). is_live (directory e) y ≡ nat_lt y (suc m)) (sym at) (live_m ∙ sym (self m))
        | inr nm ↦ ap (λ x. int_eq x (pos 1)) (at_other j h nl nm).0 ∙ v.ranges.live j h ∙ ap (nat_lt j) number_is ∙ one_more j m nm
      ]
    ];
    filled = λ j h live. elim (same_or_not j l) [
      | inl at ↦ subst (λ (y : ℕ). low (directory e) y ≤ℤ high (directory e) y) (sym at) (subst (λ (x : ℤ). x ≤ℤ high (directory e) l) (sym at_l.1) (subst (λ (x : ℤ). low dir l ≤ℤ x) (sym at_l.2) (lt_le_one (low dir l) s low_below)))
      | inr nl ↦ elim (same_or_not j m) [
        | inl at ↦ subst (λ (y : ℕ). low (directory e) y ≤ℤ high (directory e) y) (sym at) (subst (λ (x : ℤ). x ≤ℤ high (directory e) m) (sym at_m.1) (subst (λ (x : ℤ). s ≤ℤ x) (sym at_m.2) (le_true s (high dir l) s_range.to)))
        | inr nm ↦ subst (λ (x : ℤ). x ≤ℤ high (directory e) j) (sym (at_other j h nl nm).1) (subst (λ (x : ℤ). low dir j ≤ℤ x) (sym (at_other j h nl nm).2) (v.ranges.filled j h (ap (λ x. int_eq x (pos 1)) (sym (at_other j h nl nm).0) ∙ live)))
      ]
    ];
    apart = λ i j x hi hj gi gj.
        let b : (a : ℕ) × (a < leaves) × (covers dir x x a ≡ true) = was_in i hi x gi in
        one_owner i j b.0 x (owner i hi x gi b.0 b.1 b.2) (owner j hj x gj b.0 b.1 b.2);
    whole = λ x f.
        let b : (a : ℕ) × (a < leaves) × (covers dir x x a ≡ true) = v.ranges.whole x f in
        goes_to x b.0 b.1 b.2;
  } where
    below : (l m : ℕ) → l < m → nat_lt l (suc m) ≡ true
    below l m h = grind (arith, nat_tests)

    self : (m : ℕ) → nat_lt m (suc m) ≡ true
    self m = grind (arith, nat_tests)

    one_more : (j m : ℕ) → j ≢ m → nat_lt j m ≡ nat_lt j (suc m)
    one_more j m n = grind (arith, nat_tests)

  -- the places of leaf l and of leaf m after the move
  lower_words : (i : ℕ) → i < 8 → (word (keys e l) (2 * i) ≡ applied (lower i).0 (word ks (2 * i))) × (key (keys e l) i ≡ applied (lower i).1 (key ks i))
  lower_words i h =
      let r : (word (applied_all (key_changes lower) ks) (2 * i) ≡ applied (lower i).0 (word ks (2 * i))) × (word (applied_all (key_changes lower) ks) (2 * i + 1) ≡ applied (lower i).1 (word ks (2 * i + 1))) = key_words_after lower ks i (keys_wide l w.leaf_in) h in
      (ap (λ ws. word ws (2 * i)) new_lower ∙ r.0, ap (λ ws. word ws (2 * i + 1)) new_lower ∙ r.1)

  pub lower_moves : (i : ℕ) → moves ks i ≡ true → lower i ≡ (Put (pos 0), Keep)
  lower_moves i g = rw g refl

  lower_stays : (i : ℕ) → moves ks i ≡ false → lower i ≡ (Keep, Keep)
  lower_stays i g = rw g refl

  lower_key : (i : ℕ) → i < 8 → key (keys e l) i ≡ key ks i
  lower_key i h =
      by_test (moves ks i)
      (λ g. (lower_words i h).1 ∙ ap (λ (u : Change × Change). applied u.1 (key ks i)) (lower_moves i g))
      (λ g. (lower_words i h).1 ∙ ap (λ (u : Change × Change). applied u.1 (key ks i)) (lower_stays i g))

  pub lower_gone : (i : ℕ) → i < 8 → moves ks i ≡ true → is_present (keys e l) i ≡ false
  lower_gone i h g = ap (λ x. int_eq x (pos 1)) ((lower_words i h).0 ∙ ap (λ (u : Change × Change). applied u.0 (word ks (2 * i))) (lower_moves i g))

  pub lower_left : (i : ℕ) → i < 8 → moves ks i ≡ false → is_present (keys e l) i ≡ true
  lower_left i h g = ap (λ x. int_eq x (pos 1)) ((lower_words i h).0 ∙ ap (λ (u : Change × Change). applied u.0 (word ks (2 * i))) (lower_stays i g)) ∙ w.crowd i h

  pub moves_is : (i : ℕ) → i < 8 → moves ks i ≡ int_le s (key ks i)
  moves_is i h = ap (λ b. b && int_le s (key ks i)) (w.crowd i h)

  lower_present : (i : ℕ) → i < 8 → is_present (keys e l) i ≡ true → key ks i <ℤ s
  lower_present i h p =
      by_test (moves ks i)
      (λ g. let z : true ≡ false = sym p ∙ lower_gone i h g in absurd (cc))
      (λ g. le_false s (key ks i) (sym (moves_is i h) ∙ g))

  higher_words : (i : ℕ) → i < 8 → (word (keys e m) (2 * i) ≡ applied (higher i).0 (word (keys c m) (2 * i))) × (key (keys e m) i ≡ applied (higher i).1 (key (keys c m) i))
  higher_words i h =
      let r : (word (applied_all (key_changes higher) (keys c m)) (2 * i) ≡ applied (higher i).0 (word (keys c m) (2 * i))) × (word (applied_all (key_changes higher) (keys c m)) (2 * i + 1) ≡ applied (higher i).1 (word (keys c m) (2 * i + 1))) = key_words_after higher (keys c m) i (keys_wide m w.other_in) h in
      (ap (λ ws. word ws (2 * i)) new_higher ∙ r.0, ap (λ ws. word ws (2 * i + 1)) new_higher ∙ r.1)

  pub higher_used : (i : ℕ) → i < 4 → higher i ≡ (Put (pos 1), Put (row_at upper i).0)
  higher_used i h = let b : nat_lt i 4 ≡ true = yes i h in rw b refl where
    yes : (i : ℕ) → i < 4 → nat_lt i 4 ≡ true
    yes i h = grind (arith, nat_tests)

  higher_free : (i : ℕ) → 4 ≤ i → higher i ≡ (Put (pos 0), Keep)
  higher_free i h = let b : nat_lt i 4 ≡ false = not_yes i h in rw b refl where
    not_yes : (i : ℕ) → 4 ≤ i → nat_lt i 4 ≡ false
    not_yes i h = grind (arith, nat_tests)

  upper_word : (i : ℕ) → i < 4 → (word (keys e m) (2 * i) ≡ pos 1) × (key (keys e m) i ≡ (row_at upper i).0)
  upper_word i h =
      let r : (word (keys e m) (2 * i) ≡ applied (higher i).0 (word (keys c m) (2 * i))) × (key (keys e m) i ≡ applied (higher i).1 (key (keys c m) i)) = higher_words i (omega (arith, h)) in
      (r.0 ∙ ap (λ (u : Change × Change). applied u.0 (word (keys c m) (2 * i))) (higher_used i h), r.1 ∙ ap (λ (u : Change × Change). applied u.1 (key (keys c m) i)) (higher_used i h))

  free_word : (i : ℕ) → i < 8 → 4 ≤ i → word (keys e m) (2 * i) ≡ pos 0
  free_word i b h = (higher_words i b).0 ∙ ap (λ (u : Change × Change). applied u.0 (word (keys c m) (2 * i))) (higher_free i h)

  upper_rise : RowsRise upper
  upper_rise = drop_rises 4 rows rows_rise

  upper_held : HoldsRows (keys e m) (value e m) upper
  upper_held = record {
    few = omega (arith, four);
    present = λ i h. elim (less_or_not i 4) [
      | inl a ↦ true_equal (word (keys e m) (2 * i)) (pos 1) (upper_word i a.1).0 ∙ sym a.0 ∙ sym (ap (nat_lt i) four)
      | inr a ↦ ap (λ x. int_eq x (pos 1)) (free_word i h a.1) ∙ sym a.0 ∙ sym (ap (nat_lt i) four)
    ];
    at_key = λ i h. (upper_word i (omega (arith, h, four))).1;
    at_value = λ i h. upper_value i (omega (arith, h, four));
  }

  pub upper_free : (i : ℕ) → i < 8 → 4 ≤ i → is_present (keys e m) i ≡ false
  upper_free i b h = ap (λ x. int_eq x (pos 1)) (free_word i b h)

  pub upper_used : (i : ℕ) → i < 4 → is_present (keys e m) i ≡ true
  upper_used i h = true_equal (word (keys e m) (2 * i)) (pos 1) (upper_word i h).0

  upper_present : (i : ℕ) → i < 8 → is_present (keys e m) i ≡ true → i < 4
  upper_present i h p = elim (less_or_not i 4) [ inl a ↦ a.1 | inr a ↦ let z : true ≡ false = sym p ∙ upper_free i h a.1 in absurd (cc) ]

  upper_row : (i : ℕ) → i < 4 → (covers dir (row_at upper i).0 (row_at upper i).0 l ≡ true) × (s ≤ℤ (row_at upper i).0)
  upper_row i h =
      let same : row_at upper i ≡ row_at rows (4 + i) = drop_index 4 rows i in
      let at : (covers dir (row_at rows (4 + i)).0 (row_at rows (4 + i)).0 l ≡ true) = row_covered (4 + i) (omega (arith, h)) in
      (subst (λ (r : Row). covers dir r.0 r.0 l ≡ true) (sym same) at, subst (λ (r : Row). s ≤ℤ r.0) (sym same) (subst (λ (x : ℤ). x ≤ℤ (row_at rows (4 + i)).0) (sym s_is) (from_four i h)))
    where
      le_refl : (x : ℤ) → x ≤ℤ x
      le_refl x = grind (arith, ints)

      from_four : (i : ℕ) → i < 4 → (row_at rows 4).0 ≤ℤ (row_at rows (4 + i)).0
      from_four i h = elim (same_or_not i 0) [
        | inl at ↦ let e4 : 4 ≡ 4 + i = omega (arith, at) in subst (λ (x : ℕ). (row_at rows 4).0 ≤ℤ (row_at rows x).0) e4 (le_refl (row_at rows 4).0)
        | inr n ↦ lt_le (row_at rows 4).0 (row_at rows (4 + i)).0 (rising_index rows 4 (4 + i) rows_rise (omega (arith, n)) (omega (arith, h, eight)))
      ]

  upper_once : (i j : ℕ) → i < 4 → j < 4 → (row_at upper i).0 ≡ (row_at upper j).0 → i ≡ j
  upper_once i j hi hj same = elim (order i j) [
    | inl e ↦ e
    | inr (inl a) ↦ absurd (ne (row_at upper i).0 (row_at upper j).0 (rising_index upper i j upper_rise a (omega (arith, hj, four))) same)
    | inr (inr a) ↦ absurd (ne (row_at upper j).0 (row_at upper i).0 (rising_index upper j i upper_rise a (omega (arith, hi, four))) (sym same))
  ] where
    order : (i j : ℕ) → (i ≡ j) ⊎ ((i < j) ⊎ (j < i))
    order i j = grind arith

    ne : (x y : ℤ) → x <ℤ y → x ≡ y → ⊥
    ne x y h e = absurd (omega (arith, ints, h, e))

  one_fits : FitsSigned w64 (pos 1)
  one_fits = search (arith, ints)

  zero_fits : FitsSigned w64 (pos 0)
  zero_fits = search (arith, ints)

  upper_fits : (i : ℕ) → i < 4 → FitsSigned w64 (row_at upper i).0 × FitsSigned w64 (row_at upper i).1
  upper_fits i h =
      let same : row_at upper i ≡ row_at rows (4 + i) = drop_index 4 rows i in
      let b : 4 + i < 8 = omega (arith, h) in
      let p : (j : ℕ) × (j < 8) × (key ks j ≡ (row_at rows (4 + i)).0) × (place_of ks (row_at rows (4 + i)).0 ≡ Some j) = row_place (4 + i) b in
      let found : Some (row_at rows (4 + i)).1 ≡ Some (vs p.0) = sym (value_at_index rows (4 + i) rows_rise (omega (arith, b, eight))) ∙ block_value ks vs (row_at rows (4 + i)).0 apart ∙ ap (value_there vs) p.3 in
      let at : (row_at rows (4 + i)).1 ≡ vs p.0 = some_same (row_at rows (4 + i)).1 (vs p.0) found in
      let moved : moves ks p.0 ≡ true = moves_is p.0 p.1 ∙ true_le s (key ks p.0) (subst (λ (x : ℤ). s ≤ℤ x) (ap (λ r. r.0) same ∙ sym p.2) (upper_row i h).1) in
      let real : vs p.0 ≡ value c l p.0 = ap (λ ws. word ws 0) (words_on_part (moved_values l ks 8) c (value_part l p.0) (moved_listed l ks 8 p.0 p.1 moved)) in
      (subst (FitsSigned w64) (sym (ap (λ r. r.0) same)) (row_fits (4 + i) b), subst (FitsSigned w64) (sym (ap (λ r. r.1) same ∙ at ∙ real)) (fits_at c (value_part l p.0) 0 v.fits))
    where
      some_same : (a b : ℤ) → Some a ≡ Some b → a ≡ b
      some_same a b e = cc

  values_fit : (i n : ℕ) (rs : List Row) → ((j : ℕ) → j < length rs → FitsSigned w64 (row_at rs j).1) → UpdatesFit (values i rs)
  values_fit i n [] all = tt
  values_fit i n (r ∷ rs) all = ((all 0 (omega arith), tt), values_fit (suc i) n rs (λ j h. all (suc j) (omega (arith, h))))

  lower_fit : (i : ℕ) → ChangeFits (lower i).0 × ChangeFits (lower i).1
  lower_fit i = by_test (moves ks i) (λ g. subst (λ (u : Change × Change). ChangeFits u.0 × ChangeFits u.1) (sym (lower_moves i g)) (zero_fits, tt)) (λ g. subst (λ (u : Change × Change). ChangeFits u.0 × ChangeFits u.1) (sym (lower_stays i g)) (tt, tt))

  higher_fit : (i : ℕ) → ChangeFits (higher i).0 × ChangeFits (higher i).1
  higher_fit i = elim (less_or_not i 4) [
    | inl a ↦ subst (λ (u : Change × Change). ChangeFits u.0 × ChangeFits u.1) (sym (higher_used i a.1)) (one_fits, (upper_fits i a.1).0)
    | inr a ↦ subst (λ (u : Change × Change). ChangeFits u.0 × ChangeFits u.1) (sym (higher_free i a.1)) (zero_fits, tt)
  ]

  ranges_fit : (j : ℕ) → ChangeFits (ranges j).0 × ChangeFits (ranges j).1 × ChangeFits (ranges j).2
  ranges_fit j = elim (same_or_not j l) [
    | inl at ↦ subst (λ (y : ℕ). ChangeFits (ranges y).0 × ChangeFits (ranges y).1 × ChangeFits (ranges y).2) (sym at) (subst (λ (u : Change × Change × Change). ChangeFits u.0 × ChangeFits u.1 × ChangeFits u.2) (sym ranges_l) (tt, tt, down_fits))
    | inr nl ↦ elim (same_or_not j m) [
      | inl at ↦ subst (λ (y : ℕ). ChangeFits (ranges y).0 × ChangeFits (ranges y).1 × ChangeFits (ranges y).2) (sym at) (subst (λ (u : Change × Change × Change). ChangeFits u.0 × ChangeFits u.1 × ChangeFits u.2) (sym ranges_m) (one_fits, s_fits, fits_at c 1 (3 * l + 2) v.fits))
      | inr nm ↦ subst (λ (u : Change × Change × Change). ChangeFits u.0 × ChangeFits u.1 × ChangeFits u.2) (sym (ranges_other j nl nm)) (tt, tt, tt)
    ]
  ]

  move_fits : UpdatesFit es
  move_fits = (in_threes_fit ranges 0 leaves ranges_fit, (in_pairs_fit lower 0 8 lower_fit, (in_pairs_fit higher 0 8 higher_fit, values_fit 0 0 upper (λ j h. (upper_fits j (omega (arith, h, four))).1))))

  moved_bits : (j i : ℕ) → j < leaves → i < 8 → IsBit (word (keys e j) (2 * i))
  moved_bits j i hj hi = elim (same_or_not j l) [
    | inl at ↦ subst (λ (y : ℕ). IsBit (word (keys e y) (2 * i))) (sym at) (by_test (moves ks i)
        (λ g. inl ((lower_words i hi).0 ∙ ap (λ (u : Change × Change). applied u.0 (word ks (2 * i))) (lower_moves i g)))
        (λ g. subst IsBit (sym ((lower_words i hi).0 ∙ ap (λ (u : Change × Change). applied u.0 (word ks (2 * i))) (lower_stays i g))) (v.bits l i w.leaf_in hi)))
    | inr nl ↦ elim (same_or_not j m) [
      | inl at ↦ subst (λ (y : ℕ). IsBit (word (keys e y) (2 * i))) (sym at) (elim (less_or_not i 4) [ inl a ↦ inr (upper_word i a.1).0 | inr a ↦ inl (free_word i hi a.1) ])
      | inr nm ↦ subst (λ (xs : List ℤ). IsBit (word xs (2 * i))) (sym (same_keys j nl nm)) (v.bits j i hj hi)
    ]
  ]

  moved_inside : (j i : ℕ) → j < leaves → i < 8 → is_live (directory e) j ≡ true → is_present (keys e j) i ≡ true → covers (directory e) (key (keys e j) i) (key (keys e j) i) j ≡ true
  moved_inside j i hj hi live p = elim (same_or_not j l) [
    | inl at ↦ subst (λ (y : ℕ). covers (directory e) (key (keys e y) i) (key (keys e y) i) y ≡ true) (sym at)
        (subst (λ (x : ℤ). covers (directory e) x x l ≡ true) (sym (lower_key i hi))
        (l_covers (key ks i) (v.inside l i w.leaf_in hi w.live (w.crowd i hi)) (lower_present i hi (subst (λ (y : ℕ). is_present (keys e y) i ≡ true) at p))))
    | inr nl ↦ elim (same_or_not j m) [
      | inl at ↦
          let b : i < 4 = upper_present i hi (subst (λ (y : ℕ). is_present (keys e y) i ≡ true) at p) in
          subst (λ (y : ℕ). covers (directory e) (key (keys e y) i) (key (keys e y) i) y ≡ true) (sym at)
          (subst (λ (x : ℤ). covers (directory e) x x m ≡ true) (sym (upper_word i b).1) (m_covers (row_at upper i).0 (upper_row i b).0 (upper_row i b).1))
      | inr nm ↦
          let there : is_present (keys c j) i ≡ true = ap (λ xs. is_present xs i) (sym (same_keys j nl nm)) ∙ p in
          let alive : is_live dir j ≡ true = ap (λ x. int_eq x (pos 1)) (sym (at_other j hj nl nm).0) ∙ live in
          subst (λ (xs : List ℤ). covers (directory e) (key xs i) (key xs i) j ≡ true) (sym (same_keys j nl nm)) (covers_other j hj nl nm (key (keys c j) i) ∙ v.inside j i hj hi alive there)
    ]
  ]

  moved_once : (j a b : ℕ) → j < leaves → a < 8 → b < 8 → is_live (directory e) j ≡ true → is_present (keys e j) a ≡ true → is_present (keys e j) b ≡ true → key (keys e j) a ≡ key (keys e j) b → a ≡ b
  moved_once j a b hj ha hb live pa pb same = elim (same_or_not j l) [
    | inl at ↦ v.once l a b w.leaf_in ha hb w.live (w.crowd a ha) (w.crowd b hb) (sym (lower_key a ha) ∙ subst (λ (y : ℕ). key (keys e y) a ≡ key (keys e y) b) at same ∙ lower_key b hb)
    | inr nl ↦ elim (same_or_not j m) [
      | inl at ↦
          let ba : a < 4 = upper_present a ha (subst (λ (y : ℕ). is_present (keys e y) a ≡ true) at pa) in
          let bb : b < 4 = upper_present b hb (subst (λ (y : ℕ). is_present (keys e y) b ≡ true) at pb) in
          upper_once a b ba bb (sym (upper_word a ba).1 ∙ subst (λ (y : ℕ). key (keys e y) a ≡ key (keys e y) b) at same ∙ (upper_word b bb).1)
      | inr nm ↦
          let xs : keys e j ≡ keys c j = same_keys j nl nm in
          v.once j a b hj ha hb (ap (λ x. int_eq x (pos 1)) (sym (at_other j hj nl nm).0) ∙ live)
          (ap (λ ys. is_present ys a) (sym xs) ∙ pa) (ap (λ ys. is_present ys b) (sym xs) ∙ pb) (ap (λ ys. key ys a) (sym xs) ∙ same ∙ ap (λ ys. key ys b) xs)
    ]
  ]

  pub moved_shaped : IsShaped leaves e
  moved_shaped = record {
    widths = widths_after leaves c es v.widths;
    fits = fits_after es c move_fits v.fits;
    ranges = moved_directory;
    bits = moved_bits;
    once = moved_once;
    inside = moved_inside;
  }

  -- the value at each key stays
  value_l : (q : ℤ) → covers dir q q l ≡ true → q <ℤ s → value_in e q (leaf_of leaves (directory e) q) ≡ value_there (value c l) (place_of ks q)
  value_l q h lt =
      let holds : (i : ℕ) → i < 8 → holds_key (keys e l) q i ≡ holds_key ks q i = λ i hi. by_test (moves ks i)
      (λ g.
      let other : int_eq (key ks i) q ≡ false = not_equal_of (key ks i) q (λ same. lt_not_le q s lt (subst (λ (x : ℤ). s ≤ℤ x) same (le_true s (key ks i) (sym (moves_is i hi) ∙ g)))) in
      ap (λ x. x && int_eq (key (keys e l) i) q) (lower_gone i hi g) ∙ sym (ap (λ x. x && int_eq (key ks i) q) (w.crowd i hi) ∙ other))
      (λ g. ap (λ x. x && int_eq (key (keys e l) i) q) (lower_left i hi g ∙ sym (w.crowd i hi)) ∙ ap (λ x. is_present ks i && int_eq x q) (lower_key i hi)) in
      let place : place_of (keys e l) q ≡ place_of ks q = first_same (holds_key (keys e l) q) (holds_key ks q) 8 holds in
      ap (value_in e q) (leaf_is leaves e moved_shaped l q w.leaf_in (l_covers q h lt)) ∙ ap (value_there (value e l)) place
      ∙ by_option (value_there (value e l) (place_of ks q) ≡ value_there (value c l) (place_of ks q)) (place_of ks q)
      (λ none. ap (value_there (value e l)) none ∙ sym (ap (value_there (value c l)) none))
      (λ i some. ap (value_there (value e l)) some ∙ ap Some (same_values l i (first_some (holds_key ks q) 8 i some).0 l_not_m) ∙ sym (ap (value_there (value c l)) some))

  value_m : (q : ℤ) → covers dir q q l ≡ true → s ≤ℤ q → value_in e q (leaf_of leaves (directory e) q) ≡ value_there (value c l) (place_of ks q)
  value_m q h le =
      ap (value_in e q) (leaf_is leaves e moved_shaped m q w.other_in (m_covers q h le))
      ∙ value_at_held (keys e m) (value e m) upper q upper_rise upper_held
      ∙ value_at_drop 4 rows q rows_rise (omega (arith, eight)) (subst (λ (x : ℤ). x ≤ℤ q) s_is le)
      ∙ block_value ks vs q apart
      ∙ by_option (value_there vs (place_of ks q) ≡ value_there (value c l) (place_of ks q)) (place_of ks q)
      (λ none. ap (value_there vs) none ∙ sym (ap (value_there (value c l)) none))
      (λ i some.
      let g : (i < 8) × (holds_key ks q i ≡ true) = first_some (holds_key ks q) 8 i some in
      let at : key ks i ≡ q = equal_true (key ks i) q (both_true (is_present ks i) (int_eq (key ks i) q) g.1).1 in
      let moved : moves ks i ≡ true = moves_is i g.0 ∙ true_le s (key ks i) (subst (λ (x : ℤ). s ≤ℤ x) (sym at) le) in
      ap (value_there vs) some ∙ ap Some (ap (λ ws. word ws 0) (words_on_part (moved_values l ks 8) c (value_part l i) (moved_listed l ks 8 i g.0 moved))) ∙ sym (ap (value_there (value c l)) some))

  pub moved_value : (q : ℤ) → value_at (tree_rows leaves e) q ≡ value_at (tree_rows leaves c) q
  moved_value q =
      value_at_tree leaves e moved_shaped q
      ∙ by_option (value_in e q (leaf_of leaves (directory e) q) ≡ value_in c q (leaf_of leaves dir q)) (leaf_of leaves dir q)
      (λ none.
      let absent : leaf_of leaves (directory e) q ≡ None = first_absent (covers (directory e) q q) leaves (λ j h. not_present (covers (directory e) q q j) (λ g.
      let b : (a : ℕ) × (a < leaves) × (covers dir q q a ≡ true) = was_in j h q g in
      let z : true ≡ false = sym b.2 ∙ first_none (covers dir q q) leaves none b.0 b.1 in absurd (cc))) in
      ap (value_in e q) absent ∙ sym (ap (value_in c q) none))
      (λ a there.
      let g : (a < leaves) × (covers dir q q a ≡ true) = leaf_has leaves c v a q there in
      elim (same_or_not a l) [
        | inl at ↦
            let gl : covers dir q q l ≡ true = subst (λ (y : ℕ). covers dir q q y ≡ true) at g.1 in
            by_test (int_le s q) (λ le. value_m q gl (le_true s q le)) (λ lt. value_l q gl (le_false s q lt)) ∙ ap (λ (y : ℕ). value_there (value c y) (place_of (keys c y) q)) (sym at) ∙ sym (ap (value_in c q) there)
        | inr nl ↦
            let nm : a ≢ m = λ z. never_m q (subst (λ (y : ℕ). covers dir q q y ≡ true) z g.1) in
            ap (value_in e q) (leaf_is leaves e moved_shaped a q g.0 (covers_other a g.0 nl nm q ∙ g.1)) ∙ ap (λ xs. value_there (value e a) (place_of xs q)) (same_keys a nl nm)
            ∙ by_option (value_there (value e a) (place_of (keys c a) q) ≡ value_there (value c a) (place_of (keys c a) q)) (place_of (keys c a) q)
            (λ none. ap (value_there (value e a)) none ∙ sym (ap (value_there (value c a)) none))
            (λ i some. ap (value_there (value e a)) some ∙ ap Some (same_values a i (first_some (holds_key (keys c a) q) 8 i some).0 nm) ∙ sym (ap (value_there (value c a)) some))
            ∙ sym (ap (value_in c q) there)
      ])
      ∙ sym (value_at_tree leaves c v q)

  pub moved_rows : tree_rows leaves e ≡ tree_rows leaves c
  moved_rows = same_maps (tree_rows leaves e) (tree_rows leaves c) (gathered_rises (tree_slot e) (8 * leaves)) (gathered_rises (tree_slot c) (8 * leaves)) moved_value

  pub moved_tree : IsTree leaves e
  moved_tree =
      let same : count_present leaves e ≡ count_present leaves c = sym (count_is leaves e moved_shaped) ∙ ap length moved_rows ∙ count_is leaves c v in
      record {
        shaped = moved_shaped;
        counted = same_size ∙ t.counted ∙ ap pos (sym same);
        bounded = omega (arith, same, t.bounded);
      }
