-- What a remove makes of a tree.
use Rattle.std.proofs.Common.{◌≡◌, ◌≢◌, ◌<◌, ◌+◌, ◌*◌, ◌^◌, ℕ, suc, ℤ, pos, negsuc, true, false, ◌&&◌, int_le, Some, None, List, [], ◌∷◌, length, refl, sym, ◌∙◌, ap, subst, arith, inl, inr}
use Rattle.std.specs.Int.{w64}
use Rattle.std.specs.Int.RustNames.{FitsSigned}
use Rattle.std.specs.Ordering.{int_eq}
use Rattle.std.proofs.lemmas.Int.{ints}
use Rattle.sto_part.specs.Parts.{part_of}
use Rattle.sto_part.specs.Changes.{applied_all, wrapped_sum}
use Rattle.sto_part.specs.declared.change.Change.{Change}
use Rattle.sto_part.specs.declared.change.Change.TheVariants.{Keep, Put, Add}
use Rattle.sto_item.specs.Pending.{Entry, IsRising, AreUpdates, applied_updates}
use Rattle.sto_item.specs.Agreement.{HasWidths}
use Rattle.sto_model.specs.Rows.{Row, value_at, without}
use Rattle.sto_model.proofs.RowFacts.{by_test, same_of, not_equal_of, without-here, without-past, IsRising-without}
use Rattle.sto_model.proofs.Maps.{same_maps, value_at-without_same, value_at-without_other}
use Rattle.sto_type.specs.Known.{Parts}
use Rattle.sto_type.specs.Meaning.{EachOwned}
use Rattle.sto_tree.specs.SlotFacts.{gathered_rises}
use Rattle.sto_tree.specs.Searches.{first_some, first_absent}
use Rattle.sto_tree.specs.Layout.{listed, parts_of, word, is_live, low, high, is_present, key, directory, keys, value, size, leaf_of, holds_key, place_of, key_part, value_part, tree_slot, tree_rows, count_present}
use Rattle.sto_tree.specs.Said.{key_changes, at_place, size_grows}
use Rattle.sto_tree.specs.Valid.{IsShaped, IsTree}
use Rattle.sto_tree.specs.Tests.{both_true, equal_true, true_equal}
use Rattle.sto_tree.specs.Lookup.{leaf_has}
use Rattle.sto_tree.specs.Sized.{tree_length, tree_width, key_width, widths_after, in_pairs_fit, fits_after, changes_here, changes_past, untouched, touched, word_after, length-in_pairs}
use Rattle.sto_tree.specs.Threes.{place_change}
use Rattle.sto_tree.specs.OneLeaf.{IsPlaceChanged, place_shaped, same_value, same_or_not}
use Rattle.sto_tree.specs.Observing.{value_found, value_absent}
use Rattle.sto_tree.specs.Updating.{owned_at, count_is, one_fewer, at_place_fits, place_stays, place_gets, key_not_value, other_key, not_present}

-- a key that goes makes one row fewer
pub length-without : (rows : List Row) (k v : ℤ) → value_at rows k ≡ Some v → length rows ≡ suc (length (without rows k))
length-without [] k v e = cc
length-without (s ∷ rows) k v e =
    by_test (int_eq s.0 k)
    (λ f. ap suc (ap length (sym (without-here s rows k f))))
    (λ f. ap suc (length-without rows k v (sym (past s rows k f) ∙ e) ∙ ap length (sym (without-past s rows k f))))
  where
    past : (s : Row) (xs : List Row) (k : ℤ) → int_eq s.0 k ≡ false → value_at (s ∷ xs) k ≡ value_at xs k
    past s xs k e = rw e refl

-- the row at place i of leaf l goes
module _ (leaves : ℕ) (c : Parts) (t : IsTree leaves c) (few : parts_of leaves < 2 ^ 32) (k : ℤ) (l i : ℕ)
    (there : leaf_of leaves (directory c) k ≡ Some l) (found : place_of (keys c l) k ≡ Some i) where
  abbrev us : List Change
  us = key_changes (at_place i (Put (pos 0)) Keep)

  abbrev es : List Entry
  es = size_grows (negsuc 0) ∷ (key_part l, us) ∷ []

  abbrev e : Parts
  e = applied_updates es c

  v : IsShaped leaves c
  v = t.shaped

  in_block : i < 8
  in_block = (first_some (holds_key (keys c l) k) 8 i found).0

  was_held : holds_key (keys c l) k i ≡ true
  was_held = (first_some (holds_key (keys c l) k) 8 i found).1

  leaf_in : l < leaves
  leaf_in = (leaf_has leaves c v l k there).0

  rising : IsRising es
  rising = (omega arith, (omega arith, tt))

  pub gone_ordered : AreUpdates es
  gone_ordered = (rising, (refl, (place_change i (Put (pos 0)) Keep in_block refl, tt)))

  key_wide : length (keys c l) ≡ 16
  key_wide = tree_width leaves c (key_part l) v.widths (omega (arith, leaf_in)) ∙ key_width leaves l

  pub gone_widths : HasWidths es c
  gone_widths =
      let n : length c ≡ parts_of leaves = tree_length leaves c v.widths in (
        omega (arith, n),
        tree_width leaves c 0 v.widths (omega arith),
        (omega (arith, n, leaf_in), key_wide ∙ sym (length-in_pairs (at_place i (Put (pos 0)) Keep) 0 8), tt),
      )

  pub gone_owned : EachOwned (listed (λ (q : ℕ). (0, q)) 0 (parts_of leaves)) 0 es
  gone_owned = (owned_at leaves 0 (omega arith), (owned_at leaves (key_part l) (omega (arith, leaf_in)), tt))

  same_directory : directory e ≡ directory c
  same_directory =
      untouched es c 1 rising gone_widths
      (changes_past 0 1 (Add (negsuc 0) ∷ []) ((key_part l, us) ∷ []) (λ z. absurd (omega (arith, z)))
      ∙ changes_past (key_part l) 1 us [] (λ z. absurd (omega (arith, z))))

  same_keys : (m : ℕ) → m ≢ l → keys e m ≡ keys c m
  same_keys m n =
      untouched es c (key_part m) rising gone_widths
      (changes_past 0 (key_part m) (Add (negsuc 0) ∷ []) ((key_part l, us) ∷ []) (λ z. absurd (omega (arith, z)))
      ∙ changes_past (key_part l) (key_part m) us [] (other_key l m n))

  new_keys : keys e l ≡ applied_all us (keys c l)
  new_keys =
      touched es c (key_part l) us rising gone_widths
      (changes_past 0 (key_part l) (Add (negsuc 0) ∷ []) ((key_part l, us) ∷ []) (λ z. absurd (omega (arith, z)))
      ∙ changes_here (key_part l) us [])

  same_values : (m j : ℕ) → j < 8 → value e m j ≡ value c m j
  same_values m j h =
      ap (λ ws. word ws 0) (untouched es c (value_part m j) rising gone_widths
      (changes_past 0 (value_part m j) (Add (negsuc 0) ∷ []) ((key_part l, us) ∷ []) (λ z. absurd (omega (arith, z)))
      ∙ changes_past (key_part l) (value_part m j) us [] (λ z. key_not_value m l j h (sym z))))

  new_size : size e ≡ wrapped_sum (size c) (negsuc 0)
  new_size =
      ap (λ ws. word ws 0) (touched es c 0 (Add (negsuc 0) ∷ []) rising gone_widths (changes_here 0 (Add (negsuc 0) ∷ []) ((key_part l, us) ∷ [])))
      ∙ word_after (Add (negsuc 0) ∷ []) (part_of c 0) 0 (sym (tree_width leaves c 0 v.widths (omega arith)))

  stays : (j : ℕ) → j < 8 → j ≢ i → (word (keys e l) (2 * j) ≡ word (keys c l) (2 * j)) × (key (keys e l) j ≡ key (keys c l) j)
  stays j h n =
      let s : (word (applied_all us (keys c l)) (2 * j) ≡ word (keys c l) (2 * j)) × (word (applied_all us (keys c l)) (2 * j + 1) ≡ word (keys c l) (2 * j + 1)) = place_stays (keys c l) i j (Put (pos 0)) Keep key_wide h n in
      (ap (λ ws. word ws (2 * j)) new_keys ∙ s.0, ap (λ ws. word ws (2 * j + 1)) new_keys ∙ s.1)

  present_gone : word (keys e l) (2 * i) ≡ pos 0
  present_gone = ap (λ ws. word ws (2 * i)) new_keys ∙ (place_gets (keys c l) i (Put (pos 0)) Keep key_wide in_block).0

  is_gone : is_present (keys e l) i ≡ false
  is_gone = ap (λ x. int_eq x (pos 1)) present_gone

  changed_place : IsPlaceChanged leaves c e l i
  changed_place = record {
    widths = widths_after leaves c es v.widths;
    fits = fits_after es c ((tt, tt), (in_pairs_fit (at_place i (Put (pos 0)) Keep) 0 8 (at_place_fits i (Put (pos 0)) Keep zero_fits tt), tt)) v.fits;
    ranges = same_directory;
    others = λ m b n. same_keys m n;
    stays = stays;
    bit = inl present_gone;
    fits_in = λ p. let z : true ≡ false = sym p ∙ is_gone in absurd (cc);
    new = λ p j h n present at. let z : true ≡ false = sym p ∙ is_gone in absurd (cc);
  } where
    zero_fits : FitsSigned w64 (pos 0)
    zero_fits = search (arith, ints)

  pub gone_shaped : IsShaped leaves e
  gone_shaped = place_shaped leaves c e l i v changed_place

  live_there : is_live (directory c) l ≡ true
  live_there = (both_true (is_live (directory c) l) (int_le (low (directory c) l) k && int_le k (high (directory c) l)) (leaf_has leaves c v l k there).1).0

  key_there : (is_present (keys c l) i ≡ true) × (key (keys c l) i ≡ k)
  key_there =
      let x : (is_present (keys c l) i ≡ true) × (int_eq (key (keys c l) i) k ≡ true) = both_true (is_present (keys c l) i) (int_eq (key (keys c l) i) k) was_held in
      (x.0, equal_true (key (keys c l) i) k x.1)

  none_left : (j : ℕ) → j < 8 → holds_key (keys e l) k j ≡ false
  none_left j h = elim (same_or_not j i) [
    | inl here ↦ subst (λ (y : ℕ). holds_key (keys e l) k y ≡ false) (sym here) (ap (λ x. x && int_eq (key (keys e l) i) k) is_gone)
    | inr moved ↦
        not_present (holds_key (keys e l) k j) (λ hit.
        let x : (is_present (keys e l) j ≡ true) × (int_eq (key (keys e l) j) k ≡ true) = both_true (is_present (keys e l) j) (int_eq (key (keys e l) j) k) hit in
        let was : is_present (keys c l) j ≡ true = ap (λ y. int_eq y (pos 1)) (sym (stays j h moved).0) ∙ x.0 in
        let at : key (keys c l) j ≡ key (keys c l) i = sym (stays j h moved).1 ∙ equal_true (key (keys e l) j) k x.1 ∙ sym key_there.1 in
        moved (v.once l j i leaf_in h in_block live_there was key_there.0 at))
  ]

  at_gone : value_at (tree_rows leaves e) k ≡ None
  at_gone = value_absent leaves e l k gone_shaped (ap (λ dir. leaf_of leaves dir k) same_directory ∙ there) (first_absent (holds_key (keys e l) k) 8 none_left)

  holds_same : (q : ℤ) → (k ≡ q → ⊥) → (m j : ℕ) → m < leaves → j < 8 → holds_key (keys e m) q j ≡ holds_key (keys c m) q j
  holds_same q n m j bm h = elim (same_or_not m l) [
    | inr other ↦ ap (λ ks. holds_key ks q j) (same_keys m other)
    | inl at ↦ elim (same_or_not j i) [
      | inr moved ↦
          subst (λ (x : ℕ). holds_key (keys e x) q j ≡ holds_key (keys c x) q j) (sym at)
          (ap (λ x. int_eq x (pos 1) && int_eq (key (keys e l) j) q) (stays j h moved).0 ∙ ap (λ x. is_present (keys c l) j && int_eq x q) (stays j h moved).1)
      | inl here ↦
          let miss : int_eq (key (keys c l) i) q ≡ false = ap (λ x. int_eq x q) key_there.1 ∙ not_equal_of k q n in
          let old : holds_key (keys c l) q i ≡ false = ap (λ x. x && int_eq (key (keys c l) i) q) key_there.0 ∙ miss in
          let now : holds_key (keys e l) q i ≡ false = ap (λ x. x && int_eq (key (keys e l) i) q) is_gone in
          subst (λ (x : ℕ). holds_key (keys e x) q j ≡ holds_key (keys c x) q j) (sym at) (subst (λ (y : ℕ). holds_key (keys e l) q y ≡ holds_key (keys c l) q y) (sym here) (now ∙ sym old))
    ]
  ]

  pub gone_rows : tree_rows leaves e ≡ without (tree_rows leaves c) k
  gone_rows =
      same_maps (tree_rows leaves e) (without (tree_rows leaves c) k) (gathered_rises (tree_slot e) (8 * leaves)) (IsRising-without (tree_rows leaves c) k (gathered_rises (tree_slot c) (8 * leaves)))
      (λ q. by_test (int_eq k q)
      (λ y. let at : k ≡ q = same_of k q y in subst (λ (x : ℤ). value_at (tree_rows leaves e) x ≡ value_at (without (tree_rows leaves c) k) x) at (at_gone ∙ sym (value_at-without_same (tree_rows leaves c) k (gathered_rises (tree_slot c) (8 * leaves)))))
      (λ y.
      let n : k ≡ q → ⊥ = λ z. let x : true ≡ false = sym (true_equal k q z) ∙ y in absurd (cc) in
      same_value leaves c e v gone_shaped q same_directory (holds_same q n) (λ m j bm h hit. same_values m j h) ∙ sym (value_at-without_other (tree_rows leaves c) k q n)))

  pub gone_there : value_at (tree_rows leaves c) k ≡ Some (value c l i)
  gone_there = value_found leaves c l i k v there found

  pub gone_tree : IsTree leaves e
  gone_tree =
      let fewer : count_present leaves c ≡ suc (count_present leaves e) = sym (count_is leaves c v) ∙ length-without (tree_rows leaves c) k (value c l i) gone_there ∙ ap suc (ap length (sym gone_rows) ∙ count_is leaves e gone_shaped) in
      record {
        shaped = gone_shaped;
        counted = new_size ∙ ap (λ x. wrapped_sum x (negsuc 0)) (t.counted ∙ ap pos fewer) ∙ one_fewer (count_present leaves e) (omega (arith, fewer, t.bounded, few));
        bounded = omega (arith, fewer, t.bounded);
      }
