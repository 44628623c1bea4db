-- What a put of a present key makes of a tree.
use Rattle.std.proofs.Common.{◌≡◌, ◌≢◌, ◌<◌, ◌⊎◌, ◌*◌, ◌/◌, ◌%◌, ℕ, zero, suc, ℤ, pos, Bool, true, false, ◌&&◌, Some, List, [], ◌∷◌, length, refl, sym, ◌∙◌, ap, subst, arith, inl, inr}
use Rattle.std.specs.Int.{w64}
use Rattle.std.specs.Int.RustNames.{FitsSigned}
use Rattle.std.specs.Ordering.{int_eq}
use Rattle.sto_part.specs.Parts.{part_of}
use Rattle.sto_part.specs.declared.change.Change.TheVariants.{Put}
use Rattle.sto_item.specs.Pending.{Entry, IsRising, AreUpdates, applied_updates}
use Rattle.sto_item.specs.Agreement.{HasWidths}
use Rattle.sto_model.specs.Rows.{value_at, with_row}
use Rattle.sto_model.proofs.RowFacts.{by_test, same_of, IsRising-with_row}
use Rattle.sto_model.proofs.Maps.{same_maps, value_at-with_row_same, value_at-with_row_other}
use Rattle.sto_type.specs.Known.{Parts}
use Rattle.sto_type.specs.Meaning.{EachOwned}
use Rattle.sto_tree.specs.Slots.{Slots, held, count_held}
use Rattle.sto_tree.specs.SlotFacts.{gathered_rises}
use Rattle.sto_tree.specs.Searches.{first_some}
use Rattle.sto_tree.specs.Layout.{listed, parts_of, word, is_live, is_present, key, directory, keys, value, covers, leaf_of, holds_key, place_of, slot_of, key_part, value_part, tree_slot, tree_rows, count_present}
use Rattle.sto_tree.specs.Said.{value_is}
use Rattle.sto_tree.specs.Valid.{IsBit, IsDirectory, IsShaped, IsTree}
use Rattle.sto_tree.specs.Tests.{both_true, equal_true, true_equal}
use Rattle.sto_tree.specs.Lookup.{leaf_has}
use Rattle.sto_tree.specs.Sized.{tree_length, tree_width, value_width, widths_after, fits_after, changes_here, changes_past, untouched, touched, word_after}
use Rattle.sto_tree.specs.OneLeaf.{same_value, same_or_not}
use Rattle.sto_tree.specs.Observing.{value_found}
use Rattle.sto_tree.specs.Updating.{owned_at, key_not_value, other_value}

-- as many slots that hold a row
count_same : (s r : Slots) (n : ℕ) → ((j : ℕ) → j < n → held (s j) ≡ held (r j)) → count_held s n ≡ count_held r n
count_same s r zero all = refl
count_same s r (suc n) all = omega (arith, all n (omega arith), count_same s r n (λ j h. all j (omega (arith, h))))

held_by : (a b : Bool) (x y z w : ℤ) → a ≡ b → held (slot_of a x y) ≡ held (slot_of b z w)
held_by true true x y z w e = refl
held_by true false x y z w e = cc
held_by false true x y z w e = cc
held_by false false x y z w e = refl

-- the value at place i of leaf l is put
module _ (leaves : ℕ) (c : Parts) (t : IsTree leaves c) (k w : ℤ) (l i : ℕ)
    (fits_w : FitsSigned w64 w) (there : leaf_of leaves (directory c) k ≡ Some l) (found : place_of (keys c l) k ≡ Some i) where
  abbrev es : List Entry
  es = value_is l i w ∷ []

  abbrev e : Parts
  e = applied_updates es c

  v : IsShaped leaves c
  v = t.shaped

  in_block : i < 8
  in_block = (first_some (holds_key (keys c l) k) 8 i found).0

  leaf_in : l < leaves
  leaf_in = (leaf_has leaves c v l k there).0

  rising : IsRising es
  rising = (omega arith, tt)

  pub over_ordered : AreUpdates es
  over_ordered = (rising, (refl, tt))

  value_wide : length (part_of c (value_part l i)) ≡ 1
  value_wide = tree_width leaves c (value_part l i) v.widths (omega (arith, leaf_in, in_block)) ∙ value_width leaves l i in_block

  pub over_widths : HasWidths es c
  over_widths = (omega (arith, tree_length leaves c v.widths, leaf_in, in_block), value_wide, tt)

  pub over_owned : EachOwned (listed (λ (q : ℕ). (0, q)) 0 (parts_of leaves)) 0 es
  over_owned = (owned_at leaves (value_part l i) (omega (arith, leaf_in, in_block)), tt)

  same_part : (p : ℕ) → value_part l i ≢ p → part_of e p ≡ part_of c p
  same_part p n = untouched es c p rising over_widths (changes_past (value_part l i) p (Put w ∷ []) [] n)

  same_directory : directory e ≡ directory c
  same_directory = same_part 1 (λ z. absurd (omega (arith, z)))

  same_keys : (m : ℕ) → keys e m ≡ keys c m
  same_keys m = same_part (key_part m) (key_not_value l m i in_block)

  same_values : (m j : ℕ) → j < 8 → (m ≢ l) ⊎ (j ≢ i) → value e m j ≡ value c m j
  same_values m j h n = ap (λ ws. word ws 0) (same_part (value_part m j) (other_value l m i j in_block h n))

  new_value : value e l i ≡ w
  new_value =
      ap (λ ws. word ws 0) (touched es c (value_part l i) (Put w ∷ []) rising over_widths (changes_here (value_part l i) (Put w ∷ []) []))
      ∙ word_after (Put w ∷ []) (part_of c (value_part l i)) 0 (sym value_wide)

  pub over_shaped : IsShaped leaves e
  over_shaped = record {
    widths = widths_after leaves c es v.widths;
    fits = fits_after es c ((fits_w, tt), tt) v.fits;
    ranges = subst (IsDirectory leaves) (sym same_directory) v.ranges;
    bits = λ m j bm h. subst (λ (ks : List ℤ). IsBit (word ks (2 * j))) (sym (same_keys m)) (v.bits m j bm h);
    once = λ m a b bm ba bb live pa pb same.
        v.once m a b bm ba bb (ap (λ dir. is_live dir m) (sym same_directory) ∙ live)
        (ap (λ ks. is_present ks a) (sym (same_keys m)) ∙ pa) (ap (λ ks. is_present ks b) (sym (same_keys m)) ∙ pb)
        (ap (λ ks. key ks a) (sym (same_keys m)) ∙ same ∙ ap (λ ks. key ks b) (same_keys m));
    inside = λ m j bm h live present.
        ap (λ dir. covers dir (key (keys e m) j) (key (keys e m) j) m) same_directory
        ∙ ap (λ ks. covers (directory c) (key ks j) (key ks j) m) (same_keys m)
        ∙ v.inside m j bm h (ap (λ dir. is_live dir m) (sym same_directory) ∙ live) (ap (λ ks. is_present ks j) (sym (same_keys m)) ∙ present);
  }

  at_new : value_at (tree_rows leaves e) k ≡ Some w
  at_new =
      value_found leaves e l i k over_shaped (ap (λ dir. leaf_of leaves dir k) same_directory ∙ there) (ap (λ ks. place_of ks k) (same_keys l) ∙ found)
      ∙ ap Some new_value

  was_at : (q : ℤ) → holds_key (keys c l) q i ≡ true → k ≡ q
  was_at q hit =
      let x : (is_present (keys c l) i ≡ true) × (int_eq (key (keys c l) i) k ≡ true) = both_true (is_present (keys c l) i) (int_eq (key (keys c l) i) k) (first_some (holds_key (keys c l) k) 8 i found).1 in
      let y : (is_present (keys c l) i ≡ true) × (int_eq (key (keys c l) i) q ≡ true) = both_true (is_present (keys c l) i) (int_eq (key (keys c l) i) q) hit in
      sym (equal_true (key (keys c l) i) k x.1) ∙ equal_true (key (keys c l) i) q y.1

  values_same : (q : ℤ) → (k ≡ q → ⊥) → (m j : ℕ) → m < leaves → j < 8 → holds_key (keys c m) q j ≡ true → value e m j ≡ value c m j
  values_same q n m j bm h hit = elim (same_or_not m l) [
    | inr other ↦ same_values m j h (inl other)
    | inl at ↦ elim (same_or_not j i) [
      | inr moved ↦ same_values m j h (inr moved)
      | inl here ↦ absurd (n (was_at q (subst (λ (y : ℕ). holds_key (keys c l) q y ≡ true) here (subst (λ (x : ℕ). holds_key (keys c x) q j ≡ true) at hit))))
    ]
  ]

  pub over_rows : tree_rows leaves e ≡ with_row (tree_rows leaves c) k w
  over_rows =
      same_maps (tree_rows leaves e) (with_row (tree_rows leaves c) k w) (gathered_rises (tree_slot e) (8 * leaves)) (IsRising-with_row (tree_rows leaves c) k w (gathered_rises (tree_slot c) (8 * leaves)))
      (λ q. by_test (int_eq k q)
      (λ y. let at : k ≡ q = same_of k q y in subst (λ (x : ℤ). value_at (tree_rows leaves e) x ≡ value_at (with_row (tree_rows leaves c) k w) x) at (at_new ∙ sym (value_at-with_row_same (tree_rows leaves c) k w)))
      (λ y.
      let n : k ≡ q → ⊥ = λ z. let x : true ≡ false = sym (true_equal k q z) ∙ y in absurd (cc) in
      same_value leaves c e v over_shaped q same_directory (λ m j bm h. ap (λ ks. holds_key ks q j) (same_keys m)) (values_same q n) ∙ sym (value_at-with_row_other (tree_rows leaves c) k w q n)))

  pub over_there : value_at (tree_rows leaves c) k ≡ Some (value c l i)
  over_there = value_found leaves c l i k v there found

  pub over_tree : IsTree leaves e
  over_tree =
      let same : count_present leaves e ≡ count_present leaves c =
      count_same (tree_slot e) (tree_slot c) (8 * leaves) (λ j h. held_by (is_live (directory e) (j / 8) && is_present (keys e (j / 8)) (j % 8)) (is_live (directory c) (j / 8) && is_present (keys c (j / 8)) (j % 8))
      (key (keys e (j / 8)) (j % 8)) (value e (j / 8) (j % 8)) (key (keys c (j / 8)) (j % 8)) (value c (j / 8) (j % 8))
      (ap (λ dir. is_live dir (j / 8) && is_present (keys e (j / 8)) (j % 8)) same_directory ∙ ap (λ ks. is_live (directory c) (j / 8) && is_present ks (j % 8)) (same_keys (j / 8))))
      in
      record {
        shaped = over_shaped;
        counted = ap (λ ws. word ws 0) (same_part 0 (λ z. absurd (omega (arith, z)))) ∙ t.counted ∙ ap pos (sym same);
        bounded = omega (arith, same, t.bounded);
      }
