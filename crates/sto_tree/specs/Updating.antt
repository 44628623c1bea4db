-- What the updates of one place make of a tree.
use Rattle.std.proofs.Common.{◌≡◌, ◌≢◌, ◌<◌, ◌⊎◌, ◌+◌, ◌*◌, ◌^◌, ℕ, suc, ℤ, pos, negsuc, Bool, true, false, ◌&&◌, int_le, Some, None, List, [], ◌∷◌, length, refl, sym, ◌∙◌, ap, subst, arith, inl, inr}
use Rattle.std.specs.Prelude.{◌+ℤ◌}
use Rattle.std.specs.Int.{w64, int_wrap}
use Rattle.std.specs.Int.RustNames.{FitsSigned}
use Rattle.std.specs.Ordering.{int_eq}
use Rattle.std.proofs.lemmas.Int.{ints, int_wrap_fits}
use Rattle.sto_part.specs.Parts.{part_of}
use Rattle.sto_part.specs.Changes.{applied, applied_all, wrapped_sum}
use Rattle.sto_part.specs.declared.change.Change.{Change}
use Rattle.sto_part.specs.declared.change.Change.TheVariants.{Keep, Put, Add}
use Rattle.sto_item.specs.Pending.{Entry, IsRising, AreUpdates, applied_updates}
use Rattle.sto_item.specs.Agreement.{HasWidths}
use Rattle.sto_model.specs.Rows.{value_at, with_row}
use Rattle.sto_model.proofs.RowFacts.{by_test, same_of, not_equal_of, IsRising-with_row}
use Rattle.sto_model.proofs.Maps.{same_maps, value_at-with_row_same, value_at-with_row_other}
use Rattle.sto_type.specs.Known.{Parts}
use Rattle.sto_type.specs.Meaning.{IsPartOfObject, EachOwned}
use Rattle.sto_tree.specs.SlotFacts.{gathered_rises, length-gathered, length-with_row_new}
use Rattle.sto_tree.specs.Searches.{first_none}
use Rattle.sto_tree.specs.Layout.{listed, parts_of, word, is_live, low, high, is_present, key, directory, keys, value, size, covers, leaf_of, holds_key, place_of, key_part, value_part, tree_slot, tree_rows, count_present}
use Rattle.sto_tree.specs.Said.{key_changes, at_place, size_grows, value_is}
use Rattle.sto_tree.specs.Valid.{IsShaped, IsTree}
use Rattle.sto_tree.specs.Tests.{both_true, and_true, true_equal}
use Rattle.sto_tree.specs.Lookup.{leaf_has, place_is, tree_apart}
use Rattle.sto_tree.specs.Sized.{length-listed, listed_at, tree_length, tree_width, key_width, value_width, widths_after, ChangeFits, in_pairs_fit, fits_after, changes_here, changes_past, untouched, touched, word_after, length-in_pairs, key_words_after, at_place_here, at_place_other}
use Rattle.sto_tree.specs.Threes.{place_change}
use Rattle.sto_tree.specs.OneLeaf.{IsPlaceChanged, place_shaped, same_value, same_or_not}
use Rattle.sto_tree.specs.Observing.{value_found, value_absent}

-- every part in range is one of the object
pub owned_at : (leaves p : ℕ) → p < parts_of leaves → IsPartOfObject (listed (λ (q : ℕ). (0, q)) 0 (parts_of leaves)) 0 p
owned_at leaves p h = record {
  in_range = omega (arith, h, length-listed {A = ℕ × ℕ} (λ (q : ℕ). (0, q)) 0 (parts_of leaves));
  owner = ap (λ (x : ℕ × ℕ). x.0) (listed_at {A = ℕ × ℕ} (λ (q : ℕ). (0, q)) 0 (parts_of leaves) p (0, 0) h);
}

-- as many rows as present places
pub count_is : (leaves : ℕ) (c : Parts) → IsShaped leaves c → length (tree_rows leaves c) ≡ count_present leaves c
count_is leaves c v = length-gathered (tree_slot c) (8 * leaves) (tree_apart leaves c v)

-- a size that grows by one and fits
pub one_more : (n : ℕ) → n < 2 ^ 60 → wrapped_sum (pos n) (pos 1) ≡ pos (suc n)
one_more n h =
    let e : pos n +ℤ pos 1 ≡ pos (suc n) = omega (arith, ints) in
    let f : FitsSigned w64 (pos (suc n)) = search (arith, ints) in
    ap (int_wrap w64) e ∙ int_wrap_fits w64 (pos (suc n)) f

pub one_fewer : (n : ℕ) → n < 2 ^ 60 → wrapped_sum (pos (suc n)) (negsuc 0) ≡ pos n
one_fewer n h =
    let e : pos (suc n) +ℤ negsuc 0 ≡ pos n = omega (arith, ints) in
    let f : FitsSigned w64 (pos n) = search (arith, ints) in
    ap (int_wrap w64) e ∙ int_wrap_fits w64 (pos n) f

-- changes of one place fit
pub at_place_fits : (i : ℕ) (a b : Change) → ChangeFits a → ChangeFits b → (j : ℕ) → ChangeFits (at_place i a b j).0 × ChangeFits (at_place i a b j).1
at_place_fits i a b fa fb j = elim (same_or_not j i) [
  | inl here ↦ subst (λ (x : ℕ). ChangeFits (at_place i a b x).0 × ChangeFits (at_place i a b x).1) (sym here) (subst (λ (u : Change × Change). ChangeFits u.0 × ChangeFits u.1) (sym (at_place_here i a b)) (fa, fb))
  | inr other ↦ subst (λ (u : Change × Change). ChangeFits u.0 × ChangeFits u.1) (sym (at_place_other i j a b other)) (tt, tt)
]

-- the words of a key part of which one place changes
pub place_stays : (ks : List ℤ) (i j : ℕ) (a b : Change) → length ks ≡ 16 → j < 8 → j ≢ i → (word (applied_all (key_changes (at_place i a b)) ks) (2 * j) ≡ word ks (2 * j)) × (word (applied_all (key_changes (at_place i a b)) ks) (2 * j + 1) ≡ word ks (2 * j + 1))
place_stays ks i j a b e h n =
    let w : (word (applied_all (key_changes (at_place i a b)) ks) (2 * j) ≡ applied (at_place i a b j).0 (word ks (2 * j))) × (word (applied_all (key_changes (at_place i a b)) ks) (2 * j + 1) ≡ applied (at_place i a b j).1 (word ks (2 * j + 1))) = key_words_after (at_place i a b) ks j e h in
    let o : at_place i a b j ≡ (Keep, Keep) = at_place_other i j a b n in
    (w.0 ∙ ap (λ (u : Change × Change). applied u.0 (word ks (2 * j))) o, w.1 ∙ ap (λ (u : Change × Change). applied u.1 (word ks (2 * j + 1))) o)

pub place_gets : (ks : List ℤ) (i : ℕ) (a b : Change) → length ks ≡ 16 → i < 8 → (word (applied_all (key_changes (at_place i a b)) ks) (2 * i) ≡ applied a (word ks (2 * i))) × (word (applied_all (key_changes (at_place i a b)) ks) (2 * i + 1) ≡ applied b (word ks (2 * i + 1)))
place_gets ks i a b e h =
    let w : (word (applied_all (key_changes (at_place i a b)) ks) (2 * i) ≡ applied (at_place i a b i).0 (word ks (2 * i))) × (word (applied_all (key_changes (at_place i a b)) ks) (2 * i + 1) ≡ applied (at_place i a b i).1 (word ks (2 * i + 1))) = key_words_after (at_place i a b) ks i e h in
    let o : at_place i a b i ≡ (a, b) = at_place_here i a b in
    (w.0 ∙ ap (λ (u : Change × Change). applied u.0 (word ks (2 * i))) o, w.1 ∙ ap (λ (u : Change × Change). applied u.1 (word ks (2 * i + 1))) o)

-- the numbers of parts
pub key_not_value : (l m i : ℕ) → i < 8 → value_part l i ≢ key_part m
key_not_value l m i h = λ e. absurd (omega (arith, e, h))

pub other_key : (l m : ℕ) → m ≢ l → key_part l ≢ key_part m
other_key l m n = λ e. n (omega (arith, e))

pub other_value : (l m i j : ℕ) → i < 8 → j < 8 → (m ≢ l) ⊎ (j ≢ i) → value_part l i ≢ value_part m j
other_value l m i j hi hj (inl n) = λ e. n (omega (arith, e, hi, hj))
other_value l m i j hi hj (inr n) = λ e. n (omega (arith, e, hi, hj))

pub not_present : (b : Bool) → (b ≡ true → ⊥) → b ≡ false
not_present true h = absurd (h refl)
not_present false h = refl

-- a new row at a free place i of leaf l
module _ (leaves : ℕ) (c : Parts) (t : IsTree leaves c) (few : parts_of leaves < 2 ^ 32) (k w : ℤ) (l i : ℕ)
    (fits_k : FitsSigned w64 k) (fits_w : FitsSigned w64 w) (there : leaf_of leaves (directory c) k ≡ Some l) (absent : place_of (keys c l) k ≡ None)
    (in_block : i < 8) (free : is_present (keys c l) i ≡ false) (room : count_present leaves c < 4 * leaves) where
  abbrev us : List Change
  us = key_changes (at_place i (Put (pos 1)) (Put k))

  abbrev es : List Entry
  es = size_grows (pos 1) ∷ (key_part l, us) ∷ value_is l i w ∷ []

  abbrev e : Parts
  e = applied_updates es c

  v : IsShaped leaves c
  v = t.shaped

  leaf_in : l < leaves
  leaf_in = (leaf_has leaves c v l k there).0

  rising : IsRising es
  rising = (omega arith, (omega arith, (omega (arith), tt)))

  pub new_ordered : AreUpdates es
  new_ordered = (rising, (refl, (place_change i (Put (pos 1)) (Put k) in_block refl, (refl, tt))))

  key_wide : length (keys c l) ≡ 16
  key_wide = tree_width leaves c (key_part l) v.widths (omega (arith, leaf_in)) ∙ key_width leaves l

  pub new_widths : HasWidths es c
  new_widths =
      let n : length c ≡ parts_of leaves = tree_length leaves c v.widths in (
        omega (arith, n),
        tree_width leaves c 0 v.widths (omega arith),
        (
          omega (arith, n, leaf_in),
          key_wide ∙ sym (length-in_pairs (at_place i (Put (pos 1)) (Put k)) 0 8),
          (omega (arith, n, leaf_in, in_block), tree_width leaves c (value_part l i) v.widths (omega (arith, leaf_in, in_block)) ∙ value_width leaves l i in_block, tt),
        ),
      )

  pub new_owned : EachOwned (listed (λ (q : ℕ). (0, q)) 0 (parts_of leaves)) 0 es
  new_owned = (owned_at leaves 0 (omega arith), (owned_at leaves (key_part l) (omega (arith, leaf_in)), (owned_at leaves (value_part l i) (omega (arith, leaf_in, in_block)), tt)))

  same_directory : directory e ≡ directory c
  same_directory =
      untouched es c 1 rising new_widths
      (changes_past 0 1 (Add (pos 1) ∷ []) ((key_part l, us) ∷ value_is l i w ∷ []) (λ z. absurd (omega (arith, z)))
      ∙ changes_past (key_part l) 1 us (value_is l i w ∷ []) (λ z. absurd (omega (arith, z)))
      ∙ changes_past (value_part l i) 1 (Put w ∷ []) [] (λ z. absurd (omega (arith, z))))

  same_keys : (m : ℕ) → m ≢ l → keys e m ≡ keys c m
  same_keys m n =
      untouched es c (key_part m) rising new_widths
      (changes_past 0 (key_part m) (Add (pos 1) ∷ []) ((key_part l, us) ∷ value_is l i w ∷ []) (λ z. absurd (omega (arith, z)))
      ∙ changes_past (key_part l) (key_part m) us (value_is l i w ∷ []) (other_key l m n)
      ∙ changes_past (value_part l i) (key_part m) (Put w ∷ []) [] (key_not_value l m i in_block))

  new_keys : keys e l ≡ applied_all us (keys c l)
  new_keys =
      touched es c (key_part l) us rising new_widths
      (changes_past 0 (key_part l) (Add (pos 1) ∷ []) ((key_part l, us) ∷ value_is l i w ∷ []) (λ z. absurd (omega (arith, z)))
      ∙ changes_here (key_part l) us (value_is l i w ∷ []))

  same_values : (m j : ℕ) → j < 8 → (m ≢ l) ⊎ (j ≢ i) → value e m j ≡ value c m j
  same_values m j h n =
      ap (λ ws. word ws 0) (untouched es c (value_part m j) rising new_widths
      (changes_past 0 (value_part m j) (Add (pos 1) ∷ []) ((key_part l, us) ∷ value_is l i w ∷ []) (λ z. absurd (omega (arith, z)))
      ∙ changes_past (key_part l) (value_part m j) us (value_is l i w ∷ []) (λ z. key_not_value m l j h (sym z))
      ∙ changes_past (value_part l i) (value_part m j) (Put w ∷ []) [] (other_value l m i j in_block h n)))

  new_value : value e l i ≡ w
  new_value =
      ap (λ ws. word ws 0) (touched es c (value_part l i) (Put w ∷ []) rising new_widths
      (changes_past 0 (value_part l i) (Add (pos 1) ∷ []) ((key_part l, us) ∷ value_is l i w ∷ []) (λ z. absurd (omega (arith, z)))
      ∙ changes_past (key_part l) (value_part l i) us (value_is l i w ∷ []) (λ z. key_not_value l l i in_block (sym z))
      ∙ changes_here (value_part l i) (Put w ∷ []) []))
      ∙ word_after (Put w ∷ []) (part_of c (value_part l i)) 0 (sym (tree_width leaves c (value_part l i) v.widths (omega (arith, leaf_in, in_block)) ∙ value_width leaves l i in_block))

  new_size : size e ≡ wrapped_sum (size c) (pos 1)
  new_size =
      ap (λ ws. word ws 0) (touched es c 0 (Add (pos 1) ∷ []) rising new_widths (changes_here 0 (Add (pos 1) ∷ []) ((key_part l, us) ∷ value_is l i w ∷ [])))
      ∙ word_after (Add (pos 1) ∷ []) (part_of c 0) 0 (sym (tree_width leaves c 0 v.widths (omega arith)))

  stays : (j : ℕ) → j < 8 → j ≢ i → (word (keys e l) (2 * j) ≡ word (keys c l) (2 * j)) × (key (keys e l) j ≡ key (keys c l) j)
  stays j h n =
      let s : (word (applied_all us (keys c l)) (2 * j) ≡ word (keys c l) (2 * j)) × (word (applied_all us (keys c l)) (2 * j + 1) ≡ word (keys c l) (2 * j + 1)) = place_stays (keys c l) i j (Put (pos 1)) (Put k) key_wide h n in
      (ap (λ ws. word ws (2 * j)) new_keys ∙ s.0, ap (λ ws. word ws (2 * j + 1)) new_keys ∙ s.1)

  gets : (word (keys e l) (2 * i) ≡ pos 1) × (key (keys e l) i ≡ k)
  gets =
      let s : (word (applied_all us (keys c l)) (2 * i) ≡ pos 1) × (word (applied_all us (keys c l)) (2 * i + 1) ≡ k) = place_gets (keys c l) i (Put (pos 1)) (Put k) key_wide in_block in
      (ap (λ ws. word ws (2 * i)) new_keys ∙ s.0, ap (λ ws. word ws (2 * i + 1)) new_keys ∙ s.1)

  has_not : (j : ℕ) → j < 8 → is_present (keys c l) j ≡ true → key (keys c l) j ≡ k → ⊥
  has_not j h present at =
      let z : true ≡ false = sym (and_true (is_present (keys c l) j) (int_eq (key (keys c l) j) k) present (true_equal (key (keys c l) j) k at)) ∙ first_none (holds_key (keys c l) k) 8 absent j h in
      absurd (cc)

  changed_place : IsPlaceChanged leaves c e l i
  changed_place = record {
    widths = widths_after leaves c es v.widths;
    fits = fits_after es c ((tt, tt), (in_pairs_fit (at_place i (Put (pos 1)) (Put k)) 0 8 (at_place_fits i (Put (pos 1)) (Put k) one_fits fits_k), ((fits_w, tt), tt))) v.fits;
    ranges = same_directory;
    others = λ m b n. same_keys m n;
    stays = stays;
    bit = inr gets.0;
    fits_in = λ p. subst (λ (x : ℤ). covers (directory c) x x l ≡ true) (sym gets.1) (leaf_has leaves c v l k there).1;
    new = λ p j h n present at. has_not j h present (at ∙ gets.1);
  } where
    one_fits : FitsSigned w64 (pos 1)
    one_fits = search (arith, ints)

  pub new_shaped : IsShaped leaves e
  new_shaped = place_shaped leaves c e l i v changed_place

  is_there : is_present (keys e l) i ≡ true
  is_there = true_equal (word (keys e l) (2 * i)) (pos 1) gets.0

  live_there : is_live (directory c) l ≡ true
  live_there = (both_true (is_live (directory c) l) (int_le (low (directory c) l) k && int_le k (high (directory c) l)) (leaf_has leaves c v l k there).1).0

  at_new : value_at (tree_rows leaves e) k ≡ Some w
  at_new =
      let hit : holds_key (keys e l) k i ≡ true = and_true (is_present (keys e l) i) (int_eq (key (keys e l) i) k) is_there (true_equal (key (keys e l) i) k gets.1) in
      let leaf : leaf_of leaves (directory e) k ≡ Some l = ap (λ dir. leaf_of leaves dir k) same_directory ∙ there in
      let live : is_live (directory e) l ≡ true = ap (λ dir. is_live dir l) same_directory ∙ live_there in
      value_found leaves e l i k new_shaped leaf (place_is leaves e new_shaped l i k leaf_in live in_block hit) ∙ ap Some new_value

  holds_same : (q : ℤ) → (k ≡ q → ⊥) → (m j : ℕ) → m < leaves → j < 8 → holds_key (keys e m) q j ≡ holds_key (keys c m) q j
  holds_same q n m j bm h = elim (same_or_not m l) [
    | inr other ↦ ap (λ ks. holds_key ks q j) (same_keys m other)
    | inl at ↦ elim (same_or_not j i) [
      | inr moved ↦
          subst (λ (x : ℕ). holds_key (keys e x) q j ≡ holds_key (keys c x) q j) (sym at)
          (ap (λ x. int_eq x (pos 1) && int_eq (key (keys e l) j) q) (stays j h moved).0 ∙ ap (λ x. is_present (keys c l) j && int_eq x q) (stays j h moved).1)
      | inl here ↦
          let old : holds_key (keys c l) q i ≡ false = ap (λ x. x && int_eq (key (keys c l) i) q) free in
          let miss : int_eq (key (keys e l) i) q ≡ false = ap (λ x. int_eq x q) gets.1 ∙ not_equal_of k q n in
          let now : holds_key (keys e l) q i ≡ false = ap (λ x. x && int_eq (key (keys e l) i) q) is_there ∙ miss in
          subst (λ (x : ℕ). holds_key (keys e x) q j ≡ holds_key (keys c x) q j) (sym at) (subst (λ (y : ℕ). holds_key (keys e l) q y ≡ holds_key (keys c l) q y) (sym here) (now ∙ sym old))
    ]
  ]

  values_same : (q : ℤ) → (m j : ℕ) → m < leaves → j < 8 → holds_key (keys c m) q j ≡ true → value e m j ≡ value c m j
  values_same q m j bm h hit = elim (same_or_not m l) [
    | inr other ↦ same_values m j h (inl other)
    | inl at ↦ elim (same_or_not j i) [
      | inr moved ↦ same_values m j h (inr moved)
      | inl here ↦
          let was : is_present (keys c m) j ≡ true = (both_true (is_present (keys c m) j) (int_eq (key (keys c m) j) q) hit).0 in
          let was_here : is_present (keys c l) i ≡ true = subst (λ (y : ℕ). is_present (keys c l) y ≡ true) here (subst (λ (x : ℕ). is_present (keys c x) j ≡ true) at was) in
          let z : true ≡ false = sym was_here ∙ free in absurd (cc)
    ]
  ]

  pub new_rows : tree_rows leaves e ≡ with_row (tree_rows leaves c) k w
  new_rows =
      same_maps (tree_rows leaves e) (with_row (tree_rows leaves c) k w) (gathered_rises (tree_slot e) (8 * leaves)) (IsRising-with_row (tree_rows leaves c) k w (gathered_rises (tree_slot c) (8 * leaves)))
      (λ q. by_test (int_eq k q)
      (λ y. let at : k ≡ q = same_of k q y in subst (λ (x : ℤ). value_at (tree_rows leaves e) x ≡ value_at (with_row (tree_rows leaves c) k w) x) at (at_new ∙ sym (value_at-with_row_same (tree_rows leaves c) k w)))
      (λ y.
      let n : k ≡ q → ⊥ = λ z. let x : true ≡ false = sym (true_equal k q z) ∙ y in absurd (cc) in
      same_value leaves c e v new_shaped q same_directory (holds_same q n) (values_same q) ∙ sym (value_at-with_row_other (tree_rows leaves c) k w q n)))

  pub new_absent : value_at (tree_rows leaves c) k ≡ None
  new_absent = value_absent leaves c l k v there absent

  pub new_tree : IsTree leaves e
  new_tree =
      let more : count_present leaves e ≡ suc (count_present leaves c) = sym (count_is leaves e new_shaped) ∙ ap length new_rows ∙ length-with_row_new (tree_rows leaves c) k w new_absent ∙ ap suc (count_is leaves c v) in
      record {
        shaped = new_shaped;
        counted = new_size ∙ ap (λ x. wrapped_sum x (pos 1)) t.counted ∙ one_more (count_present leaves c) (omega (arith, room, few)) ∙ ap pos (sym more);
        bounded = omega (arith, more, room);
      }
