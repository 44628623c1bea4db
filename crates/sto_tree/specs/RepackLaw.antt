-- put k v into a full leaf, where all leaves are live
use Rattle.std.proofs.Common.{◌≡◌, ◌<◌, ◌≤◌, ◌⊎◌, ◌+◌, ◌*◌, ◌/◌, ◌%◌, ◌^◌, ℕ, zero, suc, ℤ, pos, Bool, true, false, ◌&&◌, int_le, Option, Some, None, List, [], ◌∷◌, ◌++◌, length, refl, sym, ◌∙◌, ap, subst, arith, inl, inr}
use Rattle.std.specs.Prelude.{if◌then◌else◌, nat_le}
use Rattle.std.specs.Int.{w64}
use Rattle.std.specs.Int.RustNames.{FitsSigned}
use Rattle.std.specs.Ordering.{int_eq}
use Rattle.sto_part.specs.Parts.{part_of}
use Rattle.sto_item.specs.declared.item.Item.{Item}
use Rattle.sto_item.specs.Pending.{Entry, AreUpdates}
use Rattle.sto_item.specs.Agreement.{Agrees, HasWidths}
use Rattle.sto_model.specs.declared.operation.Operation.TheVariants.{Put}
use Rattle.sto_model.specs.Calls.{call_of}
use Rattle.sto_model.specs.Objects.{effect, put_effect}
use Rattle.sto_model.specs.PlainReplies.{is_write, Done}
use Rattle.sto_model.specs.Rows.{Row, IsRising, value_at, with_row}
use Rattle.sto_model.proofs.RowFacts.{by_test, same_of, IsRising-with_row}
use Rattle.sto_model.proofs.Maps.{value_at-with_row_same, value_at-with_row_other}
use Rattle.sto_type.specs.Known.{Parts}
use Rattle.sto_type.specs.Meaning.{IsUpdated}
use Rattle.sto_tree.specs.SlotFacts.{gathered_rises, gathered_same, length-with_row_new}
use Rattle.sto_type.specs.Reading.{Reading, Say, read_each, items_at, updates_at, IsRead}
use Rattle.sto_tree.specs.Searches.{first_some}
use Rattle.sto_tree.specs.Layout.{listed, parts_of, word, is_live, is_present, key, directory, keys, value, size, leaf_of, holds_key, place_of, free_place, slot_of, slot_by, key_part, value_part, tree_slot, tree_rows, count_present}
use Rattle.sto_tree.specs.Said.{has_room}
use Rattle.sto_tree.specs.Between.{all_seen}
use Rattle.sto_tree.specs.Repack.{present_values_in, present_values, key_parts, leaves_for, ends, repack_items, rows_read, packed_updates, repack_reading}
use Rattle.sto_tree.specs.Put.{free_leaf, put_there, put_new, put_free, put_crowded, put_reading}
use Rattle.sto_tree.specs.Valid.{IsShaped, IsTree}
use Rattle.sto_tree.specs.Meaning.{tree_meaning}
use Rattle.sto_tree.specs.Tests.{both_true, equal_true, true_equal, fits_at, by_option}
use Rattle.sto_tree.specs.Lookup.{leaf_has, value_there, value_in, value_at_tree}
use Rattle.sto_tree.specs.Sized.{tree_length}
use Rattle.sto_type.specs.Observing.{EachRead}
use Rattle.sto_tree.specs.CallLaw.{IsCallLawful}
use Rattle.sto_tree.specs.Agreeing.{lt_agrees, agrees_lt, at_leaf_items, at_leaf_updates, at_leaf_within, at_leaf_reads, at_leaf_reads_directory}
use Rattle.sto_tree.specs.Insides.{AreInside, inside_append, inside_seen, in_size}
use Rattle.sto_tree.specs.Observing.{observation_by, value_absent}
use Rattle.sto_tree.specs.Updating.{count_is}
use Rattle.sto_tree.specs.PutLaw.{put_more, less_of, lt_of, not_le, full, model_full, items_new, updates_new, reads_new, reads_size}
use Rattle.sto_tree.specs.Members.{IsIn, agrees_append, agrees_split, seen_agrees, agrees_seen, read_append, read_seen}
use Rattle.sto_tree.specs.RowLists.{row_at, value_at_index}
use Rattle.sto_tree.specs.Threes.{words_on, words_on_part, words_on_same, items_read_each, updates_read_each, reads_of_each, reads_each}
use Rattle.sto_tree.specs.SplitLaw.{owned_by_widths}
use Rattle.sto_tree.specs.Packing.{packed_ordered, ends_fit, packed_widths, packed_rows, packed_tree}

in_front : (x : ℕ) (xs ys : List ℕ) → IsIn x xs → IsIn x (xs ++ ys)
in_front x [] ys h = absurd h
in_front x (y ∷ xs) ys h = elim h [ inl at ↦ inl at | inr later ↦ inr (in_front x xs ys later) ]

in_back : (x : ℕ) (xs ys : List ℕ) → IsIn x ys → IsIn x (xs ++ ys)
in_back x [] ys h = h
in_back x (y ∷ xs) ys h = inr (in_back x xs ys h)

in_either : (x : ℕ) (xs ys : List ℕ) → IsIn x (xs ++ ys) → IsIn x xs ⊎ IsIn x ys
in_either x [] ys h = inr h
in_either x (y ∷ xs) ys h = elim h [ inl at ↦ inl (inl at) | inr later ↦ elim (in_either x xs ys later) [ inl a ↦ inl (inr a) | inr a ↦ inr a ] ]

below_or_at : (j n : ℕ) → j < suc n → (j < n) ⊎ (j ≡ n)
below_or_at j n h = grind arith

-- the key parts of all leaves
pub key_listed : (i n l : ℕ) → l < n → IsIn (key_part (i + l)) (listed key_part i n)
key_listed i zero l h = absurd (omega (arith, h))
key_listed i (suc n) zero h = let g : i ≡ i + 0 = omega arith in inl (ap key_part g)
key_listed i (suc n) (suc l) h = let g : suc i + l ≡ i + suc l = omega arith in inr (subst (λ (x : ℕ). IsIn (key_part x) (listed key_part (suc i) n)) g (key_listed (suc i) n l (omega (arith, h))))

key_within : (leaves i n q : ℕ) → i + n ≤ leaves → IsIn q (listed key_part i n) → q < parts_of leaves
key_within leaves i zero q b h = absurd h
key_within leaves i (suc n) q b h = elim h [ inl at ↦ omega (arith, at, b) | inr later ↦ key_within leaves (suc i) n q (omega (arith, b)) later ]

-- the value parts of present places
one_listed : (b : Bool) (p q : ℕ) → IsIn q (if b then p ∷ [] else []) → p ≡ q
one_listed true p q h = elim h [ inl at ↦ at | inr bad ↦ absurd bad ]
one_listed false p q h = absurd h

value_listed_in : (l : ℕ) (ks : List ℤ) (n i : ℕ) → i < n → is_present ks i ≡ true → IsIn (value_part l i) (present_values_in l ks n)
value_listed_in l ks zero i h e = absurd (omega (arith, h))
value_listed_in l ks (suc n) i h e = elim (below_or_at i n h) [
  | inl g ↦ in_front (value_part l i) (present_values_in l ks n) (if is_present ks n then value_part l n ∷ [] else []) (value_listed_in l ks n i g e)
  | inr g ↦ in_back (value_part l i) (present_values_in l ks n) (if is_present ks n then value_part l n ∷ [] else []) (rw (ap (is_present ks) (sym g) ∙ e) (inl (ap (value_part l) (sym g))))
]

pub value_listed : (words : ℕ → List ℤ) (n l i : ℕ) → l < n → i < 8 → is_present (words (key_part l)) i ≡ true → IsIn (value_part l i) (present_values words n)
value_listed words zero l i h b e = absurd (omega (arith, h))
value_listed words (suc n) l i h b e = elim (below_or_at l n h) [
  | inl g ↦ in_front (value_part l i) (present_values words n) (present_values_in n (words (key_part n)) 8) (value_listed words n l i g b e)
  | inr g ↦ in_back (value_part l i) (present_values words n) (present_values_in n (words (key_part n)) 8)
      (subst (λ (x : ℕ). IsIn (value_part l i) (present_values_in x (words (key_part x)) 8)) g (value_listed_in l (words (key_part l)) 8 i b e))
]

value_within_in : (leaves l : ℕ) (ks : List ℤ) (n q : ℕ) → l < leaves → n ≤ 8 → IsIn q (present_values_in l ks n) → q < parts_of leaves
value_within_in leaves l ks zero q h b i = absurd i
value_within_in leaves l ks (suc n) q h b i = elim (in_either q (present_values_in l ks n) (if is_present ks n then value_part l n ∷ [] else []) i) [
  | inl front ↦ value_within_in leaves l ks n q h (omega (arith, b)) front
  | inr back ↦ omega (arith, one_listed (is_present ks n) (value_part l n) q back, h, b)
]

value_within : (leaves : ℕ) (words : ℕ → List ℤ) (n q : ℕ) → n ≤ leaves → IsIn q (present_values words n) → q < parts_of leaves
value_within leaves words zero q b i = absurd i
value_within leaves words (suc n) q b i = elim (in_either q (present_values words n) (present_values_in n (words (key_part n)) 8) i) [
  | inl front ↦ value_within leaves words n q (omega (arith, b)) front
  | inr back ↦ value_within_in leaves n (words (key_part n)) 8 q (omega (arith, b)) (omega arith) back
]

slot_same : (b : Bool) (k v w : ℤ) → (b ≡ true → v ≡ w) → slot_of b k v ≡ slot_of b k w
slot_same true k v w h = ap (λ x. Some (k, x)) (h refl)
slot_same false k v w h = refl

module _ (leaves : ℕ) (c : Parts) (t : IsTree leaves c) (few : parts_of leaves < 2 ^ 32) (k x : ℤ) (fits_k : FitsSigned w64 k) (fits_x : FitsSigned w64 x) (l : ℕ) (there : leaf_of leaves (directory c) k ≡ Some l)
    (none : place_of (keys c l) k ≡ None) (not_full : full leaves c t few k x fits_k fits_x l there c ≡ false) (no_place : free_place (keys c l) ≡ None) (no_leaf : free_leaf leaves (directory c) ≡ None) where
  v : IsShaped leaves c
  v = t.shaped

  abbrev dir : List ℤ
  dir = directory c

  abbrev words : ℕ → List ℤ
  words = words_on (key_parts leaves) c

  abbrev listed_values : List ℕ
  listed_values = present_values words leaves

  abbrev values : ℕ → List ℤ
  values = words_on listed_values c

  abbrev all : List Row
  all = with_row (rows_read leaves dir words values) k x

  abbrev r : Reading
  r = put_reading leaves k x

  leaf_in : l < leaves
  leaf_in = (leaf_has leaves c v l k there).0

  room : count_present leaves c < 4 * leaves
  room = less_of (4 * leaves) (count_present leaves c) (ap (int_le (pos (4 * leaves))) (sym t.counted) ∙ not_full)

  -- what was read is what the tree holds
  words_are : (j : ℕ) → j < leaves → words (key_part j) ≡ keys c j
  words_are j h =
      let g : 0 + j ≡ j = omega arith in
      words_on_part (key_parts leaves) c (key_part j) (subst (λ (y : ℕ). IsIn (key_part y) (key_parts leaves)) g (key_listed 0 leaves j h))

  pub rows_are : rows_read leaves dir words values ≡ tree_rows leaves c
  rows_are = gathered_same (slot_by dir (λ j. words (key_part j)) (λ j i. word (values (value_part j i)) 0)) (tree_slot c) (8 * leaves) (λ j h.
      let b : (j / 8) < leaves = omega (arith, h) in
      let p : (j % 8) < 8 = omega arith in
      let ks : words (key_part (j / 8)) ≡ keys c (j / 8) = words_are (j / 8) b in
      slot_same (is_live dir (j / 8) && is_present (words (key_part (j / 8))) (j % 8)) (key (words (key_part (j / 8))) (j % 8)) (word (values (value_part (j / 8) (j % 8))) 0) (value c (j / 8) (j % 8))
      (λ e. ap (λ ws. word ws 0) (words_on_part listed_values c (value_part (j / 8) (j % 8)) (value_listed words leaves (j / 8) (j % 8) b p (both_true (is_live dir (j / 8)) (is_present (words (key_part (j / 8))) (j % 8)) e).1)))
      ∙ ap (λ xs. slot_of (is_live dir (j / 8) && is_present xs (j % 8)) (key xs (j % 8)) (value c (j / 8) (j % 8))) ks)

  pub all_is : all ≡ with_row (tree_rows leaves c) k x
  all_is = ap (λ rows. with_row rows k x) rows_are

  old_rise : IsRising (tree_rows leaves c)
  old_rise = gathered_rises (tree_slot c) (8 * leaves)

  all_rise : IsRising all
  all_rise = subst IsRising (sym all_is) (IsRising-with_row (tree_rows leaves c) k x old_rise)

  all_length : length all ≡ suc (count_present leaves c)
  all_length = ap length all_is ∙ length-with_row_new (tree_rows leaves c) k x (value_absent leaves c l k v there none) ∙ ap suc (count_is leaves c v)

  -- each row fits
  old_fits : (q y : ℤ) → value_at (tree_rows leaves c) q ≡ Some y → FitsSigned w64 q × FitsSigned w64 y
  old_fits q y e =
      by_option (FitsSigned w64 q × FitsSigned w64 y) (leaf_of leaves dir q)
      (λ a. let z : Some y ≡ None = sym e ∙ value_at_tree leaves c v q ∙ ap (value_in c q) a in absurd (cc))
      (λ j a. by_option (FitsSigned w64 q × FitsSigned w64 y) (place_of (keys c j) q)
      (λ b. let z : Some y ≡ None = sym e ∙ value_at_tree leaves c v q ∙ ap (value_in c q) a ∙ ap (value_there (value c j)) b in absurd (cc))
      (λ i b.
      let g : (i < 8) × (holds_key (keys c j) q i ≡ true) = first_some (holds_key (keys c j) q) 8 i b in
      let at : key (keys c j) i ≡ q = equal_true (key (keys c j) i) q (both_true (is_present (keys c j) i) (int_eq (key (keys c j) i) q) g.1).1 in
      let val : Some y ≡ Some (value c j i) = sym e ∙ value_at_tree leaves c v q ∙ ap (value_in c q) a ∙ ap (value_there (value c j)) b in
      (subst (FitsSigned w64) at (fits_at c (key_part j) (2 * i + 1) v.fits), subst (FitsSigned w64) (sym (some_same y (value c j i) val)) (fits_at c (value_part j i) 0 v.fits))))
    where
      some_same : (a b : ℤ) → Some a ≡ Some b → a ≡ b
      some_same a b e = cc

  all_fit : (i : ℕ) → i < length all → FitsSigned w64 (row_at all i).0 × FitsSigned w64 (row_at all i).1
  all_fit i h =
      let q : ℤ = (row_at all i).0 in
      let found : value_at (with_row (tree_rows leaves c) k x) (row_at all i).0 ≡ Some (row_at all i).1 = ap (λ rows. value_at rows (row_at all i).0) (sym all_is) ∙ value_at_index all i all_rise h in
      by_test (int_eq k (row_at all i).0)
      (λ e.
      let at : k ≡ (row_at all i).0 = same_of k (row_at all i).0 e in
      let val : Some x ≡ Some (row_at all i).1 = sym (value_at-with_row_same (tree_rows leaves c) k x) ∙ ap (value_at (with_row (tree_rows leaves c) k x)) at ∙ found in
      (subst (FitsSigned w64) at fits_k, subst (FitsSigned w64) (some_same x (row_at all i).1 val) fits_x))
      (λ e. old_fits (row_at all i).0 (row_at all i).1 (sym (value_at-with_row_other (tree_rows leaves c) k x (row_at all i).0 (λ z. let y : true ≡ false = sym (true_equal k (row_at all i).0 z) ∙ e in absurd (cc))) ∙ found))
    where
      some_same : (a b : ℤ) → Some a ≡ Some b → a ≡ b
      some_same a b e = cc

  abbrev es : List Entry
  es = packed_updates leaves all

  all_some : 1 ≤ length all
  all_some = omega (arith, all_length)

  all_enough : length all ≤ 4 * leaves
  all_enough = omega (arith, all_length, room)

  pub all_ordered : AreUpdates es
  all_ordered = packed_ordered leaves c v.widths v.fits all all_rise all_some all_enough all_fit

  pub all_ends : (j : ℕ) → j < leaves_for (length all) → FitsSigned w64 (ends all j)
  all_ends = ends_fit leaves c v.widths v.fits all all_rise all_some all_enough all_fit

  -- what is read and said
  abbrev items : List Item
  items = repack_items leaves words

  abbrev further : (ℕ → List ℤ) → Reading
  further ws = read_each (present_values ws leaves) (λ us. Say (repack_items leaves ws) (packed_updates leaves (with_row (rows_read leaves dir ws us) k x)))

  said_items : (d : Parts) → free_place (keys d l) ≡ None → free_leaf leaves (directory d) ≡ None → items_at (put_new leaves k x (directory d) l (keys d l) false) d ≡ items_at (repack_reading leaves k x (directory d)) d
  said_items d a b = ap (λ o. items_at (put_free leaves k x (directory d) l (keys d l) o) d) a ∙ ap (λ o. items_at (put_crowded leaves k x (directory d) l (keys d l) o) d) b

  said_updates : (d : Parts) → free_place (keys d l) ≡ None → free_leaf leaves (directory d) ≡ None → updates_at (put_new leaves k x (directory d) l (keys d l) false) d ≡ updates_at (repack_reading leaves k x (directory d)) d
  said_updates d a b = ap (λ o. updates_at (put_free leaves k x (directory d) l (keys d l) o) d) a ∙ ap (λ o. updates_at (put_crowded leaves k x (directory d) l (keys d l) o) d) b

  updates_here : (d : Parts) → updates_at (repack_reading leaves k x (directory d)) d
      ≡ packed_updates leaves (with_row (rows_read leaves (directory d) (words_on (key_parts leaves) d) (words_on (present_values (words_on (key_parts leaves) d) leaves) d)) k x)
  updates_here d =
      updates_read_each (key_parts leaves) (λ ws. read_each (present_values ws leaves) (λ us. Say (repack_items leaves ws) (packed_updates leaves (with_row (rows_read leaves (directory d) ws us) k x)))) d
      ∙ updates_read_each (present_values (words_on (key_parts leaves) d) leaves) (λ us. Say (repack_items leaves (words_on (key_parts leaves) d)) (packed_updates leaves (with_row (rows_read leaves (directory d) (words_on (key_parts leaves) d) us) k x))) d

  all_items : items_at r c ≡ items
  all_items =
      at_leaf_items leaves c v k (λ d a xs. put_there leaves k x d a xs (place_of xs k)) l there ∙ items_new leaves c t few k x fits_k fits_x l there c none false not_full ∙ said_items c no_place no_leaf
      ∙ items_read_each (key_parts leaves) further c
      ∙ items_read_each listed_values (λ us. Say items (packed_updates leaves (with_row (rows_read leaves dir words us) k x))) c

  all_updates : updates_at r c ≡ es
  all_updates =
      at_leaf_updates leaves c v k (λ d a xs. put_there leaves k x d a xs (place_of xs k)) l there ∙ updates_new leaves c t few k x fits_k fits_x l there c none false not_full ∙ said_updates c no_place no_leaf ∙ updates_here c

  to_repack : (q : ℕ) → IsRead (put_new leaves k x dir l (keys c l) false) c q → IsRead (repack_reading leaves k x dir) c q
  to_repack q h = subst (λ (o : Option ℕ). IsRead (put_crowded leaves k x dir l (keys c l) o) c q) no_leaf (subst (λ (o : Option ℕ). IsRead (put_free leaves k x dir l (keys c l) o) c q) no_place h)

  from_repack : (q : ℕ) → IsRead (repack_reading leaves k x dir) c q → IsRead (put_new leaves k x dir l (keys c l) false) c q
  from_repack q h = subst (λ (o : Option ℕ). IsRead (put_free leaves k x dir l (keys c l) o) c q) (sym no_place) (subst (λ (o : Option ℕ). IsRead (put_crowded leaves k x dir l (keys c l) o) c q) (sym no_leaf) h)

  within : (q : ℕ) → IsRead r c q → q < parts_of leaves
  within = at_leaf_within leaves c v k (λ d a xs. put_there leaves k x d a xs (place_of xs k)) l there (λ q h.
      elim (reads_new leaves c t few k x fits_k fits_x l there none false not_full q h) [
        | inl at ↦ omega (arith, at)
        | inr later ↦ elim (reads_of_each (key_parts leaves) further c q (to_repack q later)) [
          | inl a_key ↦ key_within leaves 0 leaves q (omega arith) a_key
          | inr last ↦ elim (reads_of_each listed_values (λ us. Say items (packed_updates leaves (with_row (rows_read leaves dir words us) k x))) c q last) [
            | inl a_value ↦ value_within leaves words leaves q (omega arith) a_value
            | inr bad ↦ absurd bad
          ]
        ]
      ])

  reads_repack : (q : ℕ) → IsRead (repack_reading leaves k x dir) c q → IsRead r c q
  reads_repack q h =
      at_leaf_reads leaves c v k (λ d a xs. put_there leaves k x d a xs (place_of xs k)) l there q
      (subst (λ (o : Option ℕ). IsRead (put_there leaves k x dir l (keys c l) o) c q) (sym none) (inr (subst (λ (b : Bool). IsRead (put_new leaves k x dir l (keys c l) b) c q) (sym not_full) (from_repack q h))))

  reads_key : (q : ℕ) → IsIn q (key_parts leaves) → IsRead r c q
  reads_key q h = reads_repack q (reads_each (key_parts leaves) further c q (inl h))

  reads_value : (q : ℕ) → IsIn q listed_values → IsRead r c q
  reads_value q h = reads_repack q (reads_each (key_parts leaves) further c q (inr (reads_each listed_values (λ us. Say items (packed_updates leaves (with_row (rows_read leaves dir words us) k x))) c q (inl h))))

  observed : EachRead r c items
  observed = (
    at_leaf_reads_directory leaves c v k (λ d a xs. put_there leaves k x d a xs (place_of xs k)) l there,
    read_append r c (all_seen (key_parts leaves)) (all_seen listed_values ++ has_room leaves ∷ []) (read_seen r c (key_parts leaves) reads_key)
        (read_append r c (all_seen listed_values) (has_room leaves ∷ []) (read_seen r c listed_values reads_value) (reads_size leaves c t few k x fits_k fits_x l there none, tt)),
  )

  holds : Agrees c items c
  holds = (
    refl,
    agrees_append c c (all_seen (key_parts leaves)) (all_seen listed_values ++ has_room leaves ∷ []) (agrees_seen c (key_parts leaves))
        (agrees_append c c (all_seen listed_values) (has_room leaves ∷ []) (agrees_seen c listed_values) (agrees_lt c c 0 0 (pos (4 * leaves)) [] v.fits (lt_of (pos (4 * leaves)) (size c) not_full) tt)),
  )

  done : (d : Parts) → IsTree leaves d → full leaves c t few k x fits_k fits_x l there d ≡ false → put_effect (nat_le (4 * leaves) (length (tree_rows leaves d))) k x (tree_rows leaves d) ≡ effect Done (with_row (tree_rows leaves d) k x)
  done d td h = model_full leaves c t few k x fits_k fits_x l there d td false h ∙ put_more (tree_rows leaves d) k x

  -- what contents that agree have
  pub record IsAgreed (d : Parts) : Type 0 where
    pub directory_same : directory d ≡ dir
    pub keys_same : (q : ℕ) → IsIn q (key_parts leaves) → part_of d q ≡ part_of c q
    pub values_same : (q : ℕ) → IsIn q listed_values → part_of d q ≡ part_of c q
    pub full_same : full leaves c t few k x fits_k fits_x l there d ≡ false

  agreed : (d : Parts) → IsTree leaves d → Agrees d items c → IsAgreed d
  agreed d td h =
      let a : Agrees d (all_seen (key_parts leaves)) c × Agrees d (all_seen listed_values ++ has_room leaves ∷ []) c = agrees_split d c (all_seen (key_parts leaves)) (all_seen listed_values ++ has_room leaves ∷ []) h.1 in
      let b : Agrees d (all_seen listed_values) c × Agrees d (has_room leaves ∷ []) c = agrees_split d c (all_seen listed_values) (has_room leaves ∷ []) a.1 in
      record {
        directory_same = h.0;
        keys_same = seen_agrees d c (key_parts leaves) a.0;
        values_same = seen_agrees d c listed_values b.0;
        full_same = not_le (pos (4 * leaves)) (size d) (lt_agrees d c 0 0 (pos (4 * leaves)) [] td.shaped.fits b.1).0;
      }

  same_updates : (d : Parts) → IsTree leaves d → IsAgreed d → updates_at r d ≡ es
  same_updates d td g =
      let z : 0 + l ≡ l = omega arith in
      let ks : keys d l ≡ keys c l = g.keys_same (key_part l) (subst (λ (y : ℕ). IsIn (key_part y) (key_parts leaves)) z (key_listed 0 leaves l leaf_in)) in
      let leaf : leaf_of leaves (directory d) k ≡ Some l = ap (λ xs. leaf_of leaves xs k) g.directory_same ∙ there in
      let absent : place_of (keys d l) k ≡ None = ap (λ xs. place_of xs k) ks ∙ none in
      let crowded : free_place (keys d l) ≡ None = ap free_place ks ∙ no_place in
      let all_live : free_leaf leaves (directory d) ≡ None = ap (free_leaf leaves) g.directory_same ∙ no_leaf in
      let first : words_on (key_parts leaves) d ≡ words = words_on_same (key_parts leaves) c d g.keys_same in
      let second : words_on listed_values d ≡ values = words_on_same listed_values c d g.values_same in
      at_leaf_updates leaves d td.shaped k (λ a b xs. put_there leaves k x a b xs (place_of xs k)) l leaf
      ∙ updates_new leaves c t few k x fits_k fits_x l there d absent false g.full_same ∙ said_updates d crowded all_live ∙ updates_here d
      ∙ ap (λ xs. packed_updates leaves (with_row (rows_read leaves xs (words_on (key_parts leaves) d) (words_on (present_values (words_on (key_parts leaves) d) leaves) d)) k x)) g.directory_same
      ∙ ap (λ ws. packed_updates leaves (with_row (rows_read leaves dir ws (words_on (present_values ws leaves) d)) k x)) first
      ∙ ap (λ us. packed_updates leaves (with_row (rows_read leaves dir words us) k x)) second

  inside : AreInside leaves items
  inside = inside_append leaves (all_seen (key_parts leaves)) (all_seen listed_values ++ has_room leaves ∷ []) (inside_seen leaves (key_parts leaves)) (inside_append leaves (all_seen listed_values) (has_room leaves ∷ []) (inside_seen leaves listed_values) (in_size leaves, tt))

  pub repack_lawful : IsCallLawful leaves (call_of 0 Put k x) c
  repack_lawful =
      let widths : HasWidths es c = packed_widths leaves c v.widths v.fits all all_rise all_some all_enough all_fit in
      record {
        observation =
            observation_by leaves (call_of 0 Put k x) r c items es all_items all_updates within observed inside holds
            (λ d td h.
            let g : IsAgreed d = agreed d td h in
            (ap (λ y. y.reply) (done d td g.full_same) ∙ sym (ap (λ y. y.reply) (done c t not_full)), same_updates d td g));
        updated = subst (λ y. IsUpdated (tree_meaning leaves) (call_of 0 Put k x) c y) (sym all_updates)
            (record {
              ordered = all_ordered;
              owned = owned_by_widths leaves es c (tree_length leaves c v.widths) widths;
              widths = widths;
              valid = packed_tree leaves c v.widths v.fits all all_rise all_some all_enough all_fit (count_present leaves c) all_length t.counted (omega (arith, room, few));
              rows = ap (λ y. y ∷ []) (packed_rows leaves c v.widths v.fits all all_rise all_some all_enough all_fit ∙ all_is) ∙ ap (λ y. y.after ∷ []) (sym (done c t not_full));
              writes = ap (λ y. is_write Put y.reply) (done c t not_full);
            });
      }
