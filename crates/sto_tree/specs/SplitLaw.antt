-- put k v into a full leaf, where some leaf is not live
use Rattle.std.proofs.Common.{◌≡◌, ◌<◌, ◌≤◌, ◌⊎◌, ◌≤ℤ◌, ◌<ℤ◌, ◌+◌, ◌*◌, ◌-◌, ◌^◌, ℕ, zero, suc, ℤ, pos, Bool, true, false, int_le, int_lt, nat_lt, nat_eq, Option, Some, None, List, [], ◌∷◌, ◌++◌, length, refl, sym, ◌∙◌, ap, subst, arith, inl, inr}
use Rattle.std.specs.Prelude.{not, if◌then◌else◌, unwrap_or, nat_le, ◌-ℤ◌}
use Rattle.std.specs.List.{list_all}
use Rattle.std.specs.Int.{w64}
use Rattle.std.specs.Int.RustNames.{FitsSigned}
use Rattle.std.specs.Ordering.{int_eq}
use Rattle.std.proofs.lemmas.Int.{ints}
use Rattle.std.proofs.lemmas.Bool.Decides.{nat_tests}
use Rattle.sto_part.specs.Parts.{part_of}
use Rattle.sto_part.specs.declared.change.Change.{Change}
use Rattle.sto_part.specs.declared.change.Change.TheVariants.{Keep, Put as PutWord}
use Rattle.sto_part.specs.declared.pred.Test.TheVariants.{Eq, Le}
use Rattle.sto_item.specs.declared.item.Item.{Item}
use Rattle.sto_item.specs.declared.item.Item.TheVariants.{Seen}
use Rattle.sto_item.specs.Pending.{Entry, AreUpdates, EachChanges, applied_updates, with_update, with_updates, inserted, is_keep}
use Rattle.sto_item.specs.Agreement.{Agrees, HasWidths}
use Rattle.sto_item.proofs.Widths.{AreUpdates-with_updates, HasWidths-below, HasWidths-with_updates, applied_updates-with_updates}
use Rattle.sto_model.specs.declared.operation.Operation.TheVariants.{Put}
use Rattle.sto_model.specs.Calls.{call_of}
use Rattle.sto_model.specs.Objects.{effect, put_effect}
use Rattle.sto_model.specs.PlainReplies.{is_write, Done}
use Rattle.sto_model.specs.Rows.{Row, value_at, with_row}
use Rattle.sto_model.proofs.RowFacts.{by_test}
use Rattle.sto_type.specs.Known.{Parts}
use Rattle.sto_type.specs.Meaning.{IsUpdated, EachOwned, is_empty}
use Rattle.sto_type.specs.Reading.{Reading, Say, items_at, updates_at, IsRead}
use Rattle.sto_tree.specs.Search.{first_below}
use Rattle.sto_tree.specs.Searches.{first_some, first_none, first_least, first_found}
use Rattle.sto_tree.specs.Layout.{listed, parts_of, word, is_live, low, high, is_present, key, directory, keys, value, size, covers, leaf_of, place_of, free_place, key_part, value_part, tree_rows, count_present}
use Rattle.sto_tree.specs.Said.{compared, has_room, key_changes, new_row}
use Rattle.sto_tree.specs.Between.{all_seen}
use Rattle.sto_tree.specs.Split.{in_threes, middle, moves, moved_values, upper_rows, split_ranges, split_lower, split_upper, upper_values, move_updates, split_place, split_items, split_updates, split_reading}
use Rattle.sto_tree.specs.Put.{free_leaf, put_there, put_new, put_free, put_crowded, put_reading}
use Rattle.sto_tree.specs.Valid.{IsShaped, IsTree}
use Rattle.sto_tree.specs.Meaning.{tree_meaning}
use Rattle.sto_tree.specs.Tests.{equal_true, true_equal, true_le, by_option}
use Rattle.sto_tree.specs.Lookup.{leaf_has, leaf_is, value_there, value_in, value_at_tree}
use Rattle.sto_tree.specs.Sized.{tree_length, in_pairs_first}
use Rattle.sto_type.specs.Observing.{EachRead}
use Rattle.sto_tree.specs.CallLaw.{IsCallLawful}
use Rattle.sto_tree.specs.Agreeing.{eq_agrees, le_agrees, lt_agrees, agrees_eq, agrees_le, agrees_lt, at_leaf_items, at_leaf_updates, at_leaf_within, at_leaf_reads, at_leaf_reads_directory, at_leaf_reads_keys}
use Rattle.sto_tree.specs.Insides.{AreInside, inside_append, in_directory, inside_seen, in_size}
use Rattle.sto_tree.specs.Observing.{observation_by, value_absent}
use Rattle.sto_tree.specs.Updating.{owned_at, count_is, new_widths, new_rows, new_tree}
use Rattle.sto_tree.specs.PutLaw.{put_more, less_of, lt_of, not_le, not_true, full, model_full, items_new, updates_new, reads_new, reads_size}
use Rattle.sto_tree.specs.LeavesBetween.{HasRange, covers_has, has_covers}
use Rattle.sto_tree.specs.Members.{IsIn, agrees_append, agrees_split, seen_agrees, agrees_seen, read_append, read_seen}
use Rattle.sto_tree.specs.Threes.{in_threes_at, some_change, words_on, words_on_same, items_read_each, updates_read_each, reads_of_each, reads_each}
use Rattle.sto_tree.specs.SplitMove.{IsCrowded, move_widths, rising, l_below_m, lower_gone, lower_moves, upper_free, higher_used, ranges_l, row_place, moves_is, s_is, l_covers, m_covers, moved_rows, moved_tree}

-- the lowest that passes
pub first_exact : (test : ℕ → Bool) (n m : ℕ) → m < n → test m ≡ true → ((j : ℕ) → j < m → test j ≡ false) → first_below test n ≡ Some m
first_exact test n m h e all =
    let f : (i : ℕ) × (first_below test n ≡ Some i) = first_found test n m h e in
    let g : (f.0 < n) × (test f.0 ≡ true) = first_some test n f.0 f.1 in
    elim (order f.0 m) [
      | inl same ↦ f.1 ∙ ap Some same
      | inr (inl a) ↦ let z : true ≡ false = sym g.1 ∙ all f.0 a in absurd (cc)
      | inr (inr a) ↦ let z : true ≡ false = sym e ∙ first_least test n f.0 f.1 m a in absurd (cc)
    ]
  where
    order : (i j : ℕ) → (i ≡ j) ⊎ ((i < j) ⊎ (j < i))
    order i j = grind arith

-- updates that fit are of parts of the object
pub owned_by_widths : (leaves : ℕ) (es : List Entry) (c : Parts) → length c ≡ parts_of leaves → HasWidths es c → EachOwned (listed (λ (q : ℕ). (0, q)) 0 (parts_of leaves)) 0 es
owned_by_widths leaves [] c h w = tt
owned_by_widths leaves (e ∷ es) c h w = (owned_at leaves e.0 (omega (arith, w.0, h)), owned_by_widths leaves es c h w.2)

-- more updates are not none
with_update_some : (es : List Entry) (p : ℕ) (u : List Change) → is_empty es ≡ false → is_empty (with_update es p u) ≡ false
with_update_some [] p u e = cc
with_update_some (e ∷ es) p u h = by_test (list_all is_keep u) (λ a. rw a refl) (λ a. rw a (inserted_some e es p u)) where
  inserted_some : (e : Entry) (es : List Entry) (p : ℕ) (u : List Change) → is_empty (inserted (e ∷ es) p u) ≡ false
  inserted_some e es p u = by_test (nat_lt e.0 p) (λ a. rw a refl) (λ a. by_test (nat_eq e.0 p) (λ b. rw (a, b) refl) (λ b. rw (a, b) refl))

with_updates_some : (es us : List Entry) → is_empty es ≡ false → is_empty (with_updates es us) ≡ false
with_updates_some es [] h = h
with_updates_some es (u ∷ us) h = with_updates_some (with_update es u.0 u.1) us (with_update_some es u.0 u.1 h)

-- the value parts that move are in range
moved_within : (leaves l : ℕ) (ks : List ℤ) (n q : ℕ) → l < leaves → n ≤ 8 → IsIn q (moved_values l ks n) → q < parts_of leaves
moved_within leaves l ks zero q h b i = absurd i
moved_within leaves l ks (suc n) q h b i = elim (apart q (moved_values l ks n) (if moves ks n then value_part l n ∷ [] else []) i) [
  | inl front ↦ moved_within leaves l ks n q h (omega (arith, b)) front
  | inr back ↦ omega (arith, one (moves ks n) back, h, b)
] where
  apart : (x : ℕ) (xs ys : List ℕ) → IsIn x (xs ++ ys) → IsIn x xs ⊎ IsIn x ys
  apart x [] ys h = inr h
  apart x (y ∷ xs) ys h = elim h [ inl at ↦ inl (inl at) | inr later ↦ elim (apart x xs ys later) [ inl a ↦ inl (inr a) | inr a ↦ inr a ] ]

  one : (b : Bool) → IsIn q (if b then value_part l n ∷ [] else []) → value_part l n ≡ q
  one true h = elim h [ inl at ↦ at | inr bad ↦ absurd bad ]
  one false h = absurd h

-- the updates of a split, by where leaf l ended
split_by : (leaves : ℕ) (k w : ℤ) (l : ℕ) (ks : List ℤ) (m : ℕ) (upper : List Row) (d e : List ℤ) → high d l ≡ high e l → split_updates leaves k w d l ks m upper ≡ split_updates leaves k w e l ks m upper
split_by leaves k w l ks m upper d e h =
    let ranges : split_ranges leaves d l ks m ≡ split_ranges leaves e l ks m =
    λ i j. if nat_eq j l then (Keep, Keep, PutWord (middle ks -ℤ pos 1)) else if nat_eq j m then (PutWord (pos 1), PutWord (middle ks), PutWord (h i)) else (Keep, Keep, Keep) in
    ap (λ (f : ℕ → Change × Change × Change). with_updates ((1, in_threes f 0 leaves) ∷ (key_part l, key_changes (split_lower leaves e l ks m)) ∷ (key_part m, key_changes (split_upper leaves e l ks m upper)) ∷ upper_values leaves e l ks m 0 upper) (new_row (split_place k l ks m).0 (split_place k l ks m).1 k w)) ranges

-- a key that the rows do not have stands at no place of its leaf
absent_from : (leaves : ℕ) (e : Parts) (a : ℕ) (k : ℤ) → IsShaped leaves e → leaf_of leaves (directory e) k ≡ Some a → value_at (tree_rows leaves e) k ≡ None → place_of (keys e a) k ≡ None
absent_from leaves e a k v leaf none =
    by_option (place_of (keys e a) k ≡ None) (place_of (keys e a) k) (λ h. h)
    (λ i some. let z : None ≡ Some (value e a i) = sym none ∙ value_at_tree leaves e v k ∙ ap (value_in e k) leaf ∙ ap (value_there (value e a)) some in absurd (cc))

module _ (leaves : ℕ) (c : Parts) (t : IsTree leaves c) (few : parts_of leaves < 2 ^ 32) (k x : ℤ) (fits_k : FitsSigned w64 k) (fits_x : FitsSigned w64 x) (l : ℕ) (there : leaf_of leaves (directory c) k ≡ Some l)
    (none : place_of (keys c l) k ≡ None) (not_full : full leaves c t few k x fits_k fits_x l there c ≡ false) (no_place : free_place (keys c l) ≡ None) (m : ℕ) (free : free_leaf leaves (directory c) ≡ Some m) where
  v : IsShaped leaves c
  v = t.shaped

  abbrev dir : List ℤ
  dir = directory c

  abbrev ks : List ℤ
  ks = keys c l

  abbrev moved : List ℕ
  moved = moved_values l ks 8

  abbrev upper : List Row
  upper = upper_rows l ks (words_on moved c)

  abbrev r : Reading
  r = put_reading leaves k x

  leaf_in : l < leaves
  leaf_in = (leaf_has leaves c v l k there).0

  k_range : HasRange dir k k l
  k_range = covers_has dir k k l (leaf_has leaves c v l k there).1

  free_has : (m < leaves) × (not (is_live dir m) ≡ true)
  free_has = first_some (λ j. not (is_live dir j)) leaves m free

  not_false : (b : Bool) → not b ≡ false → b ≡ true
  not_false true h = refl
  not_false false h = cc

  pub w : IsCrowded leaves c l m
  w = record {
    leaf_in = leaf_in;
    live = k_range.live;
    crowd = λ i h. not_false (is_present ks i) (first_none (λ j. not (is_present ks j)) 8 no_place i h);
    other_in = free_has.0;
    dead = not_true (is_live dir m) free_has.1;
    below = λ j h. not_false (is_live dir j) (first_least (λ i. not (is_live dir i)) leaves m free j h);
  }

  room : count_present leaves c < 4 * leaves
  room = less_of (4 * leaves) (count_present leaves c) (ap (int_le (pos (4 * leaves))) (sym t.counted) ∙ not_full)

  -- after the move
  abbrev move : List Entry
  move = move_updates leaves dir l ks m upper

  abbrev e : Parts
  e = applied_updates move c

  moved_to : IsTree leaves e
  moved_to = moved_tree leaves c t l m w

  absent_now : value_at (tree_rows leaves e) k ≡ None
  absent_now = ap (λ rows. value_at rows k) (moved_rows leaves c t l m w) ∙ value_absent leaves c l k v there none

  -- where the new row goes
  abbrev leaf : ℕ
  leaf = (split_place k l ks m).0

  abbrev place : ℕ
  place = (split_place k l ks m).1

  pub record IsTarget (a i : ℕ) : Type 0 where
    pub leaf_is_there : leaf_of leaves (directory e) k ≡ Some a
    pub in_block : i < 8
    pub unused : is_present (keys e a) i ≡ false

  k_covered : covers dir k k l ≡ true
  k_covered = (leaf_has leaves c v l k there).1

  target_low : k <ℤ middle ks → IsTarget l (unwrap_or (first_below (moves ks) 8) 0)
  target_low lt =
      let p : (j : ℕ) × (j < 8) × (key ks j ≡ _) × (place_of ks _ ≡ Some j) = row_place leaves c t l m w 4 (omega arith) in
      let moving : moves ks p.0 ≡ true = moves_is leaves c t l m w p.0 p.1 ∙ true_le (middle ks) (key ks p.0) (subst (λ (y : ℤ). middle ks ≤ℤ y) (s_is leaves c t l m w ∙ sym p.2) (le_refl (middle ks))) in
      let f : (i : ℕ) × (first_below (moves ks) 8 ≡ Some i) = first_found (moves ks) 8 p.0 p.1 moving in
      let g : (f.0 < 8) × (moves ks f.0 ≡ true) = first_some (moves ks) 8 f.0 f.1 in
      subst (λ (o : Option ℕ). IsTarget l (unwrap_or o 0)) (sym f.1) (record {
        leaf_is_there = leaf_is leaves e moved_to.shaped l k leaf_in (l_covers leaves c t l m w k k_covered lt);
        in_block = g.0;
        unused = lower_gone leaves c t l m w f.0 g.0 g.1;
      })
    where
      le_refl : (y : ℤ) → y ≤ℤ y
      le_refl y = grind (arith, ints)

  target_high : middle ks ≤ℤ k → IsTarget m 4
  target_high le = record {
    leaf_is_there = leaf_is leaves e moved_to.shaped m k w.other_in (m_covers leaves c t l m w k k_covered le);
    in_block = omega arith;
    unused = upper_free leaves c t l m w 4 (omega arith) (omega arith);
  }

  pub target : IsTarget leaf place
  target = by_test (int_lt k (middle ks))
      (λ h. subst (λ (q : ℕ × ℕ). IsTarget q.0 q.1) (sym (place_low h)) (target_low (lt_true k (middle ks) h)))
      (λ h. subst (λ (q : ℕ × ℕ). IsTarget q.0 q.1) (sym (place_high h)) (target_high (lt_false k (middle ks) h)))
    where
      place_low : int_lt k (middle (keys c l)) ≡ true → split_place k l (keys c l) m ≡ (l, unwrap_or (first_below (moves (keys c l)) 8) 0)
      place_low h = rw h refl

      place_high : int_lt k (middle (keys c l)) ≡ false → split_place k l (keys c l) m ≡ (m, 4)
      place_high h = rw h refl

      lt_true : (y z : ℤ) → int_lt y z ≡ true → y <ℤ z
      lt_true y z h = grind (arith, ints)

      lt_false : (y z : ℤ) → int_lt y z ≡ false → z ≤ℤ y
      lt_false y z h = grind (arith, ints)

  gone : place_of (keys e leaf) k ≡ None
  gone = absent_from leaves e leaf k moved_to.shaped target.leaf_is_there absent_now

  same_count : count_present leaves e ≡ count_present leaves c
  same_count = sym (count_is leaves e moved_to.shaped) ∙ ap length (moved_rows leaves c t l m w) ∙ count_is leaves c v

  room_now : count_present leaves e < 4 * leaves
  room_now = omega (arith, same_count, room)

  abbrev more : List Entry
  more = new_row leaf place k x

  abbrev es : List Entry
  es = split_updates leaves k x dir l ks m upper

  pub more_widths : HasWidths more c
  more_widths = HasWidths-below move more c (new_widths leaves e moved_to few k x leaf place fits_k fits_x target.leaf_is_there gone target.in_block target.unused room_now)

  -- each update of the move changes a word
  values_change : (i : ℕ) (rs : List Row) → EachChanges (upper_values leaves dir l ks m i rs)
  values_change i [] = tt
  values_change i (q ∷ rs) = (refl, values_change (suc i) rs)

  move_changes : EachChanges move
  move_changes =
      let range : is_keep (split_ranges leaves dir l ks m (0 + l)).2 ≡ false = let g : 0 + l ≡ l = omega arith in ap (λ (j : ℕ). is_keep (split_ranges leaves dir l ks m j).2) g ∙ ap (λ (u : Change × Change × Change). is_keep u.2) (ranges_l leaves c t l m w) in
      let p : (j : ℕ) × (j < 8) × (key ks j ≡ _) × (place_of ks _ ≡ Some j) = row_place leaves c t l m w 4 (omega arith) in
      let moving : moves ks p.0 ≡ true = moves_is leaves c t l m w p.0 p.1 ∙ true_le (middle ks) (key ks p.0) (subst (λ (y : ℤ). middle ks ≤ℤ y) (s_is leaves c t l m w ∙ sym p.2) (le_refl (middle ks))) in
      let lower : is_keep (split_lower leaves dir l ks m (0 + p.0)).0 ≡ false = let g : 0 + p.0 ≡ p.0 = omega arith in ap (λ (j : ℕ). is_keep (split_lower leaves dir l ks m j).0) g ∙ ap (λ (u : Change × Change). is_keep u.0) (lower_moves leaves c t l m w p.0 moving) in
      let higher : is_keep (split_upper leaves dir l ks m upper (0 + 0)).0 ≡ false = ap (λ (u : Change × Change). is_keep u.0) (higher_used leaves c t l m w 0 (omega arith)) in (
        some_change (in_threes (split_ranges leaves dir l ks m) 0 leaves) (3 * l + 2) (ap is_keep (in_threes_at (split_ranges leaves dir l ks m) 0 leaves l leaf_in).2 ∙ range),
        (
          some_change (key_changes (split_lower leaves dir l ks m)) (2 * p.0) (ap is_keep (in_pairs_first (split_lower leaves dir l ks m) 0 8 p.0 p.1) ∙ lower),
          (
            some_change (key_changes (split_upper leaves dir l ks m upper)) (2 * 0) (ap is_keep (in_pairs_first (split_upper leaves dir l ks m upper) 0 8 0 (omega arith)) ∙ higher),
            values_change 0 upper,
          ),
        ),
      )
    where
      le_refl : (y : ℤ) → y ≤ℤ y
      le_refl y = grind (arith, ints)

  pub move_ordered : AreUpdates move
  move_ordered = (rising leaves c t l m w, move_changes)

  together : applied_updates es c ≡ applied_updates more e
  together = applied_updates-with_updates move more c (move_widths leaves c t l m w) more_widths move_ordered

  pub split_widths : HasWidths es c
  split_widths = HasWidths-with_updates move more c (move_widths leaves c t l m w) more_widths

  pub split_ordered : AreUpdates es
  split_ordered = AreUpdates-with_updates move more c (move_widths leaves c t l m w) more_widths move_ordered

  pub split_tree : IsTree leaves (applied_updates es c)
  split_tree = subst (IsTree leaves) (sym together) (new_tree leaves e moved_to few k x leaf place fits_k fits_x target.leaf_is_there gone target.in_block target.unused room_now)

  pub split_rows : tree_rows leaves (applied_updates es c) ≡ with_row (tree_rows leaves c) k x
  split_rows =
      ap (tree_rows leaves) together ∙ new_rows leaves e moved_to few k x leaf place fits_k fits_x target.leaf_is_there gone target.in_block target.unused room_now
      ∙ ap (λ rows. with_row rows k x) (moved_rows leaves c t l m w)

  -- what is read and said
  abbrev split : Reading
  split = split_reading leaves k x dir l ks m

  abbrev items : List Item
  items = split_items leaves k x dir l ks m

  said_items : (d : Parts) → free_place (keys d l) ≡ None → free_leaf leaves (directory d) ≡ Some m → items_at (put_new leaves k x (directory d) l (keys d l) false) d ≡ items_at (split_reading leaves k x (directory d) l (keys d l) m) d
  said_items d a b = ap (λ o. items_at (put_free leaves k x (directory d) l (keys d l) o) d) a ∙ ap (λ o. items_at (put_crowded leaves k x (directory d) l (keys d l) o) d) b

  said_updates : (d : Parts) → free_place (keys d l) ≡ None → free_leaf leaves (directory d) ≡ Some m → updates_at (put_new leaves k x (directory d) l (keys d l) false) d ≡ updates_at (split_reading leaves k x (directory d) l (keys d l) m) d
  said_updates d a b = ap (λ o. updates_at (put_free leaves k x (directory d) l (keys d l) o) d) a ∙ ap (λ o. updates_at (put_crowded leaves k x (directory d) l (keys d l) o) d) b

  updates_here : (d : Parts) → updates_at (split_reading leaves k x (directory d) l (keys d l) m) d ≡ split_updates leaves k x (directory d) l (keys d l) m (upper_rows l (keys d l) (words_on (moved_values l (keys d l) 8) d))
  updates_here d = updates_read_each (moved_values l (keys d l) 8) (λ words. Say (split_items leaves k x (directory d) l (keys d l) m) (split_updates leaves k x (directory d) l (keys d l) m (upper_rows l (keys d l) words))) d

  f : List ℤ → ℕ → List ℤ → Reading
  f d a xs = put_there leaves k x d a xs (place_of xs k)

  all_items : items_at r c ≡ items
  all_items =
      at_leaf_items leaves c v k (λ d a xs. put_there leaves k x d a xs (place_of xs k)) l there ∙ items_new leaves c t few k x fits_k fits_x l there c none false not_full ∙ said_items c no_place free
      ∙ items_read_each moved (λ words. Say items (split_updates leaves k x dir l ks m (upper_rows l ks words))) c

  all_updates : updates_at r c ≡ es
  all_updates =
      at_leaf_updates leaves c v k (λ d a xs. put_there leaves k x d a xs (place_of xs k)) l there ∙ updates_new leaves c t few k x fits_k fits_x l there c none false not_full ∙ said_updates c no_place free ∙ updates_here c

  to_split : (q : ℕ) → IsRead (put_new leaves k x dir l ks false) c q → IsRead split c q
  to_split q h = subst (λ (o : Option ℕ). IsRead (put_crowded leaves k x dir l ks o) c q) free (subst (λ (o : Option ℕ). IsRead (put_free leaves k x dir l ks o) c q) no_place h)

  from_split : (q : ℕ) → IsRead split c q → IsRead (put_new leaves k x dir l ks false) c q
  from_split q h = subst (λ (o : Option ℕ). IsRead (put_free leaves k x dir l ks o) c q) (sym no_place) (subst (λ (o : Option ℕ). IsRead (put_crowded leaves k x dir l ks o) c q) (sym free) h)

  within : (q : ℕ) → IsRead r c q → q < parts_of leaves
  within = at_leaf_within leaves c v k (λ d a xs. put_there leaves k x d a xs (place_of xs k)) l there (λ q h.
      elim (reads_new leaves c t few k x fits_k fits_x l there none false not_full q h) [
        | inl at ↦ omega (arith, at)
        | inr later ↦ elim (reads_of_each moved (λ words. Say items (split_updates leaves k x dir l ks m (upper_rows l ks words))) c q (to_split q later)) [
          | inl listed_one ↦ moved_within leaves l ks 8 q leaf_in (omega arith) listed_one
          | inr bad ↦ absurd bad
        ]
      ])

  reads_moved : (q : ℕ) → IsIn q moved → IsRead r c q
  reads_moved q h =
      let inner : IsRead (put_new leaves k x dir l ks false) c q = from_split q (reads_each moved (λ words. Say items (split_updates leaves k x dir l ks m (upper_rows l ks words))) c q (inl h)) in
      at_leaf_reads leaves c v k (λ d a xs. put_there leaves k x d a xs (place_of xs k)) l there q
      (subst (λ (o : Option ℕ). IsRead (put_there leaves k x dir l ks o) c q) (sym none) (inr (subst (λ (b : Bool). IsRead (put_new leaves k x dir l ks b) c q) (sym not_full) inner)))

  reads_directory : IsRead r c 1
  reads_directory = at_leaf_reads_directory leaves c v k (λ d a xs. put_there leaves k x d a xs (place_of xs k)) l there

  reads_keys : IsRead r c (key_part l)
  reads_keys = at_leaf_reads_keys leaves c v k (λ d a xs. put_there leaves k x d a xs (place_of xs k)) l there

  observed : EachRead r c items
  observed = (
    reads_directory,
    (
      reads_directory,
      (
        reads_directory,
        (
          reads_directory,
          (
            reads_directory,
            (
              reads_keys,
              read_append r c (all_seen moved) (has_room leaves ∷ []) (read_seen r c moved reads_moved) (reads_size leaves c t few k x fits_k fits_x l there none, tt),
            ),
          ),
        ),
      ),
    ),
  )

  -- the words of the directory that a split observes
  zero_word : word dir (3 * m) ≡ pos 0
  zero_word = elim (v.ranges.bits m w.other_in) [
    | inl z ↦ z
    | inr o ↦ let q : true ≡ false = sym (true_equal (word dir (3 * m)) (pos 1) o) ∙ w.dead in absurd (cc)
  ]

  before : is_live dir (m - 1) ≡ true
  before = w.below (m - 1) (let a : l < m = l_below_m leaves c t l m w in omega (arith, a))

  abbrev later_items : List Item
  later_items = Seen (key_part l) ∷ all_seen moved ++ has_room leaves ∷ []

  holds : Agrees c items c
  holds =
      agrees_eq c c 1 (3 * l) (pos 1) (compared 1 (3 * l + 1) Le k ∷ compared 1 (3 * l + 2) Eq (high dir l) ∷ compared 1 (3 * (m - 1)) Eq (pos 1) ∷ compared 1 (3 * m) Eq (pos 0) ∷ later_items) v.fits (equal_true (word dir (3 * l)) (pos 1) k_range.live)
      (agrees_le c c 1 (3 * l + 1) k (compared 1 (3 * l + 2) Eq (high dir l) ∷ compared 1 (3 * (m - 1)) Eq (pos 1) ∷ compared 1 (3 * m) Eq (pos 0) ∷ later_items) v.fits k_range.from
      (agrees_eq c c 1 (3 * l + 2) (high dir l) (compared 1 (3 * (m - 1)) Eq (pos 1) ∷ compared 1 (3 * m) Eq (pos 0) ∷ later_items) v.fits refl
      (agrees_eq c c 1 (3 * (m - 1)) (pos 1) (compared 1 (3 * m) Eq (pos 0) ∷ later_items) v.fits (equal_true (word dir (3 * (m - 1))) (pos 1) before)
      (agrees_eq c c 1 (3 * m) (pos 0) later_items v.fits zero_word
      (refl, agrees_append c c (all_seen moved) (has_room leaves ∷ []) (agrees_seen c moved) (agrees_lt c c 0 0 (pos (4 * leaves)) [] v.fits (lt_of (pos (4 * leaves)) (size c) not_full) tt))))))

  done : (d : Parts) → IsTree leaves d → full leaves c t few k x fits_k fits_x l there d ≡ false → put_effect (nat_le (4 * leaves) (length (tree_rows leaves d))) k x (tree_rows leaves d) ≡ effect Done (with_row (tree_rows leaves d) k x)
  done d td h = model_full leaves c t few k x fits_k fits_x l there d td false h ∙ put_more (tree_rows leaves d) k x

  -- what contents that agree have
  pub record IsAgreed (d : Parts) : Type 0 where
    pub leaf_same : leaf_of leaves (directory d) k ≡ Some l
    pub high_same : high (directory d) l ≡ high dir l
    pub free_same : free_leaf leaves (directory d) ≡ Some m
    pub keys_same : keys d l ≡ ks
    pub parts_same : (q : ℕ) → IsIn q moved → part_of d q ≡ part_of c q
    pub full_same : full leaves c t few k x fits_k fits_x l there d ≡ false

  agreed : (d : Parts) → IsTree leaves d → Agrees d items c → IsAgreed d
  agreed d td h0 =
      let g : IsShaped leaves d = td.shaped in
      let h1 : (word (directory d) (3 * l) ≡ pos 1) × Agrees d (compared 1 (3 * l + 1) Le k ∷ compared 1 (3 * l + 2) Eq (high dir l) ∷ compared 1 (3 * (m - 1)) Eq (pos 1) ∷ compared 1 (3 * m) Eq (pos 0) ∷ later_items) c =
      eq_agrees d c 1 (3 * l) (pos 1) (compared 1 (3 * l + 1) Le k ∷ compared 1 (3 * l + 2) Eq (high dir l) ∷ compared 1 (3 * (m - 1)) Eq (pos 1) ∷ compared 1 (3 * m) Eq (pos 0) ∷ later_items) td.shaped.fits h0 in
      let h2 : (int_le (low (directory d) l) k ≡ true) × Agrees d (compared 1 (3 * l + 2) Eq (high dir l) ∷ compared 1 (3 * (m - 1)) Eq (pos 1) ∷ compared 1 (3 * m) Eq (pos 0) ∷ later_items) c =
      le_agrees d c 1 (3 * l + 1) k (compared 1 (3 * l + 2) Eq (high dir l) ∷ compared 1 (3 * (m - 1)) Eq (pos 1) ∷ compared 1 (3 * m) Eq (pos 0) ∷ later_items) td.shaped.fits h1.1 in
      let h3 : (high (directory d) l ≡ high dir l) × Agrees d (compared 1 (3 * (m - 1)) Eq (pos 1) ∷ compared 1 (3 * m) Eq (pos 0) ∷ later_items) c = eq_agrees d c 1 (3 * l + 2) (high dir l) (compared 1 (3 * (m - 1)) Eq (pos 1) ∷ compared 1 (3 * m) Eq (pos 0) ∷ later_items) td.shaped.fits h2.1 in
      let h4 : (word (directory d) (3 * (m - 1)) ≡ pos 1) × Agrees d (compared 1 (3 * m) Eq (pos 0) ∷ later_items) c = eq_agrees d c 1 (3 * (m - 1)) (pos 1) (compared 1 (3 * m) Eq (pos 0) ∷ later_items) td.shaped.fits h3.1 in
      let h5 : (word (directory d) (3 * m) ≡ pos 0) × Agrees d later_items c = eq_agrees d c 1 (3 * m) (pos 0) later_items td.shaped.fits h4.1 in
      let h6 : Agrees d (all_seen moved) c × Agrees d (has_room leaves ∷ []) c = agrees_split d c (all_seen moved) (has_room leaves ∷ []) h5.1.1 in
      let last : is_live (directory d) (m - 1) ≡ true = true_equal (word (directory d) (3 * (m - 1))) (pos 1) h4.0 in
      let dead : is_live (directory d) m ≡ false = ap (λ y. int_eq y (pos 1)) h5.0 in
      let low_m : l < m = l_below_m leaves c t l m w in
      let count : td.shaped.ranges.number ≡ m = order (m - 1) m td.shaped.ranges.number (omega (arith, low_m)) (sym (td.shaped.ranges.live (m - 1) (omega (arith, w.other_in))) ∙ last) (sym (td.shaped.ranges.live m w.other_in) ∙ dead) in
      record {
        leaf_same = leaf_is leaves d td.shaped l k leaf_in (has_covers (directory d) k k l (record { live = true_equal (word (directory d) (3 * l)) (pos 1) h1.0; from = h2.0; to = ap (int_le k) h3.0 ∙ k_range.to }));
        high_same = h3.0;
        free_same = first_exact (λ j. not (is_live (directory d) j)) leaves m w.other_in (ap not dead) (λ j b. ap not (td.shaped.ranges.live j (omega (arith, b, w.other_in)) ∙ ap (nat_lt j) count ∙ less j m b));
        keys_same = h5.1.0;
        parts_same = seen_agrees d c moved h6.0;
        full_same = not_le (pos (4 * leaves)) (size d) (lt_agrees d c 0 0 (pos (4 * leaves)) [] td.shaped.fits h6.1).0;
      }
    where
      order : (j m n : ℕ) → suc j ≡ m → nat_lt j n ≡ true → nat_lt m n ≡ false → n ≡ m
      order j m n e a b = grind (arith, nat_tests)

      less : (j m : ℕ) → j < m → nat_lt j m ≡ true
      less j m h = grind (arith, nat_tests)

  same_updates : (d : Parts) → IsTree leaves d → IsAgreed d → updates_at r d ≡ es
  same_updates d td g =
      let absent : place_of (keys d l) k ≡ None = ap (λ xs. place_of xs k) g.keys_same ∙ none in
      let crowded : free_place (keys d l) ≡ None = ap free_place g.keys_same ∙ no_place in
      let words : words_on moved d ≡ words_on moved c = words_on_same moved c d g.parts_same in
      at_leaf_updates leaves d td.shaped k (λ a b xs. put_there leaves k x a b xs (place_of xs k)) l g.leaf_same
      ∙ updates_new leaves c t few k x fits_k fits_x l there d absent false g.full_same ∙ said_updates d crowded g.free_same ∙ updates_here d
      ∙ ap (λ xs. split_updates leaves k x (directory d) l xs m (upper_rows l xs (words_on (moved_values l xs 8) d))) g.keys_same
      ∙ ap (λ ws. split_updates leaves k x (directory d) l ks m (upper_rows l ks ws)) words
      ∙ split_by leaves k x l ks m upper (directory d) dir g.high_same

  inside : AreInside leaves items
  inside =
      let below : l < leaves = leaf_in in
      let above : m < leaves = w.other_in in (
        in_directory leaves (3 * l) (omega (arith, below)),
        (
          in_directory leaves (3 * l + 1) (omega (arith, below)),
          (
            in_directory leaves (3 * l + 2) (omega (arith, below)),
            (
              in_directory leaves (3 * (m - 1)) (omega (arith, above)),
              (
                in_directory leaves (3 * m) (omega (arith, above)),
                inside_append leaves (all_seen moved) (has_room leaves ∷ []) (inside_seen leaves moved) (in_size leaves, tt),
              ),
            ),
          ),
        ),
      )

  pub split_lawful : IsCallLawful leaves (call_of 0 Put k x) c
  split_lawful = record {
    observation =
        observation_by leaves (call_of 0 Put k x) r c items es all_items all_updates within observed inside holds
        (λ d td h.
        let g : IsAgreed d = agreed d td h in
        (ap (λ y. y.reply) (done d td g.full_same) ∙ sym (ap (λ y. y.reply) (done c t not_full)), same_updates d td g));
    updated = subst (λ y. IsUpdated (tree_meaning leaves) (call_of 0 Put k x) c y) (sym all_updates)
        (record {
          ordered = split_ordered;
          owned = owned_by_widths leaves es c (tree_length leaves c v.widths) split_widths;
          widths = split_widths;
          valid = split_tree;
          rows = ap (λ y. y ∷ []) split_rows ∙ ap (λ y. y.after ∷ []) (sym (done c t not_full));
          writes = ap (λ y. is_write Put y.reply) (done c t not_full) ∙ sym (ap not (with_updates_some move more refl));
        });
  }
