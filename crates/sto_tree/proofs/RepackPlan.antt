-- What a put that packs all rows anew comes to, on what is known.
use Rattle.std.proofs.Common.{◌≡◌, ◌<◌, ◌≤◌, ◌≤ℤ◌, ◌+◌, ◌*◌, ◌/◌, ◌%◌, ◌^◌, ◌&&◌, ℕ, zero, suc, ℤ, pos, true, false, int_le, Some, None, List, [], ◌∷◌, ◌++◌, length, refl, sym, ◌∙◌, ap, subst, arith, inl, inr}
use Rattle.std.specs.Prelude.{if◌then◌else◌}
use Rattle.std.specs.Int.{w64}
use Rattle.std.specs.Int.RustNames.{FitsSigned}
use Rattle.std.proofs.lemmas.Int.{ints}
use Rattle.sto_part.specs.Parts.{part_of}
use Rattle.sto_item.specs.declared.item.Item.{Item}
use Rattle.sto_item.specs.declared.item.Item.TheVariants.{Seen}
use Rattle.sto_item.specs.Pending.{Entry, AreUpdates}
use Rattle.sto_model.specs.declared.call.Call.{Call}
use Rattle.sto_model.specs.declared.operation.Operation.TheVariants.{Put}
use Rattle.sto_model.specs.Rows.{Row, with_row}
use Rattle.sto_model.specs.PlainReplies.{Done}
use Rattle.sto_model.proofs.RowFacts.{by_test}
use Rattle.sto_type.specs.Known.{Parts, Known, IsPartOf}
use Rattle.sto_type.specs.Plans.{Ask, Say, IsPlan}
use Rattle.sto_type.specs.Reading.{Reading, need_of, items_of, updates_at, read_each, when_known, Say as Said}
use Rattle.sto_tree.specs.SlotFacts.{gathered_same}
use Rattle.sto_tree.specs.Layout.{listed, parts_of, directory, keys, key, key_part, value, value_part, word, size, low, high, is_live, is_present, place_of, free_place, slot_of, leaf_of, least, greatest, tree_slot, tree_rows}
use Rattle.sto_tree.specs.Valid.{IsTree}
use Rattle.sto_tree.specs.Said.{has_room}
use Rattle.sto_tree.specs.Put.{free_leaf}
use Rattle.sto_tree.specs.Between.{all_seen, meets}
use Rattle.sto_tree.specs.Repack.{present_values_in, present_values, key_parts, leaves_for, ends, repack_items, rows_read, packed_updates}
use Rattle.sto_tree.specs.RepackLaw.{all_is, all_ordered, all_ends, key_listed, value_listed}
use Rattle.sto_tree.specs.Members.{IsIn}
use Rattle.sto_tree.specs.Meaning.{tree_meaning}
use Rattle.sto_tree.specs.Tests.{and_true, true_le, fits_at}
use Rattle.sto_tree.specs.Threes.{words_on, words_on_part, updates_read_each}
use Rattle.sto_tree.specs.Found.{IsAtLeaf, IsCrowded}
use Rattle.sto_tree.specs.KnownRows.{known_slot, known_place, known_value, known_rows}
use Rattle.sto_tree.specs.Walked.{first_unknown, known_words}
use Rattle.sto_tree.proofs.Parts.{known_part}
use Rattle.sto_tree.proofs.Leaves.{leaf_in, same_directory, same_leaf, same_keys}
use Rattle.sto_tree.proofs.Walks.{each_known, need_each, need_each_some, need_each_on, items_each, items_each_on}
use Rattle.sto_tree.proofs.PutPlan.{crowded_asks, crowded_says}
use Rattle.sto_tree.proofs.SplitPlan.{slot_alike}

-- the present places are the same where the key parts are
pub present_same : (us vs : ℕ → List ℤ) (n : ℕ) → ((l : ℕ) → l < n → us (key_part l) ≡ vs (key_part l)) → present_values us n ≡ present_values vs n
present_same us vs zero h = refl
present_same us vs (suc n) h =
    ap (λ xs. xs ++ present_values_in n (us (key_part n)) 8) (present_same us vs n (λ l b. h l (omega (arith, b))))
    ∙ ap (λ ws. present_values vs n ++ present_values_in n ws 8) (h n (omega arith))

-- a key part that is listed is in range
keys_in : (leaves i n q : ℕ) → i + n ≤ leaves → IsIn q (listed key_part i n) → q < parts_of leaves
keys_in leaves i zero q b h = absurd h
keys_in leaves i (suc n) q b h = elim h [ inl at ↦ omega (arith, at, b) | inr later ↦ keys_in leaves (suc i) n q (omega (arith, b)) later ]

at_least : (x : ℤ) → FitsSigned w64 x → int_le least x ≡ true
at_least x f = true_le least x (bound x f) where
  bound : (x : ℤ) → FitsSigned w64 x → least ≤ℤ x
  bound x f = search (arith, ints)

at_most : (x : ℤ) → FitsSigned w64 x → int_le x greatest ≡ true
at_most x f = true_le x greatest (bound x f) where
  bound : (x : ℤ) → FitsSigned w64 x → x ≤ℤ greatest
  bound x f = search (arith, ints)

module _ (leaves : ℕ) (few : parts_of leaves < 2 ^ 32) (k : Known) (call : Call) (object : call.object ≡ 0) (third : call.c ≡ pos 0) (operation : call.operation ≡ Put)
    (fits_a : FitsSigned w64 call.a) (fits_b : FitsSigned w64 call.b)
    (dir : List ℤ) (l : ℕ) (ks : List ℤ) (at : IsAtLeaf leaves k call.a dir l ks) (crowded : IsCrowded leaves k call.a ks) (free : free_leaf leaves dir ≡ None) where
  abbrev all_keys : List ℕ
  all_keys = key_parts leaves

  abbrev values : List ℕ
  values = present_values (known_words k) leaves

  abbrev pack : (ℕ → List ℤ) → (ℕ → List ℤ) → Reading
  pack words us = Said (repack_items leaves words) (packed_updates leaves (with_row (rows_read leaves dir words us) call.a call.b))

  abbrev read_values : (ℕ → List ℤ) → Reading
  read_values words = read_each (present_values words leaves) (pack words)

  abbrev pub all_rows : List Row
  all_rows = with_row (known_rows leaves k dir least greatest) call.a call.b

  pub asks_keys : (p : ℕ) → Some p ≡ first_unknown k all_keys → IsPlan (tree_meaning leaves) call k (Ask p)
  asks_keys p e =
      crowded_asks leaves k call object third operation dir l ks at crowded.new crowded.size crowded.size_known crowded.room crowded.filled None free p
      (need_each_some k all_keys read_values p (sym e))

  module _ (keys_known : None ≡ first_unknown k all_keys) where
    key_known : (j : ℕ) → j < leaves → (ws : List ℤ) × (k (key_part j) ≡ Some ws)
    key_known j h =
        let g : 0 + j ≡ j = omega arith in
        each_known k all_keys (sym keys_known) (key_part j) (subst (λ (y : ℕ). IsIn (key_part y) all_keys) g (key_listed 0 leaves j h))

    words_known : (j : ℕ) (ws : List ℤ) → k (key_part j) ≡ Some ws → known_words k (key_part j) ≡ ws
    words_known j ws e = ap (λ o. when_known o [] (λ xs. xs)) e

    module _ (d : Parts) (t : IsTree leaves d) (part : IsPartOf k d) where
      low_l : l < leaves
      low_l = leaf_in leaves k call.a dir l ks at

      dir_same : directory d ≡ dir
      dir_same = same_directory leaves k call.a dir l ks at d t part

      keys_same : keys d l ≡ ks
      keys_same = same_keys leaves k call.a dir l ks at d t part

      there : leaf_of leaves (directory d) call.a ≡ Some l
      there = same_leaf leaves k call.a dir l ks at d t part

      none : place_of (keys d l) call.a ≡ None
      none = ap (λ xs. place_of xs call.a) keys_same ∙ crowded.new

      not_full : int_le (pos (4 * leaves)) (size d) ≡ false
      not_full = ap (λ xs. int_le (pos (4 * leaves)) (word xs 0)) (known_part leaves k d 0 crowded.size t part (omega arith) crowded.size_known) ∙ crowded.room

      no_place : free_place (keys d l) ≡ None
      no_place = ap free_place keys_same ∙ crowded.filled

      no_leaf : free_leaf leaves (directory d) ≡ None
      no_leaf = ap (free_leaf leaves) dir_same ∙ free

      -- what is known of the key parts is what the contents have
      words_same : (j : ℕ) → j < leaves → words_on all_keys d (key_part j) ≡ known_words k (key_part j)
      words_same j h =
          let g : 0 + j ≡ j = omega arith in
          let ws : (ws : List ℤ) × (k (key_part j) ≡ Some ws) = key_known j h in
          words_on_part all_keys d (key_part j) (subst (λ (y : ℕ). IsIn (key_part y) all_keys) g (key_listed 0 leaves j h))
          ∙ known_part leaves k d (key_part j) ws.0 t part (omega (arith, h)) ws.1 ∙ sym (words_known j ws.0 ws.1)

      values_same : present_values (words_on all_keys d) leaves ≡ values
      values_same = present_same (words_on all_keys d) (known_words k) leaves words_same

      parts_same : (p : ℕ) (ws : List ℤ) → IsIn p all_keys → k p ≡ Some ws → part_of d p ≡ ws
      parts_same p ws i e = known_part leaves k d p ws t part (keys_in leaves 0 leaves p (omega arith) i) e

      need_here : need_of (read_each all_keys read_values) k ≡ first_unknown k values
      need_here =
          need_each_on k d all_keys read_values parts_same (sym keys_known)
          ∙ need_each k (present_values (words_on all_keys d) leaves) (pack (words_on all_keys d)) (λ us. refl)
          ∙ ap (first_unknown k) values_same

      items_here : first_unknown k values ≡ None → items_of (read_each all_keys read_values) k ≡ Seen 1 ∷ all_seen all_keys ++ (all_seen values ++ has_room leaves ∷ [])
      items_here e =
          items_each_on k d all_keys read_values parts_same (sym keys_known)
          ∙ items_each k (present_values (words_on all_keys d) leaves) (pack (words_on all_keys d)) (repack_items leaves (words_on all_keys d)) (λ us. refl) (ap (first_unknown k) values_same ∙ e)
          ∙ ap (λ ps. Seen 1 ∷ all_seen all_keys ++ (all_seen ps ++ has_room leaves ∷ [])) values_same

      -- the rows are those of the tree
      module _ (values_known : None ≡ first_unknown k values) where
        meets_all : (j : ℕ) → meets dir least greatest j ≡ is_live dir j
        meets_all j =
            by_test (is_live dir j)
            (λ e.
            let fits_low : FitsSigned w64 (low dir j) = subst (λ (y : List ℤ). FitsSigned w64 (low y j)) dir_same (fits_at d 1 (3 * j + 1) t.shaped.fits) in
            let fits_high : FitsSigned w64 (high dir j) = subst (λ (y : List ℤ). FitsSigned w64 (high y j)) dir_same (fits_at d 1 (3 * j + 2) t.shaped.fits) in
            and_true (is_live dir j) (int_le (low dir j) greatest && int_le least (high dir j)) e
            (and_true (int_le (low dir j) greatest) (int_le least (high dir j)) (at_most (low dir j) fits_low) (at_least (high dir j) fits_high)) ∙ sym e)
            (λ e. ap (λ b. b && (int_le (low dir j) greatest && int_le least (high dir j))) e ∙ sym e)

        slot_there : (j : ℕ) → j < 8 * leaves → known_slot k dir least greatest j ≡ tree_slot d j
        slot_there j h =
            let n : ℕ = j / 8 in
            let i : ℕ = j % 8 in
            let below : n < leaves = omega (arith, h) in
            let little : i < 8 = omega arith in
            let ws : (ws : List ℤ) × (k (key_part n) ≡ Some ws) = key_known n below in
            let keys_n : keys d n ≡ ws.0 = known_part leaves k d (key_part n) ws.0 t part (omega (arith, below)) ws.1 in
            let known : known_slot k dir least greatest j ≡ (if is_live dir n then slot_of (is_present ws.0 i) (key ws.0 i) (known_value (k (value_part n i))) else None) =
            ap (λ b. if b then known_place (k (key_part n)) i (known_value (k (value_part n i))) else None) (meets_all n)
            ∙ ap (λ o. if is_live dir n then known_place o i (known_value (k (value_part n i))) else None) ws.1 in
            let tree : tree_slot d j ≡ slot_of (is_live dir n && is_present ws.0 i) (key ws.0 i) (value d n i) =
            ap (λ y. slot_of (is_live y n && is_present (keys d n) i) (key (keys d n) i) (value d n i)) dir_same
            ∙ ap (λ xs. slot_of (is_live dir n && is_present xs i) (key xs i) (value d n i)) keys_n in
            by_test (is_live dir n)
            (λ e.
            known ∙ ap (λ b. if b then slot_of (is_present ws.0 i) (key ws.0 i) (known_value (k (value_part n i))) else None) e
            ∙ slot_alike (is_present ws.0 i) (key ws.0 i) (known_value (k (value_part n i))) (value d n i) (λ p.
            let listed : IsIn (value_part n i) values = value_listed (known_words k) leaves n i below little (ap (λ xs. is_present xs i) (words_known n ws.0 ws.1) ∙ p) in
            let v : (v : List ℤ) × (k (value_part n i) ≡ Some v) = each_known k values (sym values_known) (value_part n i) listed in
            ap known_value v.1 ∙ ap (λ xs. word xs 0) (sym (known_part leaves k d (value_part n i) v.0 t part (omega (arith, below, little)) v.1)))
            ∙ sym (tree ∙ ap (λ b. slot_of (b && is_present ws.0 i) (key ws.0 i) (value d n i)) e))
            (λ e.
            known ∙ ap (λ b. if b then slot_of (is_present ws.0 i) (key ws.0 i) (known_value (k (value_part n i))) else None) e
            ∙ sym (tree ∙ ap (λ b. slot_of (b && is_present ws.0 i) (key ws.0 i) (value d n i)) e))

        rows_there : all_rows ≡ with_row (tree_rows leaves d) call.a call.b
        rows_there = ap (λ rows. with_row rows call.a call.b) (gathered_same (known_slot k dir least greatest) (tree_slot d) (8 * leaves) slot_there)

        -- what the law tells of these rows
        told_rows : all_rows ≡ with_row (rows_read leaves (directory d) (words_on all_keys d) (words_on (present_values (words_on all_keys d) leaves) d)) call.a call.b
        told_rows = rows_there ∙ sym (all_is leaves d t few call.a call.b fits_a fits_b l there none not_full no_place no_leaf)

        pub rows_ordered : AreUpdates (packed_updates leaves all_rows)
        rows_ordered = subst (λ (rows : List Row). AreUpdates (packed_updates leaves rows)) (sym told_rows) (all_ordered leaves d t few call.a call.b fits_a fits_b l there none not_full no_place no_leaf)

        pub rows_end : (j : ℕ) → j < leaves_for (length all_rows) → FitsSigned w64 (ends all_rows j)
        rows_end = subst (λ (rows : List Row). (j : ℕ) → j < leaves_for (length rows) → FitsSigned w64 (ends rows j)) (sym told_rows) (all_ends leaves d t few call.a call.b fits_a fits_b l there none not_full no_place no_leaf)

        updates_there : packed_updates leaves all_rows ≡ updates_at (read_each all_keys read_values) d
        updates_there =
            ap (packed_updates leaves) (told_rows ∙ ap (λ y. with_row (rows_read leaves y (words_on all_keys d) (words_on (present_values (words_on all_keys d) leaves) d)) call.a call.b) dir_same)
            ∙ sym (updates_read_each all_keys read_values d ∙ updates_read_each (present_values (words_on all_keys d) leaves) (pack (words_on all_keys d)) d)

    module _ (witness : (d : Parts) × IsTree leaves d × IsPartOf k d) where
      pub asks_values : (p : ℕ) → Some p ≡ first_unknown k values → IsPlan (tree_meaning leaves) call k (Ask p)
      asks_values p e =
          crowded_asks leaves k call object third operation dir l ks at crowded.new crowded.size crowded.size_known crowded.room crowded.filled None free p
          (need_here witness.0 witness.1 witness.2 ∙ sym e)

      pub says_packed :
          (is : List Item) (us : List Entry) → None ≡ first_unknown k values → is ≡ Seen 1 ∷ all_seen all_keys ++ (all_seen values ++ has_room leaves ∷ []) → us ≡ packed_updates leaves all_rows → IsPlan (tree_meaning leaves) call k (Say Done is us)
      says_packed is us e items updates =
          crowded_says leaves k call object third operation dir l ks at crowded.new crowded.size crowded.size_known crowded.room crowded.filled None free is us
          (need_here witness.0 witness.1 witness.2 ∙ sym e)
          (items ∙ sym (items_here witness.0 witness.1 witness.2 (sym e)))
          (λ d t part. updates ∙ updates_there d t part e)
