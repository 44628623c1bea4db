-- count a b and scan a b
use Rattle.std.proofs.Common.{◌≡◌, ◌<◌, ◌≤ℤ◌, ◌⊎◌, ◌*◌, ℕ, ℤ, pos, Bool, true, false, int_le, Option, Some, None, List, [], ◌∷◌, ◌++◌, length, map, refl, sym, ◌∙◌, ap, subst, arith, inl, inr}
use Rattle.std.specs.Prelude.{unwrap_or}
use Rattle.std.specs.List.{flat_map}
use Rattle.std.specs.Int.{w64}
use Rattle.std.specs.Int.RustNames.{FitsSigned}
use Rattle.std.specs.Ordering.{int_eq}
use Rattle.std.proofs.lemmas.Int.{ints}
use Rattle.std.proofs.lemmas.List.{append_assoc, append-nil}
use Rattle.sto_part.specs.Parts.{part_of}
use Rattle.sto_item.specs.declared.item.Item.{Item}
use Rattle.sto_item.specs.declared.item.Item.TheVariants.{Seen}
use Rattle.sto_item.specs.Agreement.{Agrees}
use Rattle.sto_model.specs.declared.call.Call.{Call}
use Rattle.sto_model.specs.declared.operation.Operation.TheVariants.{Count, Scan}
use Rattle.sto_model.specs.Calls.{call_of}
use Rattle.sto_model.specs.PlainReplies.{Value, Pairs}
use Rattle.sto_model.specs.Rows.{Row, value_at, rows_between}
use Rattle.sto_model.proofs.RowFacts.{by_test}
use Rattle.sto_type.specs.Known.{Parts}
use Rattle.sto_type.specs.Meaning.{IsUpdated}
use Rattle.sto_tree.specs.Slots.{AreApart}
use Rattle.sto_tree.specs.SlotFacts.{value_at-gathered, gathered_rises}
use Rattle.sto_type.specs.Reading.{Reading, Read, Say, items_at, updates_at, IsRead}
use Rattle.sto_tree.specs.Layout.{word, is_live, is_present, key, directory, keys, value, covers, leaf_of, holds_key, place_of, place_slot, slot_of, key_part, value_part, parts_of, tree_slot, tree_rows}
use Rattle.sto_tree.specs.Valid.{IsShaped, IsTree}
use Rattle.sto_tree.specs.Meaning.{tree_meaning}
use Rattle.sto_tree.specs.Searches.{first_some}
use Rattle.sto_tree.specs.Tests.{both_true, equal_true, le_true, slot_some, by_option}
use Rattle.sto_tree.specs.Lookup.{leaf_there, leaf_has, leaf_is, value_there, value_in, value_at_tree}
use Rattle.sto_tree.specs.Between.{leaves_between, from_in, to_in, key_rows, value_part_of, values_between, values_read, all_seen, leaf_values, leaf_items, between_each, between_reading}
use Rattle.sto_type.specs.Observing.{EachRead}
use Rattle.sto_tree.specs.CallLaw.{IsObservation, IsCallLawful}
use Rattle.sto_tree.specs.Agreeing.{cover_agrees, agrees_cover}
use Rattle.sto_tree.specs.Insides.{AreInside, inside_cover, inside_seen, inside_each}
use Rattle.sto_tree.specs.Observing.{SameReply, observation_by}
use Rattle.sto_tree.specs.RowsBetween.{lies, bare_value, value_at-between, same_between, same_count}
use Rattle.sto_tree.specs.Members.{IsIn, key_in, agrees_each, each_agrees, seen_agrees, agrees_seen, read_each_of, read_seen, items_read_all, updates_read_all, reads_of_all, reads_all}
use Rattle.sto_tree.specs.LeavesBetween.{part_covered, part_has, lies_in_part, lies_in, le_trans, listed_meets, meets_listed, leaf_meets, covers_has}

-- a number from a to b fits where these fit
pub fits_between : (a b q : ℤ) → FitsSigned w64 a → FitsSigned w64 b → lies a b q ≡ true → FitsSigned w64 q
fits_between a b q fa fb h =
    let t : (int_le a q ≡ true) × (int_le q b ≡ true) = lies_in a b q h in
    between a b q fa fb (le_true a q t.0) (le_true q b t.1)
  where
    between : (a b q : ℤ) → FitsSigned w64 a → FitsSigned w64 b → a ≤ℤ q → q ≤ℤ b → FitsSigned w64 q
    between a b q fa fb h k = search (arith, ints)

-- no row is from a to b where a is above b
pub none_between : (rows : List Row) (a b : ℤ) → int_le a b ≡ false → rows_between rows a b ≡ []
none_between [] a b e = refl
none_between (s ∷ rows) a b e = rw (never a b s.0 e) (none_between rows a b e) where
  never : (a b q : ℤ) → int_le a b ≡ false → lies a b q ≡ false
  never a b q e =
      by_test (lies a b q)
      (λ h. let t : (int_le a q ≡ true) × (int_le q b ≡ true) = lies_in a b q h in let z : true ≡ false = sym (le_trans a q b t.0 t.1) ∙ e in absurd (cc))
      (λ h. h)

-- what a scan, or a count, needs to know of a value
abbrev pub seen_value : Bool → Option ℤ → Option ℤ
seen_value true o = o
seen_value false o = bare_value o

-- the same is known of each value from a to b
abbrev pub SameSeen : ℕ → Bool → ℤ → ℤ → Parts → Parts → Type 0
SameSeen leaves scans a b e c = (q : ℤ) → lies a b q ≡ true → seen_value scans (value_at (tree_rows leaves e) q) ≡ seen_value scans (value_at (tree_rows leaves c) q)

-- a key that is there stands among the keys of its leaf
pub key_row_there : (leaves : ℕ) (c : Parts) (v : IsShaped leaves c) (l i : ℕ) (q : ℤ) → l < leaves → is_live (directory c) l ≡ true → place_of (keys c l) q ≡ Some i → value_at (key_rows (keys c l)) q ≡ Some (pos 0)
key_row_there leaves c v l i q h live place =
    let g : (i < 8) × (holds_key (keys c l) q i ≡ true) = first_some (holds_key (keys c l) q) 8 i place in
    let x : (is_present (keys c l) i ≡ true) × (int_eq (key (keys c l) i) q ≡ true) = both_true (is_present (keys c l) i) (int_eq (key (keys c l) i) q) g.1 in
    let at : key (keys c l) i ≡ q = equal_true (key (keys c l) i) q x.1 in
    let slot : place_slot (keys c l) (λ j. pos 0) i ≡ Some (key (keys c l) i, pos 0) = ap (λ b. slot_of b (key (keys c l) i) (pos 0)) x.0 in
    let apart : AreApart (place_slot (keys c l) (λ j. pos 0)) 8 =
    λ m n r t lm ln em en same.
    let s : (is_present (keys c l) m ≡ true) × (key (keys c l) m ≡ r.0) × (pos 0 ≡ r.1) = slot_some (is_present (keys c l) m) (key (keys c l) m) (pos 0) r em in
    let u : (is_present (keys c l) n ≡ true) × (key (keys c l) n ≡ t.0) × (pos 0 ≡ t.1) = slot_some (is_present (keys c l) n) (key (keys c l) n) (pos 0) t en in
    v.once l m n h lm ln live s.0 u.0 (s.1 ∙ same ∙ sym u.1)
    in
    ap (value_at (key_rows (keys c l))) (sym at) ∙ value_at-gathered (place_slot (keys c l) (λ j. pos 0)) 8 i (key (keys c l) i, pos 0) apart g.0 slot

module _ (leaves : ℕ) (c : Parts) (t : IsTree leaves c) (scans : Bool) (a b : ℤ) (fits_a : FitsSigned w64 a) (fits_b : FitsSigned w64 b) where
  abbrev dir : List ℤ
  dir = directory c

  abbrev ls : List ℕ
  ls = leaves_between leaves dir a b

  abbrev values : ℕ → List ℕ
  values l = leaf_values scans dir a b (keys c l) l

  abbrev items : ℕ → List Item
  items l = leaf_items scans dir a b (keys c l) l

  v : IsShaped leaves c
  v = t.shaped

  -- what is said on the contents
  each_items : (ms : List ℕ) (is : List Item) → items_at (between_each scans dir a b ms is) c ≡ is ++ flat_map items ms
  each_items [] is = sym (append-nil is)
  each_items (m ∷ ms) is =
      items_read_all (values m) (between_each scans dir a b ms (is ++ items m)) c ∙ each_items ms (is ++ items m) ∙ append_assoc is (items m) (flat_map items ms)

  -- nothing is written
  pub each_updates : (d : List ℤ) (ms : List ℕ) (is : List Item) (e : Parts) → updates_at (between_each scans d a b ms is) e ≡ []
  each_updates d [] is e = refl
  each_updates d (m ∷ ms) is e =
      updates_read_all (leaf_values scans d a b (keys e m) m) (between_each scans d a b ms (is ++ leaf_items scans d a b (keys e m) m)) e
      ∙ each_updates d ms (is ++ leaf_items scans d a b (keys e m) m) e

  -- the key parts and the values are read
  each_reads : (ms : List ℕ) (is : List Item) (q : ℕ) → IsRead (between_each scans dir a b ms is) c q → (l : ℕ) × IsIn l ms × ((key_part l ≡ q) ⊎ IsIn q (values l))
  each_reads [] is q h = absurd h
  each_reads (m ∷ ms) is q h = elim h [
    | inl at ↦ (m, inl refl, inl at)
    | inr later ↦ elim (reads_of_all (values m) (between_each scans dir a b ms (is ++ items m)) c q later) [
      | inl value ↦ (m, inl refl, inr value)
      | inr last ↦
          let w : (l : ℕ) × IsIn l ms × ((key_part l ≡ q) ⊎ IsIn q (values l)) = each_reads ms (is ++ items m) q last in
          (w.0, inr w.1, w.2)
    ]
  ]

  pub reads_keys : (ms : List ℕ) (is : List Item) (l : ℕ) → IsIn l ms → IsRead (between_each scans dir a b ms is) c (key_part l)
  reads_keys [] is l h = absurd h
  reads_keys (m ∷ ms) is l h = elim h [
    | inl at ↦ inl (ap key_part at)
    | inr later ↦ inr (reads_all (values m) (between_each scans dir a b ms (is ++ items m)) c (key_part l) (inr (reads_keys ms (is ++ items m) l later)))
  ]

  pub reads_values : (ms : List ℕ) (is : List Item) (l p : ℕ) → IsIn l ms → IsIn p (values l) → IsRead (between_each scans dir a b ms is) c p
  reads_values [] is l p h i = absurd h
  reads_values (m ∷ ms) is l p h i = elim h [
    | inl at ↦ inr (reads_all (values m) (between_each scans dir a b ms (is ++ items m)) c p (inl (subst (λ (x : ℕ). IsIn p (values x)) (sym at) i)))
    | inr later ↦ inr (reads_all (values m) (between_each scans dir a b ms (is ++ items m)) c p (inr (reads_values ms (is ++ items m) l p later i)))
  ]

  place_within : (ks : List ℤ) (q : ℤ) → unwrap_or (place_of ks q) 0 < 8
  place_within ks q =
      by_option (unwrap_or (place_of ks q) 0 < 8) (place_of ks q)
      (λ none. rw none (omega arith))
      (λ i some. rw some (first_some (holds_key ks q) 8 i some).0)

  mapped_within : (l : ℕ) (ks : List ℤ) (rows : List Row) (p : ℕ) → l < leaves → IsIn p (map (λ r. value_part_of l ks r.0) rows) → p < parts_of leaves
  mapped_within l ks [] p h i = absurd i
  mapped_within l ks (r ∷ rows) p h i = elim i [
    | inl at ↦ omega (arith, at, h, place_within ks r.0)
    | inr later ↦ mapped_within l ks rows p h later
  ]

  values_within : (s : Bool) (l : ℕ) (ks : List ℤ) (x y : ℤ) (p : ℕ) → l < leaves → IsIn p (values_read s l ks x y) → p < parts_of leaves
  values_within true l ks x y p h i = mapped_within l ks (rows_between (key_rows ks) x y) p h i
  values_within false l ks x y p h i = absurd i

  abbrev inner : Reading
  inner = between_each scans dir a b ls []

  abbrev whole : Reading
  whole = Read 1 (λ d. between_each scans d a b (leaves_between leaves d a b) [])

  pub within : (q : ℕ) → IsRead whole c q → q < parts_of leaves
  within q h = elim h [
    | inl at ↦ omega (arith, at, (leaf_zero).1)
    | inr later ↦
        let w : (l : ℕ) × IsIn l ls × ((key_part l ≡ q) ⊎ IsIn q (values l)) = each_reads ls [] q later in
        let g : w.0 < leaves = (listed_meets leaves dir v.ranges a b w.0 w.1).0 in
        elim w.2 [ inl at ↦ omega (arith, at, g) | inr value ↦ values_within scans w.0 (keys c w.0) (from_in dir a w.0) (to_in dir b w.0) q g value ]
  ] where
    leaf_zero : (l : ℕ) × (l < leaves)
    leaf_zero = let x : (l : ℕ) × (leaf_of leaves (directory c) a ≡ Some l) = leaf_there leaves c t.shaped a fits_a in (x.0, (leaf_has leaves c t.shaped x.0 a x.1).0)

  observed : EachRead whole c (flat_map items ls)
  observed = read_each_of whole c items ls (λ l i.
      let k : IsRead whole c (key_part l) = inr (reads_keys ls [] l i) in
      let vs : EachRead whole c (all_seen (values l)) = read_seen whole c (values l) (λ p h. inr (reads_values ls [] l p i h)) in
      (inl refl, (inl refl, (inl refl, (k, vs)))))

  pub inside : AreInside leaves (flat_map items ls)
  inside = inside_each leaves items ls (λ l i. inside_cover leaves l (from_in dir a l) (to_in dir b l) (Seen (key_part l) ∷ all_seen (values l)) (listed_meets leaves dir v.ranges a b l i).0 (inside_seen leaves (values l)))

  pub holds : Agrees c (flat_map items ls) c
  holds = agrees_each c c items ls (λ l i.
      let live : is_live dir l ≡ true = (listed_meets leaves dir v.ranges a b l i).1 in
      agrees_cover c c l (from_in dir a l) (to_in dir b l) (Seen (key_part l) ∷ all_seen (values l)) v.fits (part_covered dir a b l live) (refl, agrees_seen c (values l)))

  -- the leaf of a number from a to b, in contents that agree
  agreed_leaf : (e : Parts) → IsTree leaves e → Agrees e (flat_map items ls) c → (q : ℤ) → lies a b q ≡ true → (l : ℕ) → leaf_of leaves dir q ≡ Some l
      → (leaf_of leaves (directory e) q ≡ Some l) × (keys e l ≡ keys c l) × Agrees e (all_seen (values l)) c
  agreed_leaf e te h q y l there =
      let g : (l < leaves) × (covers dir q q l ≡ true) = leaf_has leaves c v l q there in
      let i : IsIn l ls = meets_listed leaves dir v.ranges a b l g.0 (leaf_meets leaves dir v.ranges a b l q y g.1) in
      let x : (covers (directory e) (from_in dir a l) (to_in dir b l) l ≡ true) × Agrees e (Seen (key_part l) ∷ all_seen (values l)) c =
      cover_agrees e c l (from_in dir a l) (to_in dir b l) (Seen (key_part l) ∷ all_seen (values l)) te.shaped.fits (each_agrees e c items ls h l i) in
      (leaf_is leaves e te.shaped l q g.0 (part_has dir (directory e) a b q l x.0 y g.1), x.1.0, x.1.1)

  bare_there : (f g : ℕ → ℤ) (o : Option ℕ) → bare_value (value_there f o) ≡ bare_value (value_there g o)
  bare_there f g None = refl
  bare_there f g (Some i) = refl

  -- what a count or scan sees there
  seen_there : (s : Bool) (e : Parts) (q : ℤ) (l : ℕ) → l < leaves → covers dir q q l ≡ true → lies (from_in dir a l) (to_in dir b l) q ≡ true → Agrees e (all_seen (values_read s l (keys c l) (from_in dir a l) (to_in dir b l))) c
      → seen_value s (value_there (value e l) (place_of (keys c l) q)) ≡ seen_value s (value_there (value c l) (place_of (keys c l) q))
  seen_there false e q l h k y ag = bare_there (value e l) (value c l) (place_of (keys c l) q)
  seen_there true e q l h k y ag =
      by_option (value_there (value e l) (place_of (keys c l) q) ≡ value_there (value c l) (place_of (keys c l) q)) (place_of (keys c l) q)
      (λ none. ap (value_there (value e l)) none ∙ sym (ap (value_there (value c l)) none))
      (λ i some.
      let live : is_live dir l ≡ true = (covers_has dir q q l k).live in
      let row : value_at (rows_between (key_rows (keys c l)) (from_in dir a l) (to_in dir b l)) q ≡ Some (pos 0) = value_at-between (key_rows (keys c l)) (from_in dir a l) (to_in dir b l) q y ∙ key_row_there leaves c v l i q h live some in
      let listed : IsIn (value_part_of l (keys c l) q) (values_between l (keys c l) (from_in dir a l) (to_in dir b l)) = key_in (value_part_of l (keys c l)) (rows_between (key_rows (keys c l)) (from_in dir a l) (to_in dir b l)) q (pos 0) row in
      let part : part_of e (value_part_of l (keys c l) q) ≡ part_of c (value_part_of l (keys c l) q) = seen_agrees e c (values_between l (keys c l) (from_in dir a l) (to_in dir b l)) ag (value_part_of l (keys c l) q) listed in
      let at : value_part_of l (keys c l) q ≡ value_part l i = ap (λ o. value_part l (unwrap_or o 0)) some in
      let same : value e l i ≡ value c l i = ap (λ ws. word ws 0) (subst (λ (p : ℕ). part_of e p ≡ part_of c p) at part) in
      ap (value_there (value e l)) some ∙ ap Some same ∙ sym (ap (value_there (value c l)) some))

  pub same_seen : (e : Parts) → IsTree leaves e → Agrees e (flat_map items ls) c → SameSeen leaves scans a b e c
  same_seen e te h q y =
      let w : (l : ℕ) × (leaf_of leaves dir q ≡ Some l) = leaf_there leaves c v q (fits_between a b q fits_a fits_b y) in
      let l : ℕ = w.0 in
      let g : (w.0 < leaves) × (covers dir q q w.0 ≡ true) = leaf_has leaves c v w.0 q w.1 in
      let x : (leaf_of leaves (directory e) q ≡ Some w.0) × (keys e w.0 ≡ keys c w.0) × Agrees e (all_seen (values w.0)) c = agreed_leaf e te h q y w.0 w.1 in
      let there_e : value_at (tree_rows leaves e) q ≡ value_there (value e w.0) (place_of (keys c w.0) q) = value_at_tree leaves e te.shaped q ∙ ap (value_in e q) x.0 ∙ ap (λ ks. value_there (value e w.0) (place_of ks q)) x.1 in
      let there_c : value_at (tree_rows leaves c) q ≡ value_there (value c w.0) (place_of (keys c w.0) q) = value_at_tree leaves c v q ∙ ap (value_in c q) w.1 in
      ap (seen_value scans) there_e ∙ seen_there scans e q w.0 g.0 g.1 (lies_in_part dir a b q w.0 y g.1) x.2 ∙ sym (ap (seen_value scans) there_c)

  pub between_observation :
      (call : Call) → ((e : Parts) → IsTree leaves e → SameSeen leaves scans a b e c → SameReply leaves call e c) → int_le a b ≡ true → IsObservation leaves call (between_reading leaves scans a b) c
  between_observation call reply h =
      subst (λ (r : Reading). IsObservation leaves call r c) (sym (rw h refl))
      (observation_by leaves call whole c (flat_map items ls) [] (each_items ls []) (each_updates dir ls [] c) within observed inside holds
      (λ e te ag. (reply e te (same_seen e te ag), each_updates (directory e) (leaves_between leaves (directory e) a b) [] e)))

pub between_true : (leaves : ℕ) (scans : Bool) (a b : ℤ) → int_le a b ≡ true → between_reading leaves scans a b ≡ Read 1 (λ d. between_each scans d a b (leaves_between leaves d a b) [])
between_true leaves scans a b h = rw h refl

pub between_false : (leaves : ℕ) (scans : Bool) (a b : ℤ) → int_le a b ≡ false → between_reading leaves scans a b ≡ Say [] []
between_false leaves scans a b h = rw h refl

pub between_updates : (leaves : ℕ) (c : Parts) (t : IsTree leaves c) (scans : Bool) (a b : ℤ) → FitsSigned w64 a → FitsSigned w64 b → updates_at (between_reading leaves scans a b) c ≡ []
between_updates leaves c t scans a b fa fb =
    by_test (int_le a b)
    (λ h. ap (λ r. updates_at r c) (between_true leaves scans a b h) ∙ each_updates leaves c t scans a b fa fb (directory c) (leaves_between leaves (directory c) a b) [] c)
    (λ h. ap (λ r. updates_at r c) (between_false leaves scans a b h))

-- nothing is read where a is above b
nothing_between : (leaves : ℕ) (c : Parts) (scans : Bool) (a b : ℤ) (call : Call) → ((e : Parts) → IsTree leaves e → SameReply leaves call e c) → int_le a b ≡ false → IsObservation leaves call (between_reading leaves scans a b) c
nothing_between leaves c scans a b call reply h =
    subst (λ (r : Reading). IsObservation leaves call r c) (sym (rw h refl))
    (observation_by leaves call (Say [] []) c [] [] refl refl (λ q bad. absurd bad) tt tt tt (λ e te ag. (reply e te, refl)))

pub count_lawful : (leaves : ℕ) (c : Parts) → IsTree leaves c → (a b : ℤ) → FitsSigned w64 a → FitsSigned w64 b → IsCallLawful leaves (call_of 0 Count a b) c
count_lawful leaves c t a b fa fb = record {
  observation =
      by_test (int_le a b)
      (between_observation leaves c t false a b fa fb (call_of 0 Count a b) (λ e te same. ap (λ n. Value (pos n))
      (same_count (tree_rows leaves e) (tree_rows leaves c) a b (gathered_rises (tree_slot e) (8 * leaves)) (gathered_rises (tree_slot c) (8 * leaves)) same)))
      (λ h. nothing_between leaves c false a b (call_of 0 Count a b) (λ e te. ap (λ rows. Value (pos (length rows))) (none_between (tree_rows leaves e) a b h ∙ sym (none_between (tree_rows leaves c) a b h))) h);
  updated = subst (λ es. IsUpdated (tree_meaning leaves) (call_of 0 Count a b) c es) (sym (between_updates leaves c t false a b fa fb)) (record { ordered = (tt, tt); owned = tt; widths = tt; valid = t; rows = refl; writes = refl });
}

pub scan_lawful : (leaves : ℕ) (c : Parts) → IsTree leaves c → (a b : ℤ) → FitsSigned w64 a → FitsSigned w64 b → IsCallLawful leaves (call_of 0 Scan a b) c
scan_lawful leaves c t a b fa fb = record {
  observation =
      by_test (int_le a b)
      (between_observation leaves c t true a b fa fb (call_of 0 Scan a b) (λ e te same. ap Pairs
      (same_between (tree_rows leaves e) (tree_rows leaves c) a b (gathered_rises (tree_slot e) (8 * leaves)) (gathered_rises (tree_slot c) (8 * leaves)) same)))
      (λ h. nothing_between leaves c true a b (call_of 0 Scan a b) (λ e te. ap Pairs (none_between (tree_rows leaves e) a b h ∙ sym (none_between (tree_rows leaves c) a b h))) h);
  updated = subst (λ es. IsUpdated (tree_meaning leaves) (call_of 0 Scan a b) c es) (sym (between_updates leaves c t true a b fa fb)) (record { ordered = (tt, tt); owned = tt; widths = tt; valid = t; rows = refl; writes = refl });
}
