-- next k
use Rattle.std.proofs.Common.{◌≡◌, ◌<◌, ◌≤ℤ◌, ◌<ℤ◌, ◌⊎◌, ◌+◌, ◌*◌, ℕ, ℤ, pos, true, false, ◌&&◌, int_le, Option, Some, None, List, [], ◌∷◌, map, refl, sym, ◌∙◌, ap, subst, arith, inl, inr}
use Rattle.std.specs.Int.{w64}
use Rattle.std.specs.Int.RustNames.{FitsSigned}
use Rattle.std.specs.Ordering.{int_eq}
use Rattle.std.proofs.lemmas.Int.{ints}
use Rattle.sto_item.specs.Agreement.{Agrees}
use Rattle.sto_model.specs.declared.operation.Operation.TheVariants.{Next}
use Rattle.sto_model.specs.Calls.{call_of}
use Rattle.sto_model.specs.Objects.{value_or_absent}
use Rattle.sto_model.specs.PlainReplies.{is_write}
use Rattle.sto_model.specs.Rows.{Row, RisesFrom, IsRising, value_at, least_from}
use Rattle.sto_model.proofs.RowFacts.{by_test}
use Rattle.sto_type.specs.Known.{Parts}
use Rattle.sto_type.specs.Meaning.{IsUpdated}
use Rattle.sto_tree.specs.Slots.{gathered}
use Rattle.sto_tree.specs.SlotFacts.{value_at-gathered_none, gathered_rises}
use Rattle.sto_type.specs.Reading.{Reading, items_at, updates_at, IsRead}
use Rattle.sto_tree.specs.Layout.{greatest, is_live, low, high, is_present, key, directory, keys, value, covers, leaf_of, holds_key, place_of, place_slot, key_part, parts_of, tree_slot, tree_rows}
use Rattle.sto_tree.specs.Valid.{IsShaped, IsTree}
use Rattle.sto_tree.specs.Meaning.{tree_meaning}
use Rattle.sto_tree.specs.Searches.{first_some, first_none}
use Rattle.sto_tree.specs.Tests.{both_true, and_true, equal_true, true_equal, le_true, true_le, slot_some, by_option, fits_at}
use Rattle.sto_tree.specs.Lookup.{leaf_there, leaf_has, leaf_is, value_there, value_in, value_at_tree}
use Rattle.sto_tree.specs.Between.{leaf_slots, leaf_number, leaves_between, key_rows, meets}
use Rattle.sto_tree.specs.Next.{leaf_seen, all_between, next_in, next_each, next_reading}
use Rattle.sto_tree.specs.CallLaw.{IsObservation, IsCallLawful}
use Rattle.sto_tree.specs.Observing.{observation_by}
use Rattle.sto_tree.specs.RowsBetween.{lies, bare_value, IsLeast, least_none, least_some, least_is, least_absent}
use Rattle.sto_tree.specs.Members.{IsIn, AllRows, read_each_of}
use Rattle.sto_tree.specs.LeavesBetween.{le_trans, le_same, listed_meets, meets_listed, leaf_meets, leaf_rows_are, IsLeafRow, HasRange, covers_has, has_covers}
use Rattle.sto_tree.specs.BetweenLaw.{key_row_there, same_seen, holds, inside, SameSeen}

-- what is found, else what is found further on
abbrev pub found_first : Option ℤ → Option ℤ → Option ℤ
found_first (Some x) later = Some x
found_first None later = later

-- the leaves are listed in the order of their ranges
abbrev pub Rises : List ℤ → List ℕ → Type 0
Rises dir [] = Unit {0}
Rises dir (l ∷ ls) = ((m : ℕ) → IsIn m ls → low dir l <ℤ low dir m) × Rises dir ls

lt_trans : (x y z : ℤ) → x <ℤ y → y <ℤ z → x <ℤ z
lt_trans x y z a b = grind (arith, ints)

le_fits : (x : ℤ) → FitsSigned w64 x → int_le x greatest ≡ true
le_fits x f = true_le x greatest (bound x f) where
  bound : (x : ℤ) → FitsSigned w64 x → x ≤ℤ greatest
  bound x f = search (arith, ints)

greatest_fits : FitsSigned w64 greatest
greatest_fits = search (arith, ints)

bare_none : (o : Option ℤ) → bare_value o ≡ None → o ≡ None
bare_none None e = refl
bare_none (Some x) e = cc

module _ (leaves : ℕ) (c : Parts) (t : IsTree leaves c) (k : ℤ) (fits_k : FitsSigned w64 k) where
  abbrev dir : List ℤ
  dir = directory c

  abbrev ls : List ℕ
  ls = leaves_between leaves dir k greatest

  v : IsShaped leaves c
  v = t.shaped

  abbrev least_in : ℕ → Option ℤ
  least_in l = least_from (key_rows (keys c l)) k

  rows_above : (r : Row) (rows : List Row) → RisesFrom r rows → AllRows (IsLeafRow leaves dir v.ranges k greatest) rows → (m : ℕ) → IsIn m (map leaf_number rows) → r.0 <ℤ low dir m
  rows_above r [] h all m i = absurd i
  rows_above r (s ∷ rows) h all m i = elim i [
    | inl at ↦ subst (λ (x : ℕ). r.0 <ℤ low dir x) at (subst (λ (x : ℤ). r.0 <ℤ x) all.0.2 h.0)
    | inr later ↦ lt_trans r.0 s.0 (low dir m) h.0 (rows_above s rows h.1 all.1 m later)
  ]

  rows_rise : (rows : List Row) → IsRising rows → AllRows (IsLeafRow leaves dir v.ranges k greatest) rows → Rises dir (map leaf_number rows)
  rows_rise [] h all = tt
  rows_rise (r ∷ rows) h all =
      ((λ m i. subst (λ (x : ℤ). x <ℤ low dir m) all.0.2 (rows_above r rows h all.1 m i)), rows_rise rows (rising_tail r rows h) all.1)
    where
      rising_tail : (r : Row) (rows : List Row) → RisesFrom r rows → IsRising rows
      rising_tail r [] h = tt
      rising_tail r (s ∷ rows) h = h.1

  ls_rise : Rises dir ls
  ls_rise = rows_rise (gathered (leaf_slots dir k greatest) leaves) (gathered_rises (leaf_slots dir k greatest) leaves) (leaf_rows_are leaves dir v.ranges k greatest)

  -- the key that a search of these leaves finds
  abbrev pub first_in : List ℕ → Option ℤ
  first_in [] = None
  first_in (m ∷ ms) = found_first (least_in m) (first_in ms)

  -- the search ended in a leaf, and each leaf that it lists was passed or begins above
  pub record Found (ms : List ℕ) : Type 0 where
    pub leaf : ℕ
    pub found : ℤ
    pub listed : IsIn leaf ms
    pub least : least_in leaf ≡ Some found
    pub first : first_in ms ≡ Some found
    pub said : items_at (next_each leaves dir k ms) c ≡ all_between leaves dir k found
    pub each : (m : ℕ) → IsIn m ms → (low dir leaf <ℤ low dir m) ⊎ (((m ≡ leaf) ⊎ (least_in m ≡ None)) × IsRead (next_each leaves dir k ms) c (key_part m))

  -- it passed all leaves
  pub record Passed (ms : List ℕ) : Type 0 where
    pub first : first_in ms ≡ None
    pub said : items_at (next_each leaves dir k ms) c ≡ all_between leaves dir k greatest
    pub each : (m : ℕ) → IsIn m ms → (least_in m ≡ None) × IsRead (next_each leaves dir k ms) c (key_part m)

  outcome : (ms : List ℕ) → Rises dir ms → Found ms ⊎ Passed ms
  outcome [] h = inr (record { first = refl; said = refl; each = λ m i. absurd i })
  outcome (m ∷ ms) h =
      let later : Found ms ⊎ Passed ms = outcome ms h.1 in
      by_option (Found (m ∷ ms) ⊎ Passed (m ∷ ms)) (least_in m)
      (λ none.
      let goes : (q : ℕ) → IsRead (next_each leaves dir k ms) c q → IsRead (next_each leaves dir k (m ∷ ms)) c q =
      λ q g. inr (subst (λ (o : Option ℤ). IsRead (next_in leaves dir k (next_each leaves dir k ms) o) c q) (sym none) g) in
      let says : items_at (next_each leaves dir k (m ∷ ms)) c ≡ items_at (next_each leaves dir k ms) c = ap (λ o. items_at (next_in leaves dir k (next_each leaves dir k ms) o) c) none in
      elim later [
        | inl f ↦ inl (record {
          leaf = f.leaf;
          found = f.found;
          listed = inr f.listed;
          least = f.least;
          first = ap (λ o. found_first o (first_in ms)) none ∙ f.first;
          said = says ∙ f.said;
          each = λ n i. elim i [
            | inl at ↦ inr (inr (ap least_in (sym at) ∙ none), inl (ap key_part at))
            | inr there ↦ elim (f.each n there) [ inl above ↦ inl above | inr passed ↦ inr (passed.0, goes (key_part n) passed.1) ]
          ];
        })
        | inr p ↦ inr (record {
          first = ap (λ o. found_first o (first_in ms)) none ∙ p.first;
          said = says ∙ p.said;
          each = λ n i. elim i [
            | inl at ↦ (ap least_in (sym at) ∙ none, inl (ap key_part at))
            | inr there ↦ let x : (least_in n ≡ None) × IsRead (next_each leaves dir k ms) c (key_part n) = p.each n there in (x.0, goes (key_part n) x.1)
          ];
        })
      ])
      (λ x some. inl (record {
        leaf = m;
        found = x;
        listed = inl refl;
        least = some;
        first = ap (λ o. found_first o (first_in ms)) some;
        said = ap (λ o. items_at (next_in leaves dir k (next_each leaves dir k ms) o) c) some;
        each = λ n i. elim i [
          | inl at ↦ inr (inl (sym at), inl (ap key_part at))
          | inr there ↦ inl (h.0 n there)
        ];
      }))

  -- nothing is written
  in_updates : (d : List ℤ) (r : Reading) (e : Parts) (o : Option ℤ) → updates_at r e ≡ [] → updates_at (next_in leaves d k r o) e ≡ []
  in_updates d r e None h = h
  in_updates d r e (Some x) h = refl

  pub next_updates : (d : List ℤ) (ms : List ℕ) (e : Parts) → updates_at (next_each leaves d k ms) e ≡ []
  next_updates d [] e = refl
  next_updates d (m ∷ ms) e = in_updates d (next_each leaves d k ms) e (least_from (key_rows (keys e m)) k) (next_updates d ms e)

  in_reads : (r : Reading) (o : Option ℤ) (q : ℕ) → IsRead (next_in leaves dir k r o) c q → IsRead r c q
  in_reads r None q h = h
  in_reads r (Some x) q h = absurd h

  reads_listed : (ms : List ℕ) (q : ℕ) → IsRead (next_each leaves dir k ms) c q → (m : ℕ) × IsIn m ms × (key_part m ≡ q)
  reads_listed [] q h = absurd h
  reads_listed (m ∷ ms) q h = elim h [
    | inl at ↦ (m, inl refl, at)
    | inr later ↦
        let w : (n : ℕ) × IsIn n ms × (key_part n ≡ q) = reads_listed ms q (in_reads (next_each leaves dir k ms) (least_in m) q later) in
        (w.0, inr w.1, w.2)
  ]

  abbrev whole : Reading
  whole = next_reading leaves k

  within : (q : ℕ) → IsRead whole c q → q < parts_of leaves
  within q h = elim h [
    | inl at ↦ omega (arith, at, leaf_zero.1)
    | inr later ↦
        let w : (m : ℕ) × IsIn m ls × (key_part m ≡ q) = reads_listed ls q later in
        let g : w.0 < leaves = (listed_meets leaves dir v.ranges k greatest w.0 w.1).0 in
        omega (arith, w.2, g)
  ] where
    leaf_zero : (l : ℕ) × (l < leaves)
    leaf_zero = let x : (l : ℕ) × (leaf_of leaves (directory c) k ≡ Some l) = leaf_there leaves c t.shaped k fits_k in (x.0, (leaf_has leaves c t.shaped x.0 k x.1).0)

  -- the keys of a leaf
  key_none : (l : ℕ) (q : ℤ) → l < leaves → is_live dir l ≡ true → value_at (key_rows (keys c l)) q ≡ None → place_of (keys c l) q ≡ None
  key_none l q h live e =
      by_option (place_of (keys c l) q ≡ None) (place_of (keys c l) q) (λ none. none)
      (λ i some. let z : None ≡ Some (pos 0) = sym e ∙ key_row_there leaves c v l i q h live some in absurd (cc))

  key_some : (l : ℕ) (q : ℤ) → (value_at (key_rows (keys c l)) q ≡ None → ⊥) → (i : ℕ) × (place_of (keys c l) q ≡ Some i)
  key_some l q n =
      by_option ((i : ℕ) × (place_of (keys c l) q ≡ Some i)) (place_of (keys c l) q)
      (λ none. absurd (n (value_at-gathered_none (place_slot (keys c l) (λ j. pos 0)) 8 q (λ j r b e same.
      let s : (is_present (keys c l) j ≡ true) × (key (keys c l) j ≡ r.0) × (pos 0 ≡ r.1) = slot_some (is_present (keys c l) j) (key (keys c l) j) (pos 0) r e in
      let z : true ≡ false = sym (and_true (is_present (keys c l) j) (int_eq (key (keys c l) j) q) s.0 (true_equal (key (keys c l) j) q (s.1 ∙ same))) ∙ first_none (holds_key (keys c l) q) 8 none j b in
      absurd (cc)))))
      (λ i some. (i, some))

  -- a leaf where no key is found has none from k on
  none_in : (m : ℕ) (q : ℤ) → m < leaves → is_live dir m ≡ true → least_in m ≡ None → k ≤ℤ q → place_of (keys c m) q ≡ None
  none_in m q h live e le = key_none m q h live (least_none (key_rows (keys c m)) k e q le)

  -- the leaf of a number from k on is listed
  leaf_listed : (m : ℕ) (q : ℤ) → k ≤ℤ q → leaf_of leaves dir q ≡ Some m → IsIn m ls
  leaf_listed m q le there =
      let g : (m < leaves) × (covers dir q q m ≡ true) = leaf_has leaves c v m q there in
      let r : HasRange dir q q m = covers_has dir q q m g.1 in
      let y : lies k greatest q ≡ true = and_true (int_le k q) (int_le q greatest) (true_le k q le) (le_trans q (high dir m) greatest r.to (le_fits (high dir m) (fits_at c 1 (3 * m + 2) v.fits))) in
      meets_listed leaves dir v.ranges k greatest m g.0 (leaf_meets leaves dir v.ranges k greatest m q y g.1)

  module _ (f : Found ls) where
    abbrev l : ℕ
    l = f.leaf

    abbrev x : ℤ
    x = f.found

    leaf_facts : (l < leaves) × (is_live dir l ≡ true) × (meets dir k greatest l ≡ true)
    leaf_facts = listed_meets leaves dir v.ranges k greatest l f.listed

    least_there : IsLeast (key_rows (keys c l)) k x
    least_there = least_some (key_rows (keys c l)) k x (gathered_rises (place_slot (keys c l) (λ j. pos 0)) 8) f.least

    place_there : (i : ℕ) × (place_of (keys c l) x ≡ Some i)
    place_there = key_some l x least_there.there

    covers_x : covers dir x x l ≡ true
    covers_x =
        let g : (place_there.0 < 8) × (holds_key (keys c l) x place_there.0 ≡ true) = first_some (holds_key (keys c l) x) 8 place_there.0 place_there.1 in
        let b : (is_present (keys c l) place_there.0 ≡ true) × (int_eq (key (keys c l) place_there.0) x ≡ true) = both_true (is_present (keys c l) place_there.0) (int_eq (key (keys c l) place_there.0) x) g.1 in
        subst (λ (y : ℤ). covers dir y y l ≡ true) (equal_true (key (keys c l) place_there.0) x b.1) (v.inside l place_there.0 leaf_facts.0 g.0 leaf_facts.1 b.0)

    pub fits_x : FitsSigned w64 x
    fits_x =
        let g : (place_there.0 < 8) × (holds_key (keys c l) x place_there.0 ≡ true) = first_some (holds_key (keys c l) x) 8 place_there.0 place_there.1 in
        let b : (is_present (keys c l) place_there.0 ≡ true) × (int_eq (key (keys c l) place_there.0) x ≡ true) = both_true (is_present (keys c l) place_there.0) (int_eq (key (keys c l) place_there.0) x) g.1 in
        subst (FitsSigned w64) (equal_true (key (keys c l) place_there.0) x b.1) (fits_at c (key_part l) (2 * place_there.0 + 1) v.fits)

    -- a leaf that begins at x or below is not above leaf l
    not_above : (m : ℕ) → m < leaves → is_live dir m ≡ true → int_le (low dir m) x ≡ true → low dir l <ℤ low dir m → ⊥
    not_above m h live le lt =
        let r : HasRange dir x x l = covers_has dir x x l covers_x in
        let own : covers dir (low dir m) (low dir m) m ≡ true = has_covers dir (low dir m) (low dir m) m (record { live = live; from = le_same (low dir m); to = true_le (low dir m) (high dir m) (v.ranges.filled m h live) }) in
        let other : covers dir (low dir m) (low dir m) l ≡ true = has_covers dir (low dir m) (low dir m) l (record { live = r.live; from = true_le (low dir l) (low dir m) (lt_le (low dir l) (low dir m) lt); to = le_trans (low dir m) x (high dir l) le r.to }) in
        let same : m ≡ l = v.ranges.apart m l (low dir m) h leaf_facts.0 own other in
        never (low dir m) (subst (λ (y : ℕ). low dir y <ℤ low dir m) (sym same) lt)
      where
        lt_le : (a b : ℤ) → a <ℤ b → a ≤ℤ b
        lt_le a b h = grind (arith, ints)

        never : (a : ℤ) → a <ℤ a → ⊥
        never a h = absurd (omega (arith, ints, h))

    pub least_in_tree : IsLeast (tree_rows leaves c) k x
    least_in_tree = record {
      above = least_there.above;
      there = λ none.
          let found : value_at (tree_rows leaves c) x ≡ Some (value c l place_there.0) = value_at_tree leaves c v x ∙ ap (value_in c x) (leaf_is leaves c v l x leaf_facts.0 covers_x) ∙ ap (value_there (value c l)) place_there.1 in
          let z : Some (value c l place_there.0) ≡ None = sym found ∙ none in absurd (cc);
      least = λ q le lt. value_at_tree leaves c v q ∙ by_option (value_in c q (leaf_of leaves dir q) ≡ None) (leaf_of leaves dir q)
          (λ none. ap (value_in c q) none)
          (λ m there.
          let g : (m < leaves) × (covers dir q q m ≡ true) = leaf_has leaves c v m q there in
          let r : HasRange dir q q m = covers_has dir q q m g.1 in
          let place : place_of (keys c m) q ≡ None = elim (f.each m (leaf_listed m q le there)) [
            | inl above ↦ absurd (not_above m g.0 r.live (le_trans (low dir m) q x r.from (true_le q x (lt_le q x lt))) above)
            | inr passed ↦ elim passed.0 [
              | inl same ↦ subst (λ (y : ℕ). place_of (keys c y) q ≡ None) (sym same) (key_none l q leaf_facts.0 leaf_facts.1 (least_there.least q le lt))
              | inr none ↦ none_in m q g.0 r.live none le
            ]
          ] in
          ap (value_in c q) there ∙ ap (value_there (value c m)) place);
    } where
      lt_le : (a b : ℤ) → a <ℤ b → a ≤ℤ b
      lt_le a b h = grind (arith, ints)

    -- each leaf that meets k to x was read
    found_read : (m : ℕ) → IsIn m (leaves_between leaves dir k x) → IsRead whole c (key_part m)
    found_read m i =
        let h : (m < leaves) × (is_live dir m ≡ true) × (meets dir k x m ≡ true) = listed_meets leaves dir v.ranges k x m i in
        let b : (int_le (low dir m) x ≡ true) × (int_le k (high dir m) ≡ true) = both_true (int_le (low dir m) x) (int_le k (high dir m)) (both_true (is_live dir m) (int_le (low dir m) x && int_le k (high dir m)) h.2).1 in
        let wide : meets dir k greatest m ≡ true = and_true (is_live dir m) (int_le (low dir m) greatest && int_le k (high dir m)) h.1 (and_true (int_le (low dir m) greatest) (int_le k (high dir m)) (le_fits (low dir m) (fits_at c 1 (3 * m + 1) v.fits)) b.1) in
        elim (f.each m (meets_listed leaves dir v.ranges k greatest m h.0 wide)) [
          | inl above ↦ absurd (not_above m h.0 h.1 b.0 above)
          | inr passed ↦ inr passed.1
        ]

    found_same : (e : Parts) → IsTree leaves e → Agrees e (all_between leaves dir k x) c → least_from (tree_rows leaves e) k ≡ least_from (tree_rows leaves c) k
    found_same e te ag =
        let same : SameSeen leaves false k x e c = same_seen leaves c t false k x fits_k fits_x e te ag in
        let at : (q : ℤ) → k ≤ℤ q → q ≤ℤ x → bare_value (value_at (tree_rows leaves e) q) ≡ bare_value (value_at (tree_rows leaves c) q) = λ q h j. same q (and_true (int_le k q) (int_le q x) (true_le k q h) (true_le q x j)) in
        let there : IsLeast (tree_rows leaves e) k x = record {
          above = least_there.above;
          there = λ none. least_in_tree.there (bare_none (value_at (tree_rows leaves c) x) (sym (at x least_there.above (le_true x x (le_same x))) ∙ ap bare_value none));
          least = λ q h j. bare_none (value_at (tree_rows leaves e) q) (at q h (lt_le q x j) ∙ ap bare_value (least_in_tree.least q h j));
        } in
        least_is (tree_rows leaves e) k x (gathered_rises (tree_slot e) (8 * leaves)) there ∙ sym (least_is (tree_rows leaves c) k x (gathered_rises (tree_slot c) (8 * leaves)) least_in_tree)
      where
        lt_le : (a b : ℤ) → a <ℤ b → a ≤ℤ b
        lt_le a b h = grind (arith, ints)

    pub found_observation : (b : ℤ) → IsObservation leaves (call_of 0 Next k b) whole c
    found_observation b =
        observation_by leaves (call_of 0 Next k b) whole c (all_between leaves dir k x) [] f.said (next_updates dir ls c) within
        (read_each_of whole c (leaf_seen dir k x) (leaves_between leaves dir k x) (λ m i. (inl refl, (inl refl, (inl refl, (found_read m i, tt))))))
        (inside leaves c t false k x fits_k fits_x)
        (holds leaves c t false k x fits_k fits_x)
        (λ e te ag. (ap value_or_absent (found_same e te ag), next_updates (directory e) (leaves_between leaves (directory e) k greatest) e))

  module _ (p : Passed ls) where
    all_none : (q : ℤ) → k ≤ℤ q → value_at (tree_rows leaves c) q ≡ None
    all_none q le =
        value_at_tree leaves c v q ∙ by_option (value_in c q (leaf_of leaves dir q) ≡ None) (leaf_of leaves dir q)
        (λ none. ap (value_in c q) none)
        (λ m there.
        let g : (m < leaves) × (covers dir q q m ≡ true) = leaf_has leaves c v m q there in
        let r : HasRange dir q q m = covers_has dir q q m g.1 in
        ap (value_in c q) there ∙ ap (value_there (value c m)) (none_in m q g.0 r.live (p.each m (leaf_listed m q le there)).0 le))

    none_same : (e : Parts) → IsTree leaves e → Agrees e (all_between leaves dir k greatest) c → (q : ℤ) → k ≤ℤ q → value_at (tree_rows leaves e) q ≡ None
    none_same e te ag q le =
        let same : SameSeen leaves false k greatest e c = same_seen leaves c t false k greatest fits_k greatest_fits e te ag in
        by_test (int_le q greatest)
        (λ h. bare_none (value_at (tree_rows leaves e) q) (same q (and_true (int_le k q) (int_le q greatest) (true_le k q le) h) ∙ ap bare_value (all_none q le)))
        (λ h. value_at_tree leaves e te.shaped q ∙ by_option (value_in e q (leaf_of leaves (directory e) q) ≡ None) (leaf_of leaves (directory e) q)
        (λ none. ap (value_in e q) none)
        (λ m there.
        let g : (m < leaves) × (covers (directory e) q q m ≡ true) = leaf_has leaves e te.shaped m q there in
        let r : HasRange (directory e) q q m = covers_has (directory e) q q m g.1 in
        let z : true ≡ false = sym (le_trans q (high (directory e) m) greatest r.to (le_fits (high (directory e) m) (fits_at e 1 (3 * m + 2) te.shaped.fits))) ∙ h in
        absurd (cc)))

    pub passed_observation : (b : ℤ) → IsObservation leaves (call_of 0 Next k b) whole c
    passed_observation b =
        observation_by leaves (call_of 0 Next k b) whole c (all_between leaves dir k greatest) [] p.said (next_updates dir ls c) within
        (read_each_of whole c (leaf_seen dir k greatest) ls (λ m i. (inl refl, (inl refl, (inl refl, (inr (p.each m i).1, tt))))))
        (inside leaves c t false k greatest fits_k greatest_fits)
        (holds leaves c t false k greatest fits_k greatest_fits)
        (λ e te ag. (
          ap value_or_absent
              (least_absent (tree_rows leaves e) k (gathered_rises (tree_slot e) (8 * leaves)) (none_same e te ag) ∙ sym (least_absent (tree_rows leaves c) k (gathered_rises (tree_slot c) (8 * leaves)) all_none)),
          next_updates (directory e) (leaves_between leaves (directory e) k greatest) e,
        ))

  -- the key that the search finds is the one that the rows have
  pub next_is : least_from (tree_rows leaves c) k ≡ first_in ls
  next_is = elim (outcome ls ls_rise) [
    | inl f ↦ least_is (tree_rows leaves c) k (x f) (gathered_rises (tree_slot c) (8 * leaves)) (least_in_tree f) ∙ sym f.first
    | inr p ↦ least_absent (tree_rows leaves c) k (gathered_rises (tree_slot c) (8 * leaves)) (all_none p) ∙ sym p.first
  ]

  pub next_lawful_in : (b : ℤ) → IsCallLawful leaves (call_of 0 Next k b) c
  next_lawful_in b = record {
    observation = elim (outcome ls ls_rise) [ inl f ↦ found_observation f b | inr p ↦ passed_observation p b ];
    updated = subst (λ es. IsUpdated (tree_meaning leaves) (call_of 0 Next k b) c es) (sym (next_updates dir ls c)) (record { ordered = (tt, tt); owned = tt; widths = tt; valid = t; rows = refl; writes = writes_none (least_from (tree_rows leaves c) k) });
  } where
    writes_none : (o : Option ℤ) → is_write Next (value_or_absent o) ≡ false
    writes_none None = refl
    writes_none (Some x) = refl

pub next_lawful : (leaves : ℕ) (c : Parts) → IsTree leaves c → (k b : ℤ) → FitsSigned w64 k → IsCallLawful leaves (call_of 0 Next k b) c
next_lawful leaves c t k b fits = next_lawful_in leaves c t k fits b
