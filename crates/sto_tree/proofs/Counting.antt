-- The keys of a range that are counted in what is known are its rows.
use Rattle.std.proofs.Common.{◌≡◌, ◌<◌, ◌+◌, ◌*◌, ◌/◌, ◌%◌, ℕ, zero, suc, ℤ, pos, Bool, true, false, ◌&&◌, if◌then◌else◌, Option, Some, None, List, length, refl, sym, ◌∙◌, ap, arith}
use Rattle.sto_model.specs.Rows.{Row, rows_between}
use Rattle.sto_model.specs.PlainReplies.{Value}
use Rattle.sto_model.proofs.RowFacts.{by_test}
use Rattle.sto_type.specs.Known.{Parts, Known, IsPartOf}
use Rattle.sto_tree.specs.Slots.{Slots, held, count_held, AreApart}
use Rattle.sto_tree.specs.SlotFacts.{length-gathered}
use Rattle.sto_tree.specs.Layout.{key, key_part, value_part, is_present, slot_of, tree_slot}
use Rattle.sto_tree.specs.Valid.{IsTree}
use Rattle.sto_tree.specs.Between.{meets}
use Rattle.sto_tree.specs.Lookup.{tree_apart}
use Rattle.sto_tree.specs.RowsBetween.{lies, bare}
use Rattle.sto_tree.specs.KnownRows.{known_slot, known_place, known_value, known_rows}
use Rattle.sto_tree.specs.KnownCount.{is_counted, counted_keys, counted_part, counted_leaf, known_count, known_told}
use Rattle.sto_tree.specs.Walked.{told_of}
use Rattle.sto_tree.proofs.RangeSlots.{kept, kept_in, kept_out, between_gathered}
use Rattle.sto_tree.proofs.KnownRange.{AreKnown, seen_slot, seen_same}

-- the first slots and those after them
count_from : (s : Slots) (m n : ℕ) → count_held s (m + n) ≡ count_held (λ i. s (m + i)) n + count_held s m
count_from s m zero =
    let e : m + 0 ≡ m = omega arith in
    let f : count_held s (m + 0) ≡ count_held s m = ap (count_held s) e in
    omega (arith, f)
count_from s m (suc n) =
    let e : m + suc n ≡ suc (m + n) = omega arith in
    let f : count_held s (m + suc n) ≡ held (s (m + n)) + count_held s (m + n) = ap (count_held s) e in
    omega (arith, f, count_from s m n)

count_same : (s t : Slots) (n : ℕ) → ((j : ℕ) → j < n → s j ≡ t j) → count_held s n ≡ count_held t n
count_same s t zero all = refl
count_same s t (suc n) all =
    let here : held (s n) ≡ held (t n) = ap held (all n (omega arith)) in
    omega (arith, here, count_same s t n (λ j l. all j (omega (arith, l))))

count_none : (n : ℕ) → count_held (λ j. None) n ≡ 0
count_none zero = refl
count_none (suc n) = omega (arith, count_none n)

-- the places of a key part
held_kept : (p : Bool) (a b x v : ℤ) (c : ℕ) → held (kept a b (slot_of p x v)) + c ≡ (if p && lies a b x then suc c else c)
held_kept false a b x v c = omega arith
held_kept true a b x v c = by_test (lies a b x) (λ e. rw e (omega arith)) (λ e. rw e (omega arith))

keys_held : (ks : List ℤ) (a b : ℤ) (v : ℕ → ℤ) (n : ℕ) → count_held (λ i. kept a b (slot_of (is_present ks i) (key ks i) (v i))) n ≡ counted_keys ks a b n
keys_held ks a b v zero = refl
keys_held ks a b v (suc n) =
    held_kept (is_present ks n) a b (key ks n) (v n) (count_held (λ i. kept a b (slot_of (is_present ks i) (key ks i) (v i))) n)
    ∙ ap (λ (c : ℕ). if is_counted ks a b n then suc c else c) (keys_held ks a b v n)

part_held : (o : Option (List ℤ)) (a b : ℤ) (v : ℕ → ℤ) → count_held (λ i. kept a b (known_place o i (v i))) 8 ≡ counted_part o a b
part_held None a b v = count_none 8
part_held (Some ks) a b v = keys_held ks a b v 8

-- what a count looks at, in place i of leaf l
abbrev slot_at : Known → List ℤ → ℤ → ℤ → ℕ → ℕ → Option Row
slot_at k dir a b l i = kept a b (if meets dir a b l then known_place (k (key_part l)) i (known_value (k (value_part l i))) else None)

module _ (k : Known) (dir : List ℤ) (a b : ℤ) where
  abbrev slots : Slots
  slots j = kept a b (known_slot k dir a b j)

  leaf_held : (l : ℕ) → count_held (λ i. slots (8 * l + i)) 8 ≡ counted_leaf k dir a b l
  leaf_held l =
      count_same (λ i. slots (8 * l + i)) (slot_at k dir a b l) 8
      (λ i h.
      let q : (8 * l + i) / 8 ≡ l = omega (arith, h) in
      let r : (8 * l + i) % 8 ≡ i = omega (arith, h) in
      ap (λ (x : ℕ). slot_at k dir a b x ((8 * l + i) % 8)) q ∙ ap (λ (x : ℕ). slot_at k dir a b l x) r)
      ∙ by_test (meets dir a b l)
      (λ e. rw e (part_held (k (key_part l)) a b (λ i. known_value (k (value_part l i)))))
      (λ e. rw e (count_none 8))

  all_held : (n : ℕ) → count_held slots (8 * n) ≡ known_count n k dir a b
  all_held zero = refl
  all_held (suc n) =
      let e : 8 * suc n ≡ 8 * n + 8 = omega arith in
      let f : count_held slots (8 * suc n) ≡ count_held slots (8 * n + 8) = ap (count_held slots) e in
      omega (arith, f, count_from slots (8 * n) 8, leaf_held n, all_held n)

  -- a place whose key is seen is one of the tree
  abbrev key_in_slot : Option Row → ℤ
  key_in_slot None = pos 0
  key_in_slot (Some r) = r.0

  seen_back : (o : Option Row) (r : Row) → seen_slot false (Some r) ≡ seen_slot false (kept a b o) → (t : Row) × (o ≡ Some t) × (r.0 ≡ t.0)
  seen_back None r e = absurd (cc)
  seen_back (Some t) r e =
      by_test (lies a b t.0)
      (λ f. (t, refl, ap key_in_slot (e ∙ ap (seen_slot false) (kept_in a b t f))))
      (λ f. let z : Some (bare r) ≡ None = e ∙ ap (seen_slot false) (kept_out a b t f) in absurd (cc))

  module _ (leaves : ℕ) (all : AreKnown leaves k dir a b false) (d : Parts) (t : IsTree leaves d) (part : IsPartOf k d) where
    slots_apart : AreApart slots (8 * leaves)
    slots_apart i j r u li lj ei ej same =
        let x : (x : Row) × (tree_slot d i ≡ Some x) × (r.0 ≡ x.0) = seen_back (tree_slot d i) r (sym (ap (seen_slot false) ei) ∙ seen_same leaves k dir a b false all d t part i li) in
        let y : (y : Row) × (tree_slot d j ≡ Some y) × (u.0 ≡ y.0) = seen_back (tree_slot d j) u (sym (ap (seen_slot false) ej) ∙ seen_same leaves k dir a b false all d t part j lj) in
        tree_apart leaves d t.shaped i j x.0 y.0 li lj x.1 y.1 (sym x.2 ∙ same ∙ y.2)

    counted : length (rows_between (known_rows leaves k dir a b) a b) ≡ known_count leaves k dir a b
    counted = ap length (between_gathered a b (known_slot k dir a b) (8 * leaves)) ∙ length-gathered slots (8 * leaves) slots_apart ∙ all_held leaves

-- what is told of a range is told of its rows
pub told_known :
    (scans : Bool) (leaves : ℕ) (k : Known) (dir : List ℤ) (a b : ℤ) → AreKnown leaves k dir a b scans → (d : Parts) → IsTree leaves d → IsPartOf k d → known_told scans leaves k dir a b ≡ told_of scans (rows_between (known_rows leaves k dir a b) a b)
told_known true leaves k dir a b all d t part = refl
told_known false leaves k dir a b all d t part = ap (λ (n : ℕ). Value (pos n)) (sym (counted k dir a b leaves all d t part))
