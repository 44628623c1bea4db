-- The rows of a range are those that are known, once its leaves and their values are.
use Rattle.std.proofs.Common.{◌≡◌, ◌<◌, ◌*◌, ◌/◌, ◌%◌, ℕ, zero, suc, ℤ, pos, Bool, ◌&&◌, if◌then◌else◌, true, false, Option, Some, None, List, [], ◌∷◌, map, length, int_lt, refl, sym, ◌∙◌, ap, arith}
use Rattle.std.specs.Ordering.{int_eq}
use Rattle.std.proofs.lemmas.List.{length-map}
use Rattle.sto_model.specs.Rows.{Row, with_row, rows_between}
use Rattle.sto_model.specs.PlainReplies.{Value, Pairs}
use Rattle.sto_model.proofs.RowFacts.{by_test, with_row-below, with_row-same, with_row-above}
use Rattle.sto_part.specs.Parts.{part_of}
use Rattle.sto_type.specs.Known.{Parts, Known, IsPartOf}
use Rattle.sto_tree.specs.Slots.{Slots, gathered, with_slot}
use Rattle.sto_tree.specs.SlotFacts.{gathered_same}
use Rattle.sto_tree.specs.Layout.{directory, keys, value, key, key_part, value_part, is_live, is_present, word, slot_of, tree_slot, tree_rows}
use Rattle.sto_tree.specs.Valid.{IsTree}
use Rattle.sto_tree.specs.Between.{meets}
use Rattle.sto_tree.specs.RowsBetween.{lies, bare}
use Rattle.sto_tree.specs.Tests.{both_true}
use Rattle.sto_tree.specs.KnownRows.{known_slot, known_place, known_value, known_rows}
use Rattle.sto_tree.specs.Walked.{told_of}
use Rattle.sto_tree.proofs.Parts.{known_part}
use Rattle.sto_tree.proofs.RangeSlots.{kept, kept_in, kept_out, between_gathered, tree_between, kept_elsewhere}

-- the key parts of all leaves that meet the range are known, and for a scan the values of their keys in the range
pub record AreKnown (leaves : ℕ) (k : Known) (dir : List ℤ) (a b : ℤ) (scans : Bool) : Type 0 where
  pub directory : k 1 ≡ Some dir
  pub keys : (l : ℕ) → l < leaves → meets dir a b l ≡ true → (ks : List ℤ) × (k (key_part l) ≡ Some ks)
  pub values : (l i : ℕ) (ks : List ℤ) → scans ≡ true → l < leaves → i < 8 → meets dir a b l ≡ true → k (key_part l) ≡ Some ks → is_present ks i ≡ true → lies a b (key ks i) ≡ true → (ws : List ℤ) × (k (value_part l i) ≡ Some ws)

-- what a scan, or a count, looks at
abbrev pub seen_slot : Bool → Option Row → Option Row
seen_slot true o = o
seen_slot false None = None
seen_slot false (Some r) = Some (bare r)

abbrev pub seen_rows : Bool → List Row → List Row
seen_rows true rows = rows
seen_rows false rows = map bare rows

seen_one : (s : Bool) (k v w : ℤ) → (s ≡ true → v ≡ w) → seen_slot s (Some (k, v)) ≡ seen_slot s (Some (k, w))
seen_one true k v w h = ap (λ (x : ℤ). Some (k, x)) (h refl)
seen_one false k v w h = refl

seen_kept : (a b : ℤ) (s p : Bool) (k v w : ℤ) → (s ≡ true → p ≡ true → lies a b k ≡ true → v ≡ w) → seen_slot s (kept a b (slot_of p k v)) ≡ seen_slot s (kept a b (slot_of p k w))
seen_kept a b s false k v w h = refl
seen_kept a b s true k v w h =
    by_test (lies a b k)
    (λ e. ap (seen_slot s) (kept_in a b (k, v) e) ∙ seen_one s k v w (λ t. h t refl e) ∙ sym (ap (seen_slot s) (kept_in a b (k, w) e)))
    (λ e. ap (seen_slot s) (kept_out a b (k, v) e) ∙ sym (ap (seen_slot s) (kept_out a b (k, w) e)))

bare_with_row : (rows : List Row) (k v : ℤ) → map bare (with_row rows k v) ≡ with_row (map bare rows) k (pos 0)
bare_with_row [] k v = refl
bare_with_row (s ∷ rows) k v =
    by_test (int_lt s.0 k)
    (λ e. ap (map bare) (with_row-below s rows k v e) ∙ ap (λ l. bare s ∷ l) (bare_with_row rows k v) ∙ sym (with_row-below (bare s) (map bare rows) k (pos 0) e))
    (λ e. by_test (int_eq s.0 k)
    (λ f. ap (map bare) (with_row-same s rows k v e f) ∙ sym (with_row-same (bare s) (map bare rows) k (pos 0) e f))
    (λ f. ap (map bare) (with_row-above s rows k v e f) ∙ sym (with_row-above (bare s) (map bare rows) k (pos 0) e f)))

bare_with_slot : (rows : List Row) (o : Option Row) → map bare (with_slot rows o) ≡ with_slot (map bare rows) (seen_slot false o)
bare_with_slot rows None = refl
bare_with_slot rows (Some r) = bare_with_row rows r.0 r.1

seen_gathered : (s : Bool) (f : Slots) (n : ℕ) → seen_rows s (gathered f n) ≡ gathered (λ j. seen_slot s (f j)) n
seen_gathered true f n = refl
seen_gathered false f zero = refl
seen_gathered false f (suc n) = bare_with_slot (gathered f n) (f n) ∙ ap (λ l. with_slot l (seen_slot false (f n))) (seen_gathered false f n)

-- what is told of rows that look the same
pub told_same : (s : Bool) (xs ys : List Row) → seen_rows s xs ≡ seen_rows s ys → told_of s xs ≡ told_of s ys
told_same true xs ys e = ap Pairs e
told_same false xs ys e = ap (λ (n : ℕ). Value (pos n)) (sym (length-map xs bare) ∙ ap length e ∙ length-map ys bare)

module _ (leaves : ℕ) (k : Known) (dir : List ℤ) (a b : ℤ) (scans : Bool) (all : AreKnown leaves k dir a b scans) (d : Parts) (t : IsTree leaves d) (part : IsPartOf k d) where
  same_directory : directory d ≡ dir
  same_directory = known_part leaves k d 1 dir t part (omega arith) all.directory

  -- a leaf that meets the range is live
  meets_live : (l : ℕ) → meets dir a b l ≡ true → is_live (directory d) l ≡ true
  meets_live l e = ap (λ x. is_live x l) same_directory ∙ (both_true (is_live dir l) _ e).0

  slot_known : (j : ℕ) → j < 8 * leaves → meets dir a b (j / 8) ≡ true → seen_slot scans (kept a b (known_slot k dir a b j)) ≡ seen_slot scans (kept a b (tree_slot d j))
  slot_known j h e =
      let l : ℕ = j / 8 in
      let i : ℕ = j % 8 in
      let low : l < leaves = omega (arith, h) in
      let little : i < 8 = omega arith in
      let ks : (ks : List ℤ) × (k (key_part l) ≡ Some ks) = all.keys l low e in
      let same : keys d l ≡ ks.0 = known_part leaves k d (key_part l) ks.0 t part (omega (arith, low)) ks.1 in
      let live : is_live (directory d) l ≡ true = meets_live l e in
      let there : tree_slot d j ≡ slot_of (is_present ks.0 i) (key ks.0 i) (value d l i) =
      ap (λ u. slot_of (u && is_present (keys d l) i) (key (keys d l) i) (value d l i)) live ∙ ap (λ x. slot_of (is_present x i) (key x i) (value d l i)) same in
      let known : known_slot k dir a b j ≡ slot_of (is_present ks.0 i) (key ks.0 i) (known_value (k (value_part l i))) =
      ap (λ u. if u then known_place (k (key_part l)) i (known_value (k (value_part l i))) else None) e ∙ ap (λ o. known_place o i (known_value (k (value_part l i)))) ks.1 in
      ap (λ o. seen_slot scans (kept a b o)) known
      ∙ seen_kept a b scans (is_present ks.0 i) (key ks.0 i) (known_value (k (value_part l i))) (value d l i) (λ s p y.
      let ws : (ws : List ℤ) × (k (value_part l i) ≡ Some ws) = all.values l i ks.0 s low little e ks.1 p y in
      let v : part_of d (value_part l i) ≡ ws.0 = known_part leaves k d (value_part l i) ws.0 t part (omega (arith, low, little)) ws.1 in
      ap known_value ws.1 ∙ ap (λ xs. word xs 0) (sym v))
      ∙ sym (ap (λ o. seen_slot scans (kept a b o)) there)

  pub seen_same : (j : ℕ) → j < 8 * leaves → seen_slot scans (kept a b (known_slot k dir a b j)) ≡ seen_slot scans (kept a b (tree_slot d j))
  seen_same j h =
      by_test (meets dir a b (j / 8))
      (λ e. slot_known j h e)
      (λ e. ap (λ u. seen_slot scans (kept a b (if u then known_place (k (key_part (j / 8))) (j % 8) (known_value (k (value_part (j / 8) (j % 8)))) else None))) e
      ∙ none_seen scans ∙ sym (ap (seen_slot scans) (kept_elsewhere a b leaves d t.shaped j h (ap (λ x. meets x a b (j / 8)) same_directory ∙ e)) ∙ none_seen scans))
    where
      none_seen : (s : Bool) → seen_slot s None ≡ None
      none_seen true = refl
      none_seen false = refl

  -- what is told of the range
  pub same_range : told_of scans (rows_between (known_rows leaves k dir a b) a b) ≡ told_of scans (rows_between (tree_rows leaves d) a b)
  same_range =
      told_same scans (rows_between (known_rows leaves k dir a b) a b) (rows_between (tree_rows leaves d) a b)
      (ap (seen_rows scans) (between_gathered a b (known_slot k dir a b) (8 * leaves))
      ∙ seen_gathered scans (λ j. kept a b (known_slot k dir a b j)) (8 * leaves)
      ∙ gathered_same (λ j. seen_slot scans (kept a b (known_slot k dir a b j))) (λ j. seen_slot scans (kept a b (tree_slot d j))) (8 * leaves) seen_same
      ∙ sym (ap (seen_rows scans) (tree_between a b leaves d) ∙ seen_gathered scans (λ j. kept a b (tree_slot d j)) (8 * leaves)))
