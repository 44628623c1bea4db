-- What a leaf of a scan needs, where the values of its keys are known.
use Rattle.std.proofs.Common.{◌≡◌, ◌<◌, ℕ, ℤ, pos, Bool, true, false, ◌&&◌, Some, None, List, [], ◌∷◌, map, int_le, refl, ◌∙◌, ap}
use Rattle.std.specs.Prelude.{if◌then◌else◌, unwrap_or}
use Rattle.std.specs.Ordering.{int_eq}
use Rattle.sto_model.specs.Rows.{Row, rows_between}
use Rattle.sto_type.specs.Known.{Known}
use Rattle.sto_type.specs.Reading.{when_known}
use Rattle.sto_tree.specs.Layout.{key_part, value_part, is_present, key, holds_key, place_of, place_slot}
use Rattle.sto_tree.specs.Tests.{both_true, and_true, true_equal, slot_some}
use Rattle.sto_tree.specs.Searches.{first_some, first_found}
use Rattle.sto_tree.specs.Members.{AllRows, all_gathered}
use Rattle.sto_tree.specs.Between.{key_rows, value_part_of, values_between, leaf_values}
use Rattle.sto_tree.specs.Walked.{first_unknown, leaf_need, AreValuesKnown}
use Rattle.sto_tree.proofs.Walks.{unknown_past}

one_between : (P : Row → Type 0) (r : Row) (rest : List Row) (b : Bool) → P r → AllRows P rest → AllRows P (if b then r ∷ rest else rest)
one_between P r rest true h all = (h, all)
one_between P r rest false h all = all

-- rows of a range are rows
all_between : (P : Row → Type 0) (rows : List Row) (x y : ℤ) → AllRows P rows → AllRows P (rows_between rows x y)
all_between P [] x y all = tt
all_between P (r ∷ rows) x y all = one_between P r (rows_between rows x y) (int_le x r.0 && int_le r.0 y) all.0 (all_between P rows x y all.1)

none_unknown : (k : Known) (P : Row → Type 0) (g : Row → ℕ) (rows : List Row) → ((r : Row) → P r → (ws : List ℤ) × (k (g r) ≡ Some ws)) → AllRows P rows → first_unknown k (map g rows) ≡ None
none_unknown k P g [] f all = refl
none_unknown k P g (r ∷ rows) f all = unknown_past k (g r) (map g rows) (f r all.0).0 (f r all.0).1 ∙ none_unknown k P g rows f all.1

-- a row of a key
abbrev IsKeyRow : List ℤ → Row → Type 0
IsKeyRow ks r = (i : ℕ) × (i < 8) × (is_present ks i ≡ true) × (key ks i ≡ r.0)

key_rows_present : (ks : List ℤ) → AllRows (IsKeyRow ks) (key_rows ks)
key_rows_present ks = all_gathered (IsKeyRow ks) (place_slot ks (λ i. pos 0)) 8 (λ i r l e.
    let s = slot_some (is_present ks i) (key ks i) (pos 0) r e in
    (i, l, s.0, s.1))

module _ (k : Known) (l : ℕ) (ks : List ℤ) (all : AreValuesKnown k l ks 8) where
  value_there : (r : Row) → IsKeyRow ks r → (ws : List ℤ) × (k (value_part_of l ks r.0) ≡ Some ws)
  value_there r h =
      let f : (j : ℕ) × (place_of ks r.0 ≡ Some j) = first_found (holds_key ks r.0) 8 h.0 h.1 (and_true (is_present ks h.0) (int_eq (key ks h.0) r.0) h.2 (true_equal (key ks h.0) r.0 h.3)) in
      let s : (f.0 < 8) × (holds_key ks r.0 f.0 ≡ true) = first_some (holds_key ks r.0) 8 f.0 f.1 in
      let w : (ws : List ℤ) × (k (value_part l f.0) ≡ Some ws) = all f.0 s.0 (both_true (is_present ks f.0) (int_eq (key ks f.0) r.0) s.1).0 in
      (w.0, ap (λ o. k (value_part l (unwrap_or o 0))) f.1 ∙ w.1)

  pub values_known : (x y : ℤ) → first_unknown k (values_between l ks x y) ≡ None
  values_known x y = none_unknown k (IsKeyRow ks) (λ r. value_part_of l ks r.0) (rows_between (key_rows ks) x y) value_there (all_between (IsKeyRow ks) (key_rows ks) x y (key_rows_present ks))

-- nothing is needed of a leaf whose values are known
pub leaf_known : (k : Known) (s : Bool) (dir : List ℤ) (a b : ℤ) (l : ℕ) (ks : List ℤ) → k (key_part l) ≡ Some ks → first_unknown k (leaf_values s dir a b ks l) ≡ None → leaf_need k s dir a b l ≡ None
leaf_known k s dir a b l ks some e = ap (λ o. when_known o (Some (key_part l)) (λ xs. first_unknown k (leaf_values s dir a b xs l))) some ∙ e
