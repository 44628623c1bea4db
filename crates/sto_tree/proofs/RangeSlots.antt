-- The rows of a range, slot by slot.
use Rattle.std.proofs.Common.{◌≡◌, ◌<◌, ◌*◌, ◌/◌, ◌%◌, ℕ, zero, suc, ℤ, Bool, true, false, ◌&&◌, if◌then◌else◌, Option, Some, None, List, refl, sym, ◌∙◌, ap, arith}
use Rattle.std.specs.Ordering.{int_eq}
use Rattle.sto_model.specs.Rows.{Row, IsRising, value_at, with_row, rows_between}
use Rattle.sto_model.proofs.RowFacts.{by_test, same_of, equal_of, IsRising-with_row}
use Rattle.sto_model.proofs.Maps.{same_maps, value_at-with_row_same, value_at-with_row_other}
use Rattle.sto_type.specs.Known.{Parts}
use Rattle.sto_tree.specs.Slots.{Slots, gathered, with_slot}
use Rattle.sto_tree.specs.SlotFacts.{gathered_rises}
use Rattle.sto_tree.specs.Layout.{directory, keys, value, key, is_live, is_present, covers, slot_of, tree_slot, tree_rows}
use Rattle.sto_tree.specs.Valid.{IsShaped}
use Rattle.sto_tree.specs.Between.{meets}
use Rattle.sto_tree.specs.Tests.{both_true}
use Rattle.sto_tree.specs.RowsBetween.{lies, value_at-between, value_at-beyond, IsRising-between, same_between}
use Rattle.sto_tree.specs.LeavesBetween.{leaf_meets}

-- a row whose key lies from a to b, and no other
abbrev pub kept : ℤ → ℤ → Option Row → Option Row
kept a b None = None
kept a b (Some r) = if lies a b r.0 then Some r else None

module _ (a b : ℤ) where
  pub kept_in : (r : Row) → lies a b r.0 ≡ true → kept a b (Some r) ≡ Some r
  kept_in r e = rw e refl

  pub kept_out : (r : Row) → lies a b r.0 ≡ false → kept a b (Some r) ≡ None
  kept_out r e = rw e refl

  -- a row whose key lies in the range
  more_in : (rows : List Row) (r : Row) → IsRising rows → lies a b r.0 ≡ true → rows_between (with_row rows r.0 r.1) a b ≡ with_row (rows_between rows a b) r.0 r.1
  more_in rows r h e =
      let g : IsRising (rows_between rows a b) = IsRising-between rows a b h in
      same_maps (rows_between (with_row rows r.0 r.1) a b) (with_row (rows_between rows a b) r.0 r.1)
      (IsRising-between (with_row rows r.0 r.1) a b (IsRising-with_row rows r.0 r.1 h)) (IsRising-with_row (rows_between rows a b) r.0 r.1 g)
      (λ q. by_test (int_eq r.0 q)
      (λ same.
      let s : r.0 ≡ q = same_of r.0 q same in
      ap (value_at (rows_between (with_row rows r.0 r.1) a b)) (sym s) ∙ value_at-between (with_row rows r.0 r.1) a b r.0 e ∙ value_at-with_row_same rows r.0 r.1
      ∙ sym (value_at-with_row_same (rows_between rows a b) r.0 r.1) ∙ ap (value_at (with_row (rows_between rows a b) r.0 r.1)) s)
      (λ differ.
      let other : r.0 ≡ q → ⊥ = λ s. let z : true ≡ false = sym (equal_of r.0 q s) ∙ differ in absurd (cc) in
      by_test (lies a b q)
      (λ f. value_at-between (with_row rows r.0 r.1) a b q f ∙ value_at-with_row_other rows r.0 r.1 q other ∙ sym (value_at-between rows a b q f) ∙ sym (value_at-with_row_other (rows_between rows a b) r.0 r.1 q other))
      (λ f. value_at-beyond (with_row rows r.0 r.1) a b q f ∙ sym (value_at-beyond rows a b q f) ∙ sym (value_at-with_row_other (rows_between rows a b) r.0 r.1 q other))))

  -- one whose key does not
  more_out : (rows : List Row) (r : Row) → IsRising rows → lies a b r.0 ≡ false → rows_between (with_row rows r.0 r.1) a b ≡ rows_between rows a b
  more_out rows r h e =
      same_between (with_row rows r.0 r.1) rows a b (IsRising-with_row rows r.0 r.1 h) h
      (λ q f. value_at-with_row_other rows r.0 r.1 q (λ s. let z : true ≡ false = sym f ∙ ap (lies a b) (sym s) ∙ e in absurd (cc)))

  slot_more : (rows : List Row) (o : Option Row) → IsRising rows → rows_between (with_slot rows o) a b ≡ with_slot (rows_between rows a b) (kept a b o)
  slot_more rows None h = refl
  slot_more rows (Some r) h =
      by_test (lies a b r.0)
      (λ e. more_in rows r h e ∙ ap (with_slot (rows_between rows a b)) (sym (kept_in r e)))
      (λ e. more_out rows r h e ∙ ap (with_slot (rows_between rows a b)) (sym (kept_out r e)))

  pub between_gathered : (s : Slots) (n : ℕ) → rows_between (gathered s n) a b ≡ gathered (λ j. kept a b (s j)) n
  between_gathered s zero = refl
  between_gathered s (suc n) = slot_more (gathered s n) (s n) (gathered_rises s n) ∙ ap (λ rows. with_slot rows (kept a b (s n))) (between_gathered s n)

  -- the rows of a range of a tree
  pub tree_between : (leaves : ℕ) (d : Parts) → rows_between (tree_rows leaves d) a b ≡ gathered (λ j. kept a b (tree_slot d j)) (8 * leaves)
  tree_between leaves d = between_gathered (tree_slot d) (8 * leaves)

  -- a leaf that does not meet the range has none of these rows
  pub kept_elsewhere : (leaves : ℕ) (d : Parts) → IsShaped leaves d → (j : ℕ) → j < 8 * leaves → meets (directory d) a b (j / 8) ≡ false → kept a b (tree_slot d j) ≡ None
  kept_elsewhere leaves d v j h apart =
      let l : ℕ = j / 8 in
      let i : ℕ = j % 8 in
      let live : Bool = is_live (directory d) l in
      let present : Bool = is_present (keys d l) i in
      let k : ℤ = key (keys d l) i in
      by_test (live && present)
      (λ e.
      let both : (live ≡ true) × (present ≡ true) = both_true live present e in
      let inside : covers (directory d) k k l ≡ true = v.inside l i (omega (arith, h)) (omega arith) both.0 both.1 in
      by_test (lies a b k)
      (λ f. let z : true ≡ false = sym (leaf_meets leaves (directory d) v.ranges a b l k f inside) ∙ apart in absurd (cc))
      (λ f. ap (λ u. kept a b (slot_of u k (value d l i))) e ∙ kept_out (k, value d l i) f))
      (λ e. ap (λ u. kept a b (slot_of u k (value d l i))) e)
