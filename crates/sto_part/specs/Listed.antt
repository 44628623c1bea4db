-- Lists as contracts see them.
use Rattle.std.specs.Prelude.{ℕ, List, refl, slice_set}
use Rattle.std.specs.Coded.{Coded, code_by, coded×, coded_ℕ, coded_list}

-- a list of the library as contracts see it: its items in order, and for how many more it has room
pub record Listed (X : Type 0) : Type 0 where
  pub items : List X
  pub spare : ℕ

-- such a list is stored as its items and its room
abbrev pub listed_code : {X : Type 0} → Coded X → Coded (Listed X)
listed_code c =
    code_by (List _ × ℕ) (coded× (coded_list c) coded_ℕ) (λ l. (l.items, l.spare)) (λ p. record { items = p.0; spare = p.1 }) (λ _. refl)

-- the list with one item set
abbrev pub with_item : {X : Type 0} → Listed X → ℕ → X → Listed X
with_item l i x = record l { items = slice_set l.items i x }
