-- The rows of a generated file's objects.
use Rattle.std.proofs.Common.{◌≡◌, ℕ, ◌≤◌, ◌<◌, List, [], ◌∷◌, length, map, ap, arith, Option, Some, unwrap_or, slice_get}
use Rattle.std.proofs.lemmas.List.Elements.{All-head, All-tail}
use Rattle.sto_model.specs.Rows.{Row}
use Rattle.sto_model.specs.Run.{State}
use Rattle.sto_lang.specs.declared.file.Decl.{Decl}
use Rattle.sto_lang.specs.Objects.{Declaration}
use Rattle.sto_lang.specs.Views.{declaration}
use Rattle.sto_report_spec.specs.Report.{rows_of}
use Rattle.sto_gen.specs.Generated.{objects}
use Rattle.sto_journal.specs.Journals.{HaveRows}

pub rows_are : (state : State) (object : ℕ) (rows : List Row) → slice_get state object ≡ Some rows → rows_of state object ≡ rows
rows_are state object rows e = ap (λ (o : Option (List Row)). unwrap_or o []) e

-- the last number of four declarations
abbrev fourth : List Declaration → ℕ
fourth (a ∷ b ∷ c ∷ d ∷ others) = d.number
fourth others = 0

-- a state with rows for the objects of a generated file has rows of four
pub have_four : (state : State) (decls : List Decl) → map declaration decls ≡ objects → HaveRows state decls → 4 ≤ length state
have_four state [] e h = absurd cc
have_four state (a ∷ []) e h = absurd cc
have_four state (a ∷ b ∷ []) e h = absurd cc
have_four state (a ∷ b ∷ c ∷ []) e h = absurd cc
have_four state (a ∷ b ∷ c ∷ d ∷ decls) e h =
    let P : Decl → Type 0 = λ x. x.number < length state in
    let n : d.number ≡ 3 = ap fourth e in
    let below = All-head P d decls (All-tail P c (d ∷ decls) (All-tail P b (c ∷ d ∷ decls) (All-tail P a (b ∷ c ∷ d ∷ decls) h))) in
    omega (arith, n, below)
