-- The names that the code holds.
use Rattle.std.specs.Prelude.{ℕ, List}
use Rattle.sto_lang.specs.NameTables.{AreApart}
use Rattle.sto_lang.specs.declared.variables.Held.{Held}
use Rattle.sto_lang.specs.declared.variables.Held.TheVariants as held

-- those of a shared list or of a table
abbrev pub names_held : Held → List (List ℕ)
names_held (held.Shared names) = names
names_held (held.Own table) = table

-- a table itself keeps its names apart
abbrev pub AreHeld : Held → Type 0
AreHeld (held.Shared names) = AreApart names
AreHeld (held.Own table) = Unit {0}
