-- What a program does with a command.
use Rattle.std.specs.Prelude.{ℕ, List, Bool}
use Rattle.sto_console.specs.declared.refusal.InputFault.{InputFault}

-- what the commands `C` of a program read, and how each answers by an `A` and a text
pub record Program (C A : Type 0) : Type 1 where
  -- whether it reads all that is left of its input; else it leaves that alone
  pub reads : C → Bool
  -- the input has this fault
  pub HasFault : C → List ℕ → InputFault → Type 0
  -- what it may answer for these bytes, and the text that it then prints; for none where it reads none
  pub IsAnswer : C → List ℕ → A → List ℕ → Type 0
