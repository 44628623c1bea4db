-- What a status says of a call whose words are a command.
use Rattle.std.proofs.Common.{◌≡◌, ℕ, List, Option, Some, Result, Ok, Err, arith}
use Rattle.sto_console.specs.declared.refusal.Refusal.{Refusal}
use Rattle.sto_console.specs.declared.refusal.Refusal.TheVariants.{Usage, Input, ReadFault, WriteFault, NoMemory}
use Rattle.sto_console.specs.Programs.{Program}
use Rattle.sto_console.specs.Ends.{Ends}
use Rattle.sto_console.specs.Statuses.{status_of}
use Rattle.sto_cli.specs.declared.told.Answer.{Answer}
use Rattle.sto_cli.specs.declared.told.Answer.TheVariants.{Done, Found}
use Rattle.sto_cli.specs.Programs.{answer_status}

module _ {C : Type 0} (p : Program C Answer) (command : C) (left rest held now : Option (List ℕ)) where
  pub no_usage : (outcome : Result Answer Refusal) → 2 ≡ status_of answer_status outcome → Ends p outcome (Some command) left rest held now → ⊥
  no_usage (Ok Done) status ends = omega (arith, status)
  no_usage (Ok Found) status ends = omega (arith, status)
  no_usage (Err Usage) status ends = let none = ends.0 in absurd cc
  no_usage (Err (Input fault)) status ends = omega (arith, status)
  no_usage (Err ReadFault) status ends = omega (arith, status)
  no_usage (Err WriteFault) status ends = omega (arith, status)
  no_usage (Err NoMemory) status ends = omega (arith, status)

  pub not_written : (outcome : Result Answer Refusal) → 3 ≡ status_of answer_status outcome → Ends p outcome (Some command) left rest held now → now ≡ held
  not_written (Ok Done) status ends = absurd (omega (arith, status))
  not_written (Ok Found) status ends = absurd (omega (arith, status))
  not_written (Err Usage) status ends = absurd (omega (arith, status))
  not_written (Err (Input fault)) status ends = ends.1
  not_written (Err ReadFault) status ends = absurd (omega (arith, status))
  not_written (Err WriteFault) status ends = absurd (omega (arith, status))
  not_written (Err NoMemory) status ends = absurd (omega (arith, status))
