-- What is known of a call by what was found, and which calls find it.
use Rattle.std.specs.Prelude.{◌≡◌, ℕ, List, Option, Ok}
use Rattle.sto_args.specs.declared.asked.Checking.{Checking}
use Rattle.sto_checker.specs.declared.found.Found.{Found}
use Rattle.sto_checker.specs.declared.found.Found.TheVariants.{Not}
use Rattle.sto_checker.specs.Answer.{IsFound}
use Rattle.sto_console.specs.Outcomes.{IsDone, IsTold}
use Rattle.sto_check_cli.specs.Inputs.{Input, input_of}
use Rattle.sto_check_cli.specs.Programs.{program}

-- the words ask something, and a line with which the report goes wrong was found and is told
abbrev pub IsWrong : Option Checking → Option (List ℕ) → Option (List ℕ) → Option (List ℕ) → Option (List ℕ) → Type 0
IsWrong asked left rest held now = (line : ℕ) × IsDone program (Not line) asked left rest held now

-- the words ask something, the bytes are told to the end of the call, and this is the answer for the report in them
abbrev pub IsToldFound : Found → Option Checking → Option (List ℕ) → Option (List ℕ) → Type 0
IsToldFound found asked left rest = IsTold asked left rest (λ a bytes. (input : Input) × (input_of bytes ≡ Ok input) × IsFound input.file a.tries input.report found)
