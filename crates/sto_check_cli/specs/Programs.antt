-- What the program does with what its words ask.
use Rattle.std.specs.Prelude.{◌≡◌, ℕ, List, ◌++◌, codes, decimal, true, Err}
use Rattle.sto_args.specs.declared.asked.Checking.{Checking}
use Rattle.sto_checker.specs.declared.found.Found.{Found}
use Rattle.sto_checker.specs.declared.found.Found.TheVariants.{Lawful, Not}
use Rattle.sto_console.specs.Programs.{Program}
use Rattle.sto_check_cli.specs.Inputs.{input_of}
use Rattle.sto_check_cli.specs.Answers.{IsFoundIn}

-- the line of what was found
abbrev pub text_of : Found → List ℕ
text_of Lawful = codes "lawful\n"
text_of (Not line) = codes "line " ++ (decimal line ++ codes "\n")

-- the exit status of what was found
abbrev pub found_status : Found → ℕ
found_status Lawful = 0
found_status (Not line) = 1

-- it always reads a script and a report, and prints what is found of them
abbrev pub program : Program Checking Found
program = record {
  reads = λ asked. true;
  HasFault = λ asked bytes fault. input_of bytes ≡ Err fault;
  IsAnswer = λ asked bytes found text. IsFoundIn asked.tries bytes found × (text ≡ text_of found);
}
