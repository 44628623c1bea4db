-- What the program does with what its words ask.
use Rattle.std.specs.Prelude.{◌≡◌, ℕ, List, [], length, true, Ok}
use Rattle.sto_args.specs.declared.asked.Feeding.{Feeding}
use Rattle.sto_lang.specs.Files.{file_of}
use Rattle.sto_lang.specs.Scripts.{File}
use Rattle.sto_report_spec.specs.Lawful.{IsLawful}
use Rattle.sto_report_spec.specs.NamedAborts.{aborts_named}
use Rattle.sto_run.specs.Meanings.{updating_by}
use Rattle.sto_run.specs.Stores.{means}
use Rattle.sto_console.specs.Programs.{Program}
use Rattle.sto_console.specs.Faults.{IsScriptFault}
use Rattle.sto_console.specs.Workers.{workers_of}

-- a lawful report of the script that the bytes are, for the tries that are asked; it names no aborted attempt where one worker runs it
pub record IsFed (asked : Feeding) (bytes text : List ℕ) : Type 0 where
  pub file : File
  pub script : file_of bytes ≡ Ok file
  pub lawful : IsLawful (updating_by means) file asked.tries text
  pub alone : workers_of asked.threads (length file.threads) ≡ 1 → aborts_named file.names text ≡ []

-- it reads a script, and says no more than that all is done
abbrev pub feed_program : Program Feeding (Unit {0})
feed_program = record {
  reads = λ asked. true;
  HasFault = λ asked bytes fault. IsScriptFault bytes fault;
  IsAnswer = λ asked bytes done text. IsFed asked bytes text;
}
