-- What is said of a report, and why nothing is.
use Rattle.std.specs.Prelude.{◌≡◌, ℕ, List, Ok, Err}
use Rattle.sto_lang.specs.Scripts.{File}
use Rattle.sto_checker.specs.Lawful.{IsLawful}
use Rattle.sto_checker.specs.declared.found.Found.{Found}
use Rattle.sto_checker.specs.declared.found.Found.TheVariants.{Lawful}
use Rattle.sto_checker.specs.Answer.{IsFound}
use Rattle.sto_checker.specs.Exact.{IsRightReport, UpdatesAlone, touching_all, UpdatesWritten}
use Rattle.sto_run.specs.Meanings.{updating_by}
use Rattle.sto_run.specs.Stores.{means}
use Rattle.sto_check_cli.specs.Inputs.{Input, input_of}
use Rattle.sto_console.specs.declared.refusal.Refusal.{Refusal}
use Rattle.sto_console.specs.declared.refusal.Refusal.TheVariants.{Usage, ReadFault, WriteFault, NoMemory}
use Rattle.sto_console.specs.declared.refusal.Refusal.TheVariants as refusals

-- the answer for a report, which no other is; each text that is lawful by what the types of objects say is found so, and by what any
-- types say that update only objects that were written, whatever part they let a call touch; and what is found so is the report of an
-- order of the file
pub record IsJudged (file : File) (tries : ℕ) (report : List ℕ) (found : Found) : Type 0 where
  pub is : IsFound file tries report found
  pub only : (other : Found) → IsFound file tries report other → other ≡ found
  pub complete : IsLawful (updating_by means) file tries report → found ≡ Lawful
  pub complete_for : (u : UpdatesAlone) → UpdatesWritten (touching_all u) file → IsLawful (touching_all u) file tries report → found ≡ Lawful
  pub right : found ≡ Lawful → IsRightReport file tries report

-- the same of the report in what was read
pub record IsFoundIn (tries : ℕ) (bytes : List ℕ) (found : Found) : Type 0 where
  pub input : Input
  pub reads : input_of bytes ≡ Ok input
  pub judged : IsJudged input.file tries input.report found

-- why nothing was found of what was read: the fault that is told is its own, and want of memory may come at any time
abbrev pub IsInputRefusal : Refusal → List ℕ → Type 0
IsInputRefusal (refusals.Input fault) bytes = input_of bytes ≡ Err fault
IsInputRefusal NoMemory bytes = Unit {0}
IsInputRefusal Usage bytes = ⊥
IsInputRefusal ReadFault bytes = ⊥
IsInputRefusal WriteFault bytes = ⊥
