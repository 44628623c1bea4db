-- Bytes that are a script have no fault of one.
use Rattle.std.proofs.Common.{◌≡◌, ◌<◌, ℕ, List, sym, ap, ◌∙◌, arith, true≢false, Ok}
use Rattle.std.specs.Result.{is_ok}
use Rattle.sto_lang.specs.Files.{file_of}
use Rattle.sto_lang.specs.Scripts.{File}
use Rattle.sto_console.specs.declared.refusal.InputFault.{InputFault}
use Rattle.sto_console.specs.declared.refusal.InputFault.TheVariants.{Script, NoReport, LongTrace, LongRun, ManySchedules, ManyStates, Schedule, Question}
use Rattle.sto_console.specs.Statuses.{done_status}
use Rattle.sto_console.specs.Faults.{IsScriptFault}

pub no_fault : (bytes : List ℕ) (file : File) (fault : InputFault) → file_of bytes ≡ Ok file → IsScriptFault bytes fault → ⊥
no_fault bytes file (Script fault) e f = true≢false (ap is_ok (sym e ∙ f))
no_fault bytes file NoReport e f = f
no_fault bytes file LongTrace e f = f
no_fault bytes file LongRun e f = f
no_fault bytes file (ManySchedules counts) e f = f
no_fault bytes file (ManyStates count) e f = f
no_fault bytes file (Schedule kind) e f = f
no_fault bytes file (Question fault) e f = f

pub few_statuses : (done : Unit {0}) → done_status done < 2
few_statuses done = omega arith
