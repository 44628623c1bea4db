-- Why no report was made, and that none is made of bytes with a fault.
use Rattle.std.proofs.Common.{◌≡◌, ◌<◌, ℕ, List, length, refl, Option}
use Rattle.sto_console.specs.Told.{Takes, AtEnd}
use Rattle.sto_args.specs.declared.asked.Feeding.{Feeding}
use Rattle.sto_console.specs.declared.refusal.InputFault.TheVariants.{Script, NoReport, LongTrace, LongRun, ManySchedules, ManyStates, Schedule, Question}
use Rattle.sto_console.specs.declared.refusal.Refusal.{Refusal}
use Rattle.sto_console.specs.declared.refusal.Refusal.TheVariants.{Usage, Input, ReadFault, WriteFault, NoMemory}
use Rattle.sto_console.specs.Ends.{IsFileRefusal, Unmade}
use Rattle.sto_console.proofs.Scripts.{told_fault}
use Rattle.sto_console.proofs.Causes.{IsExclusive}
use Rattle.sto_console.proofs.Faultless.{no_fault}
use Rattle.sto_feed_cli.specs.Programs.{feed_program}

-- the bytes that were taken are no script, or there is no memory
pub unmade : (asked : Feeding) (left rest : Option (List ℕ)) (taken : List ℕ) (refusal : Refusal) → Takes left rest taken
    → (length taken < 1048577 → AtEnd rest) → IsFileRefusal refusal taken → Unmade feed_program refusal asked left rest
unmade asked left rest taken (Input (Script fault)) t end e = (refl, told_fault left rest taken fault t end e)
unmade asked left rest taken (Input NoReport) t end e = absurd e
unmade asked left rest taken (Input LongTrace) t end e = absurd e
unmade asked left rest taken (Input LongRun) t end e = absurd e
unmade asked left rest taken (Input (ManySchedules counts)) t end e = absurd e
unmade asked left rest taken (Input (ManyStates count)) t end e = absurd e
unmade asked left rest taken (Input (Schedule kind)) t end e = absurd e
unmade asked left rest taken (Input (Question fault)) t end e = absurd e
unmade asked left rest taken NoMemory t end e = tt
unmade asked left rest taken Usage t end e = absurd e
unmade asked left rest taken ReadFault t end e = absurd e
unmade asked left rest taken WriteFault t end e = absurd e

pub exclusive : IsExclusive feed_program
exclusive = record { read = λ asked bytes fault h. refl; faultless = λ asked bytes fault done text own h f. no_fault bytes h.file fault h.script f }
