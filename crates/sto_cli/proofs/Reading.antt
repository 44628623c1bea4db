-- Why no text of a command that reads a script was made.
use Rattle.std.proofs.Common.{◌≡◌, ℕ, ◌<◌, List, ◌++◌, length, append-nil, refl, sym, ap, ◌∙◌, subst, Bool, true, Option, None, Ok, Err, true≢false}
use Rattle.sto_console.specs.Told.{Takes, AtEnd}
use Rattle.sto_lang.specs.Files.{file_of}
use Rattle.sto_lang.specs.Scripts.{File}
use Rattle.sto_lang.specs.declared.fault.ScriptFault.{ScriptFault}
use Rattle.sto_args.specs.declared.command.Command.{Command}
use Rattle.sto_args.specs.declared.command.Command.TheVariants.{Run, Step, Trace, Draw, Explore, Schedules, Upgrade, Gen, Bench, Help}
use Rattle.sto_console.specs.declared.refusal.InputFault.{InputFault}
use Rattle.sto_console.specs.declared.refusal.InputFault.TheVariants.{Script, NoReport, LongTrace, LongRun, ManySchedules, ManyStates, Schedule, Question}
use Rattle.sto_console.specs.declared.refusal.Refusal.{Refusal}
use Rattle.sto_console.specs.declared.refusal.Refusal.TheVariants.{Usage, Input, ReadFault, WriteFault, NoMemory}
use Rattle.sto_console.specs.Read.{IfTold}
use Rattle.sto_console.specs.Ends.{IsFileRefusal, Faulty, Unmade}
use Rattle.sto_console.proofs.Reading.{if_told}
use Rattle.sto_console.proofs.Scripts.{small_file, told_fault}
use Rattle.sto_draw.specs.Drawn.{IsTooLong}
use Rattle.sto_console.specs.declared.refusal.ScheduleCounts.{ScheduleCounts}
use Rattle.sto_cli.specs.Schedules.{IsScheduledFault}
use Rattle.sto_cli.specs.Traces.{HasLongRun, IsTraceFault, IsRunFault, NeverMany, IsRefusalFor}
use Rattle.sto_run_schedules.specs.Leading.{HasSomeLongRun}
use Rattle.sto_cli.specs.Explorations.{HasManySchedules}
use Rattle.sto_args.specs.declared.command.Asked.{Asked}
use Rattle.sto_args.specs.declared.command.By.{By}
use Rattle.sto_orders.specs.declared.same_by.SameBy.{SameBy}
use Rattle.sto_cli.specs.Orders.{same_by, IsOrdersFault}
use Rattle.sto_cli.specs.Outputs.{HasFault}
use Rattle.sto_cli.specs.Programs.{reads_script, program}

has_fault : (command : Command) → reads_script command ≡ true → (left rest : Option (List ℕ)) (fault : ScriptFault) → IfTold left rest (λ bytes. file_of bytes ≡ Err fault)
    → IfTold left rest (λ bytes. HasFault command bytes (Script fault))
has_fault (Run threads tries json) reads left rest fault h = h
has_fault (Step tries json schedule) reads left rest fault h = h
has_fault (Trace tries json schedule) reads left rest fault h = h
has_fault (Draw tries schedule) reads left rest fault h = h
has_fault (Explore by states json asked) reads left rest fault h = h
has_fault (Schedules switches tries json) reads left rest fault h = h
has_fault Upgrade reads left rest fault h = h
has_fault (Gen number) reads left rest fault h = absurd (true≢false (sym reads))
has_fault (Bench number threads) reads left rest fault h = absurd (true≢false (sym reads))
has_fault (Help page) reads left rest fault h = absurd (true≢false (sym reads))

-- the bytes that were taken are no script, or there is no memory
pub unmade : (command : Command) → reads_script command ≡ true → (left rest : Option (List ℕ)) (taken : List ℕ) (refusal : Refusal) → Takes left rest taken
    → (length taken < 1048577 → AtEnd rest) → IsFileRefusal refusal taken → Unmade program refusal command left rest
unmade command reads left rest taken (Input (Script fault)) t end e = (reads, has_fault command reads left rest fault (told_fault left rest taken fault t end e))
unmade command reads left rest taken (Input NoReport) t end e = absurd e
unmade command reads left rest taken (Input LongTrace) t end e = absurd e
unmade command reads left rest taken (Input LongRun) t end e = absurd e
unmade command reads left rest taken (Input (ManySchedules counts)) t end e = absurd e
unmade command reads left rest taken (Input (ManyStates count)) t end e = absurd e
unmade command reads left rest taken (Input (Schedule kind)) t end e = absurd e
unmade command reads left rest taken (Input (Question fault)) t end e = absurd e
unmade command reads left rest taken NoMemory t end e = tt
unmade command reads left rest taken Usage t end e = absurd e
unmade command reads left rest taken ReadFault t end e = absurd e
unmade command reads left rest taken WriteFault t end e = absurd e

-- what is so of a script that was read whole is so of all that was left
of_whole : (Q : List ℕ → Type 0) (file : File) (left rest : Option (List ℕ)) (taken : List ℕ) → Takes left rest taken → (length taken < 1048577 → AtEnd rest)
    → file_of taken ≡ Ok file → Q taken → IfTold left rest Q
of_whole Q file left rest taken t end reads h =
    if_told Q 1048577 left rest taken t end
    (λ more last f.
    let all : taken ++ more ≡ taken = ap (λ (xs : List ℕ). taken ++ xs) (last (small_file taken file reads)) ∙ append-nil taken in
    subst Q (sym all) f)
    h

module _ (schedule : Option (List ℕ)) (left rest : Option (List ℕ)) (taken : List ℕ) where
  -- a fault of a script that was read whole is one of all that was left
  told_scheduled : (fault : InputFault) → Takes left rest taken → (length taken < 1048577 → AtEnd rest) → IsScheduledFault schedule taken fault
      → IfTold left rest (λ bytes. IsScheduledFault schedule bytes fault)
  told_scheduled (Script fault) t end h = told_fault left rest taken fault t end h
  told_scheduled (Schedule kind) t end h = of_whole (λ (bytes : List ℕ). IsScheduledFault schedule bytes (Schedule kind)) h.script left rest taken t end h.reads h
  told_scheduled NoReport t end h = absurd h
  told_scheduled LongTrace t end h = absurd h
  told_scheduled LongRun t end h = absurd h
  told_scheduled (ManySchedules counts) t end h = absurd h
  told_scheduled (ManyStates count) t end h = absurd h
  told_scheduled (Question fault) t end h = absurd h

  told_run : (IsLong : File → Type 0) (IsMany : ScheduleCounts → File → Type 0) (fault : InputFault) → Takes left rest taken
      → (length taken < 1048577 → AtEnd rest) → IsRunFault IsLong IsMany schedule taken fault → IfTold left rest (λ bytes. IsRunFault IsLong IsMany schedule bytes fault)
  told_run IsLong IsMany (Script fault) t end h = told_scheduled (Script fault) t end h
  told_run IsLong IsMany (Schedule kind) t end h = told_scheduled (Schedule kind) t end h
  told_run IsLong IsMany NoReport t end h = absurd h
  told_run IsLong IsMany LongTrace t end h =
      of_whole (λ (bytes : List ℕ). IsTraceFault schedule bytes LongTrace) h.1.script left rest taken t end h.1.reads h
  told_run IsLong IsMany LongRun t end h =
      of_whole (λ (bytes : List ℕ). IsRunFault IsLong IsMany schedule bytes LongRun) h.1.0.script left rest taken t end h.1.0.reads h
  told_run IsLong IsMany (ManyStates count) t end h = absurd h
  told_run IsLong IsMany (Question fault) t end h = absurd h
  told_run IsLong IsMany (ManySchedules counts) t end h =
      of_whole (λ (bytes : List ℕ). IsRunFault IsLong IsMany schedule bytes (ManySchedules counts)) h.1.0.script left rest taken t end h.1.0.reads h

refused : (F : InputFault → Type 0) (command : Command) (left rest : Option (List ℕ)) → ((fault : InputFault) → F fault → Faulty program command fault left rest)
    → (refusal : Refusal) → IsRefusalFor F refusal → Unmade program refusal command left rest
refused F command left rest faulty (Input fault) e = faulty fault e
refused F command left rest faulty NoMemory e = tt
refused F command left rest faulty Usage e = absurd e
refused F command left rest faulty ReadFault e = absurd e
refused F command left rest faulty WriteFault e = absurd e

module _ (schedule : Option (List ℕ)) (left rest : Option (List ℕ)) (taken : List ℕ) (refusal : Refusal) where
  -- the bytes that were taken are not run by the schedule
  pub unstepped : (tries : ℕ) (json : Bool) → Takes left rest taken → (length taken < 1048577 → AtEnd rest)
      → IsRefusalFor (IsScheduledFault schedule taken) refusal → Unmade program refusal (Step tries json schedule) left rest
  unstepped tries json t end e =
      refused (IsScheduledFault schedule taken) (Step tries json schedule) left rest (λ fault h. (refl, told_scheduled schedule left rest taken fault t end h)) refusal e

  -- or not traced
  pub untraced : (tries : ℕ) (json : Bool) → Takes left rest taken → (length taken < 1048577 → AtEnd rest)
      → IsRefusalFor (IsRunFault (HasLongRun tries) NeverMany schedule taken) refusal → Unmade program refusal (Trace tries json schedule) left rest
  untraced tries json t end e =
      refused (IsRunFault (HasLongRun tries) NeverMany schedule taken) (Trace tries json schedule) left rest
      (λ fault h. (refl, told_run schedule left rest taken (HasLongRun tries) NeverMany fault t end h)) refusal e

  -- or not drawn
  pub undrawn : (tries : ℕ) → Takes left rest taken → (length taken < 1048577 → AtEnd rest)
      → IsRefusalFor (IsRunFault (IsTooLong tries) NeverMany schedule taken) refusal → Unmade program refusal (Draw tries schedule) left rest
  undrawn tries t end e =
      refused (IsRunFault (IsTooLong tries) NeverMany schedule taken) (Draw tries schedule) left rest
      (λ fault h. (refl, told_run schedule left rest taken (IsTooLong tries) NeverMany fault t end h)) refusal e

-- or not run by all schedules
pub unscheduled : (switches tries : ℕ) (json : Bool) (left rest : Option (List ℕ)) (taken : List ℕ) (refusal : Refusal) → Takes left rest taken
    → (length taken < 1048577 → AtEnd rest) → IsRefusalFor (IsRunFault (HasSomeLongRun tries) (HasManySchedules switches tries json) None taken) refusal
    → Unmade program refusal (Schedules switches tries json) left rest
unscheduled switches tries json left rest taken refusal t end e =
    refused (IsRunFault (HasSomeLongRun tries) (HasManySchedules switches tries json) None taken) (Schedules switches tries json) left rest
    (λ fault h. (refl, told_run None left rest taken (HasSomeLongRun tries) (HasManySchedules switches tries json) fault t end h)) refusal e

module _ (by : SameBy) (states : ℕ) (asked : Option Asked) (left rest : Option (List ℕ)) (taken : List ℕ) where
  -- a fault of the orders of a script that was read whole is one of all that was left
  told_orders : (fault : InputFault) → Takes left rest taken → (length taken < 1048577 → AtEnd rest)
      → IsOrdersFault by states asked taken fault → IfTold left rest (λ bytes. IsOrdersFault by states asked bytes fault)
  told_orders (Script fault) t end h = told_fault left rest taken fault t end h
  told_orders (ManyStates count) t end h = of_whole (λ (bytes : List ℕ). IsOrdersFault by states asked bytes (ManyStates count)) h.0 left rest taken t end h.1 h
  told_orders (Question fault) t end h = of_whole (λ (bytes : List ℕ). IsOrdersFault by states asked bytes (Question fault)) h.0 left rest taken t end h.1 h
  told_orders NoReport t end h = absurd h
  told_orders LongTrace t end h = absurd h
  told_orders LongRun t end h = absurd h
  told_orders (ManySchedules counts) t end h = absurd h
  told_orders (Schedule kind) t end h = absurd h

-- what is asked of the orders of the bytes that were taken is not told
pub unexplored : (by : By) (states : ℕ) (json : Bool) (asked : Option Asked) (left rest : Option (List ℕ)) (taken : List ℕ) (refusal : Refusal) → Takes left rest taken
    → (length taken < 1048577 → AtEnd rest) → IsRefusalFor (IsOrdersFault (same_by by) states asked taken) refusal
    → Unmade program refusal (Explore by states json asked) left rest
unexplored by states json asked left rest taken refusal t end e =
    refused (IsOrdersFault (same_by by) states asked taken) (Explore by states json asked) left rest
    (λ fault h. (refl, told_orders (same_by by) states asked left rest taken fault t end h)) refusal e
