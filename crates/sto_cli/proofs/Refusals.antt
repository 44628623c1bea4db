-- Why a script is not traced, drawn or explored.
use Rattle.std.proofs.Common.{◌≡◌, ℕ, List, Bool, Option, None, Some, Ok, sym, subst}
use Rattle.sto_lang.specs.Files.{file_of}
use Rattle.sto_lang.specs.Scripts.{File}
use Rattle.sto_console.specs.declared.refusal.InputFault.{InputFault}
use Rattle.sto_console.specs.declared.refusal.ScheduleCounts.{ScheduleCounts}
use Rattle.sto_console.specs.declared.refusal.InputFault.TheVariants.{Script, NoReport, LongTrace, LongRun, ManySchedules, ManyStates, Schedule, Question}
use Rattle.sto_console.specs.declared.refusal.Refusal.{Refusal}
use Rattle.sto_console.specs.declared.refusal.Refusal.TheVariants.{Usage, Input, ReadFault, WriteFault, NoMemory}
use Rattle.sto_console.specs.Ends.{IsFileRefusal}
use Rattle.sto_journal.specs.declared.journal.Journal.{Journal}
use Rattle.sto_run.specs.Logged.{RunLog}
use Rattle.sto_run.specs.Traced.{IsTraceOf}
use Rattle.sto_cli.specs.Traces.{IsTraceable, HasLongRun, IsTraceFault, IsRunFault, NeverMany, IsRefusalFor}
use Rattle.sto_run_schedules.specs.Leading.{HasSomeLongRun}
use Rattle.sto_cli.specs.Explorations.{HasManySchedules, IsExploringFault}
use Rattle.sto_orders.specs.declared.same_by.SameBy.{SameBy}
use Rattle.sto_args.specs.declared.command.Asked.{Asked}
use Rattle.sto_run_orders.specs.declared.asked.Asking.{Asking}
use Rattle.sto_run_orders.specs.declared.asked.Asking.TheVariants as asking
use Rattle.sto_cli.specs.Schedules.{IsScheduledFault, IsUnscheduled}
use Rattle.sto_cli.specs.Orders.{asked_by, IsNoQuestion, IsUntold, IsOrdersFault}

pub refused_for : (F G : InputFault → Type 0) → ((fault : InputFault) → F fault → G fault) → (e : Refusal) → IsRefusalFor F e → IsRefusalFor G e
refused_for F G h (Input fault) e = h fault e
refused_for F G h NoMemory e = tt
refused_for F G h Usage e = absurd e
refused_for F G h ReadFault e = absurd e
refused_for F G h WriteFault e = absurd e

-- bytes that are no file are none with a schedule
pub no_file : (schedule : Option (List ℕ)) (bytes : List ℕ) (e : Refusal) → IsFileRefusal e bytes → IsRefusalFor (IsScheduledFault schedule bytes) e
no_file schedule bytes (Input (Script fault)) h = h
no_file schedule bytes (Input NoReport) h = absurd h
no_file schedule bytes (Input LongTrace) h = absurd h
no_file schedule bytes (Input LongRun) h = absurd h
no_file schedule bytes (Input (ManySchedules counts)) h = absurd h
no_file schedule bytes (Input (ManyStates count)) h = absurd h
no_file schedule bytes (Input (Schedule kind)) h = absurd h
no_file schedule bytes (Input (Question fault)) h = absurd h
no_file schedule bytes NoMemory h = tt
no_file schedule bytes Usage h = absurd h
no_file schedule bytes ReadFault h = absurd h
no_file schedule bytes WriteFault h = absurd h

unscheduled_fault : (schedule : Option (List ℕ)) (bytes : List ℕ) (file : File) → file_of bytes ≡ Ok file → (fault : InputFault) → IsUnscheduled schedule file fault
    → IsScheduledFault schedule bytes fault
unscheduled_fault schedule bytes file reads (Schedule kind) h = record { script = file; reads = reads; refused = h }
unscheduled_fault schedule bytes file reads (Script fault) h = absurd h
unscheduled_fault schedule bytes file reads NoReport h = absurd h
unscheduled_fault schedule bytes file reads LongTrace h = absurd h
unscheduled_fault schedule bytes file reads LongRun h = absurd h
unscheduled_fault schedule bytes file reads (ManySchedules counts) h = absurd h
unscheduled_fault schedule bytes file reads (ManyStates count) h = absurd h
unscheduled_fault schedule bytes file reads (Question fault) h = absurd h

-- a script that could not have the schedule of the words
pub no_schedule : (schedule : Option (List ℕ)) (bytes : List ℕ) (file : File) → file_of bytes ≡ Ok file → (e : Refusal) → IsRefusalFor (IsUnscheduled schedule file) e
    → IsRefusalFor (IsScheduledFault schedule bytes) e
no_schedule schedule bytes file reads e h =
    refused_for (IsUnscheduled schedule file) (IsScheduledFault schedule bytes) (unscheduled_fault schedule bytes file reads) e h

untraceable_fault : (schedule : Option (List ℕ)) (bytes : List ℕ) (fault : InputFault) → IsScheduledFault schedule bytes fault → IsTraceFault schedule bytes fault
untraceable_fault schedule bytes (Script fault) h = h
untraceable_fault schedule bytes (Schedule kind) h = h
untraceable_fault schedule bytes NoReport h = absurd h
untraceable_fault schedule bytes LongTrace h = absurd h
untraceable_fault schedule bytes LongRun h = absurd h
untraceable_fault schedule bytes (ManySchedules counts) h = absurd h
untraceable_fault schedule bytes (ManyStates count) h = absurd h
untraceable_fault schedule bytes (Question fault) h = absurd h

-- bytes that are no file with a schedule are none that can be traced
pub no_script : (schedule : Option (List ℕ)) (bytes : List ℕ) (e : Refusal) → IsRefusalFor (IsScheduledFault schedule bytes) e → IsRefusalFor (IsTraceFault schedule bytes) e
no_script schedule bytes e h = refused_for (IsScheduledFault schedule bytes) (IsTraceFault schedule bytes) (untraceable_fault schedule bytes) e h

module _ (IsLong : File → Type 0) (IsMany : ScheduleCounts → File → Type 0) (schedule : Option (List ℕ)) (bytes : List ℕ) where
  trace_fault : (fault : InputFault) → IsTraceFault schedule bytes fault → IsRunFault IsLong IsMany schedule bytes fault
  trace_fault (Script fault) h = h
  trace_fault (Schedule kind) h = h
  trace_fault NoReport h = h
  trace_fault LongTrace h = h
  trace_fault LongRun h = absurd h
  trace_fault (ManySchedules counts) h = absurd h
  trace_fault (ManyStates count) h = absurd h
  trace_fault (Question fault) h = absurd h

  -- of bytes that cannot be traced there is no run
  pub untraceable : (e : Refusal) → IsRefusalFor (IsTraceFault schedule bytes) e → IsRefusalFor (IsRunFault IsLong IsMany schedule bytes) e
  untraceable e h = refused_for (IsTraceFault schedule bytes) (IsRunFault IsLong IsMany schedule bytes) trace_fault e h

-- a run whose steps were not kept is too long
pub long_run : (tries : ℕ) (schedule : Option (List ℕ)) (bytes : List ℕ) (file : File) (journal : Journal) (homes : List (ℕ × ℕ)) (steps : RunLog) → IsTraceable schedule bytes file
    → IsTraceOf file tries journal homes steps → (e : Refusal) → IsRefusalFor (λ fault. (fault ≡ LongRun) × (steps ≡ None)) e
    → IsRefusalFor (IsRunFault (HasLongRun tries) NeverMany schedule bytes) e
long_run tries schedule bytes file journal homes steps traceable run e h =
    refused_for (λ fault. (fault ≡ LongRun) × (steps ≡ None)) (IsRunFault (HasLongRun tries) NeverMany schedule bytes)
    (λ fault so.
    let none = subst (λ (kept : RunLog). IsTraceOf file tries journal homes kept) so.1 run in
    subst (λ (f : InputFault). IsRunFault (HasLongRun tries) NeverMany schedule bytes f) (sym so.0) (file, traceable, (journal, homes, none)))
    e h

exploring_fault : (switches tries : ℕ) (json : Bool) (bytes : List ℕ) (file : File) → IsTraceable None bytes file
    → (fault : InputFault) → IsExploringFault switches tries json file fault → IsRunFault (HasSomeLongRun tries) (HasManySchedules switches tries json) None bytes fault
exploring_fault switches tries json bytes file traceable LongRun h = (file, traceable, h)
exploring_fault switches tries json bytes file traceable (ManySchedules counts) h = (file, traceable, h)
exploring_fault switches tries json bytes file traceable (ManyStates count) h = absurd h
exploring_fault switches tries json bytes file traceable (Script fault) h = absurd h
exploring_fault switches tries json bytes file traceable NoReport h = absurd h
exploring_fault switches tries json bytes file traceable LongTrace h = absurd h
exploring_fault switches tries json bytes file traceable (Schedule kind) h = absurd h
exploring_fault switches tries json bytes file traceable (Question fault) h = absurd h

-- a script that can be traced is not explored for a fault of its runs
pub unexplorable : (switches tries : ℕ) (json : Bool) (bytes : List ℕ) (file : File) → IsTraceable None bytes file → (e : Refusal)
    → IsRefusalFor (IsExploringFault switches tries json file) e → IsRefusalFor (IsRunFault (HasSomeLongRun tries) (HasManySchedules switches tries json) None bytes) e
unexplorable switches tries json bytes file traceable e h =
    refused_for (IsExploringFault switches tries json file) (IsRunFault (HasSomeLongRun tries) (HasManySchedules switches tries json) None bytes)
    (exploring_fault switches tries json bytes file traceable) e h

-- a run by some schedule was too long
pub long_somewhere : (switches tries : ℕ) (json : Bool) (file : File) (e : Refusal) → IsRefusalFor (λ fault. (fault ≡ LongRun) × HasSomeLongRun tries file) e
    → IsRefusalFor (IsExploringFault switches tries json file) e
long_somewhere switches tries json file e h =
    refused_for (λ fault. (fault ≡ LongRun) × HasSomeLongRun tries file) (IsExploringFault switches tries json file)
    (λ fault so. subst (IsExploringFault switches tries json file) (sym so.0) so.1) e h

module _ (by : SameBy) (states : ℕ) (asked : Option Asked) (bytes : List ℕ) where
  untold_fault : (file : File) → file_of bytes ≡ Ok file → (fault : InputFault) → IsUntold by states asked file fault → IsOrdersFault by states asked bytes fault
  untold_fault file reads (ManyStates count) h = (file, reads, h)
  untold_fault file reads (Question fault) h = (file, reads, h)
  untold_fault file reads (Script fault) h = absurd h
  untold_fault file reads NoReport h = absurd h
  untold_fault file reads LongTrace h = absurd h
  untold_fault file reads LongRun h = absurd h
  untold_fault file reads (ManySchedules counts) h = absurd h
  untold_fault file reads (Schedule kind) h = absurd h

  -- a script of which is not told what is asked
  pub untold : (file : File) → file_of bytes ≡ Ok file → (e : Refusal) → IsRefusalFor (IsUntold by states asked file) e → IsRefusalFor (IsOrdersFault by states asked bytes) e
  untold file reads e h = refused_for (IsUntold by states asked file) (IsOrdersFault by states asked bytes) (untold_fault file reads) e h

  -- bytes that are no file have no orders
  pub no_orders : (e : Refusal) → IsFileRefusal e bytes → IsRefusalFor (IsOrdersFault by states asked bytes) e
  no_orders (Input (Script fault)) h = h
  no_orders (Input NoReport) h = absurd h
  no_orders (Input LongTrace) h = absurd h
  no_orders (Input LongRun) h = absurd h
  no_orders (Input (ManySchedules counts)) h = absurd h
  no_orders (Input (ManyStates count)) h = absurd h
  no_orders (Input (Schedule kind)) h = absurd h
  no_orders (Input (Question fault)) h = absurd h
  no_orders NoMemory h = tt
  no_orders Usage h = absurd h
  no_orders ReadFault h = absurd h
  no_orders WriteFault h = absurd h

question_fault : (by : SameBy) (states : ℕ) (asking : Asking) (words : List ℕ) (file : File) (fault : InputFault) → IsNoQuestion words file fault
    → IsUntold by states (Some (asked_by asking words)) file fault
question_fault by states asking.Where words file (Question fault) h = h
question_fault by states asking.Never words file (Question fault) h = h
question_fault by states asking words file (ManyStates count) h = absurd h
question_fault by states asking words file (Script fault) h = absurd h
question_fault by states asking words file NoReport h = absurd h
question_fault by states asking words file LongTrace h = absurd h
question_fault by states asking words file LongRun h = absurd h
question_fault by states asking words file (ManySchedules counts) h = absurd h
question_fault by states asking words file (Schedule kind) h = absurd h

-- words that are no question for a file
pub no_question : (by : SameBy) (states : ℕ) (asking : Asking) (words : List ℕ) (file : File) (e : Refusal) → IsRefusalFor (IsNoQuestion words file) e
    → IsRefusalFor (IsUntold by states (Some (asked_by asking words)) file) e
no_question by states asking words file e h =
    refused_for (IsNoQuestion words file) (IsUntold by states (Some (asked_by asking words)) file) (question_fault by states asking words file) e h
