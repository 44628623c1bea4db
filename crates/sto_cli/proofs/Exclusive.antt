-- A command prints a text for an input, or the input has a fault.
use Rattle.std.proofs.Common.{◌≡◌, ◌<◌, ℕ, List, refl, sym, ap, ◌∙◌, arith, Bool, true, Option, None, Some, Result, Ok, true≢false}
use Rattle.std.specs.Result.{is_ok}
use Rattle.sto_lang.specs.Files.{file_of}
use Rattle.sto_lang.specs.Scripts.{File}
use Rattle.sto_lang.specs.declared.fault.FaultKind.{FaultKind}
use Rattle.sto_lang.specs.declared.fault.ScriptFault.{ScriptFault}
use Rattle.sto_args.specs.declared.command.Asked.{Asked}
use Rattle.sto_args.specs.declared.command.Asked.TheVariants.{Where, Never}
use Rattle.sto_args.specs.declared.command.Command.{Command}
use Rattle.sto_args.specs.declared.command.Command.TheVariants.{Run, Step, Trace, Draw, Explore, Schedules, Upgrade, Gen, Bench, Help}
use Rattle.sto_console.specs.declared.refusal.InputFault.{InputFault}
use Rattle.sto_console.specs.declared.refusal.InputFault.TheVariants.{Script, NoReport, LongTrace, LongRun, ManySchedules, ManyStates, Schedule, Question}
use Rattle.sto_console.specs.Outcomes.{IsOwn}
use Rattle.sto_console.proofs.Causes.{IsExclusive}
use Rattle.sto_console.proofs.Faultless.{no_fault}
use Rattle.sto_lang.specs.Drafts.{transaction_count}
use Rattle.sto_console.specs.declared.refusal.ScheduleCounts.{ScheduleCounts}
use Rattle.sto_question.specs.declared.fault.QuestionFault.{QuestionFault}
use Rattle.sto_question.specs.Questions.{question_of}
use Rattle.sto_cli.specs.declared.told.Answer.{Answer}
use Rattle.sto_cli.specs.declared.told.Answer.TheVariants.{Done, Found}
use Rattle.sto_cli.specs.Schedules.{scheduled_by, IsScheduled, HasScheduleFault, IsScheduledFault}
use Rattle.sto_cli.specs.Traces.{IsTraceable, IsTraceFault, HasLongRun, IsRunFault, NeverMany}
use Rattle.sto_run_schedules.specs.Leading.{HasSomeLongRun}
use Rattle.sto_cli.specs.Explorations.{HasManySchedules}
use Rattle.sto_orders.specs.declared.same_by.SameBy.{SameBy}
use Rattle.sto_cli.specs.Orders.{same_by, TellsOrders, IsExplored, IsQuestionFault, IsOrdersFault}
use Rattle.sto_draw.specs.Drawn.{IsTooLong}
use Rattle.sto_cli.specs.Outputs.{IsOutput, HasFault}
use Rattle.sto_cli.specs.Programs.{reads_script, IsAnswer, answer_status, program}

reads : (command : Command) (bytes : List ℕ) (fault : InputFault) → HasFault command bytes fault → reads_script command ≡ true
reads (Run threads tries json) bytes fault h = refl
reads (Step tries json schedule) bytes fault h = refl
reads (Trace tries json schedule) bytes fault h = refl
reads (Draw tries schedule) bytes fault h = refl
reads (Explore by states json asked) bytes fault h = refl
reads (Schedules switches tries json) bytes fault h = refl
reads Upgrade bytes fault h = refl
reads (Gen number) bytes fault h = absurd h
reads (Bench number threads) bytes fault h = absurd h
reads (Help page) bytes fault h = absurd h

same_file : (x y : File) → ◌≡◌ {A = Result File ScriptFault} (Ok x) (Ok y) → x ≡ y
same_file x y e = cc

same_scheduled : (x y : File) → ◌≡◌ {A = Result File FaultKind} (Ok x) (Ok y) → x ≡ y
same_scheduled x y e = cc

-- the bytes are one file alone, with one schedule of the words
same_whole : (schedule : Option (List ℕ)) (bytes : List ℕ) (file other : File) → IsScheduled schedule bytes file → IsScheduled schedule bytes other → file ≡ other
same_whole schedule bytes file other a b =
    let scripts = same_file a.script b.script (sym a.reads ∙ b.reads) in
    same_scheduled file other (sym a.scheduled ∙ ap (scheduled_by schedule) scripts ∙ b.scheduled)

no_schedule_fault : (schedule : Option (List ℕ)) (bytes : List ℕ) (file : File) (kind : FaultKind) → IsScheduled schedule bytes file → HasScheduleFault schedule bytes kind → ⊥
no_schedule_fault schedule bytes file kind a b =
    let scripts = same_file a.script b.script (sym a.reads ∙ b.reads) in
    true≢false (ap is_ok (sym a.scheduled ∙ ap (scheduled_by schedule) scripts ∙ b.refused))

no_scheduled_fault : (schedule : Option (List ℕ)) (bytes : List ℕ) (file : File) (fault : InputFault) → IsScheduled schedule bytes file → IsScheduledFault schedule bytes fault → ⊥
no_scheduled_fault schedule bytes file (Script fault) h f = true≢false (ap is_ok (sym h.reads ∙ f))
no_scheduled_fault schedule bytes file (Schedule kind) h f = no_schedule_fault schedule bytes file kind h f
no_scheduled_fault schedule bytes file NoReport h f = f
no_scheduled_fault schedule bytes file LongTrace h f = f
no_scheduled_fault schedule bytes file LongRun h f = f
no_scheduled_fault schedule bytes file (ManySchedules counts) h f = f
no_scheduled_fault schedule bytes file (ManyStates count) h f = f
no_scheduled_fault schedule bytes file (Question fault) h f = f

-- a file that is traced has few transactions
no_trace_fault : (schedule : Option (List ℕ)) (bytes : List ℕ) (file : File) (fault : InputFault) → IsTraceable schedule bytes file → IsTraceFault schedule bytes fault → ⊥
no_trace_fault schedule bytes file (Script fault) h f = no_scheduled_fault schedule bytes file (Script fault) h.0 f
no_trace_fault schedule bytes file (Schedule kind) h f = no_scheduled_fault schedule bytes file (Schedule kind) h.0 f
no_trace_fault schedule bytes file NoReport h f = f
no_trace_fault schedule bytes file LongTrace h f =
    let same = ap (λ (g : File). transaction_count g.threads) (same_whole schedule bytes file f.0 h.0 f.1) in
    let few = h.1 in let many = f.2 in omega (arith, same, few, many)
no_trace_fault schedule bytes file LongRun h f = f
no_trace_fault schedule bytes file (ManySchedules counts) h f = f
no_trace_fault schedule bytes file (ManyStates count) h f = f
no_trace_fault schedule bytes file (Question fault) h f = f

no_run_fault : (IsLong : File → Type 0) (IsMany : ScheduleCounts → File → Type 0) (schedule : Option (List ℕ)) (bytes : List ℕ) (file : File) (fault : InputFault) → IsOwn fault
    → IsTraceable schedule bytes file → IsRunFault IsLong IsMany schedule bytes fault → ⊥
no_run_fault IsLong IsMany schedule bytes file (Script fault) own h f = no_trace_fault schedule bytes file (Script fault) h f
no_run_fault IsLong IsMany schedule bytes file (Schedule kind) own h f = no_trace_fault schedule bytes file (Schedule kind) h f
no_run_fault IsLong IsMany schedule bytes file NoReport own h f = no_trace_fault schedule bytes file NoReport h f
no_run_fault IsLong IsMany schedule bytes file LongTrace own h f = no_trace_fault schedule bytes file LongTrace h f
no_run_fault IsLong IsMany schedule bytes file LongRun own h f = own
no_run_fault IsLong IsMany schedule bytes file (ManySchedules counts) own h f = own
no_run_fault IsLong IsMany schedule bytes file (ManyStates count) own h f = own
no_run_fault IsLong IsMany schedule bytes file (Question fault) own h f = f

-- words that are a question for the file are one without a fault
no_question_fault : (by : SameBy) (states : ℕ) (json : Bool) (asked : Option Asked) (file other : File) (answer : Answer) (text : List ℕ) (fault : QuestionFault) → file ≡ other
    → TellsOrders by states json asked file answer text → IsQuestionFault asked other fault → ⊥
no_question_fault by states json None file other answer text fault same h f = f
no_question_fault by states json (Some (Where words)) file other answer text fault same h f =
    true≢false (ap is_ok (sym h.told.reads ∙ ap (λ (g : File). question_of g words) same ∙ f))
no_question_fault by states json (Some (Never words)) file other answer text fault same h f =
    true≢false (ap is_ok (sym h.told.reads ∙ ap (λ (g : File). question_of g words) same ∙ f))

no_orders_fault : (by : SameBy) (states : ℕ) (json : Bool) (asked : Option Asked) (bytes : List ℕ) (answer : Answer) (text : List ℕ) (fault : InputFault) → IsOwn fault
    → IsExplored by states json asked bytes answer text → IsOrdersFault by states asked bytes fault → ⊥
no_orders_fault by states json asked bytes answer text (Script fault) own h f = true≢false (ap is_ok (sym h.1 ∙ f))
no_orders_fault by states json asked bytes answer text (Question fault) own h f =
    no_question_fault by states json asked h.0 f.0 answer text fault (same_file h.0 f.0 (sym h.1 ∙ f.1)) h.2 f.2
no_orders_fault by states json asked bytes answer text NoReport own h f = f
no_orders_fault by states json asked bytes answer text LongTrace own h f = f
no_orders_fault by states json asked bytes answer text LongRun own h f = f
no_orders_fault by states json asked bytes answer text (ManySchedules counts) own h f = f
no_orders_fault by states json asked bytes answer text (ManyStates count) own h f = own
no_orders_fault by states json asked bytes answer text (Schedule kind) own h f = f

faultless : (command : Command) (bytes : List ℕ) (answer : Answer) (text : List ℕ) (fault : InputFault) → IsOwn fault → IsAnswer command bytes answer text → HasFault command bytes fault → ⊥
faultless (Run threads tries json) bytes answer text fault own h f = no_fault bytes h.1.0 fault h.1.1 f
faultless (Step tries json schedule) bytes answer text fault own h f = no_scheduled_fault schedule bytes h.1.0 fault h.1.1 f
faultless (Trace tries json schedule) bytes answer text fault own h f = no_run_fault (HasLongRun tries) NeverMany schedule bytes h.1.0 fault own h.1.1 f
faultless (Draw tries schedule) bytes answer text fault own h f = no_run_fault (IsTooLong tries) NeverMany schedule bytes h.1.0 fault own h.1.1 f
faultless (Explore by states json asked) bytes answer text fault own h f = no_orders_fault (same_by by) states json asked bytes answer text fault own h f
faultless (Schedules switches tries json) bytes answer text fault own h f = no_run_fault (HasSomeLongRun tries) (HasManySchedules switches tries json) None bytes h.1.0 fault own h.1.1 f
faultless Upgrade bytes answer text fault own h f = no_fault bytes h.1.0 fault h.1.1 f
faultless (Gen number) bytes answer text fault own h f = f
faultless (Bench number threads) bytes answer text fault own h f = f
faultless (Help page) bytes answer text fault own h f = f

pub exclusive : IsExclusive program
exclusive = record { read = reads; faultless = λ command bytes fault answer text own h f. faultless command bytes answer text fault own h f }

-- each answer has one of two statuses
pub few_statuses : (answer : Answer) → answer_status answer < 2
few_statuses Done = omega arith
few_statuses Found = omega arith

pub by_done : (P : Answer → Type 0) (answer : Answer) → answer_status answer ≡ 0 → P answer → P Done
by_done P Done e h = h
by_done P Found e h = absurd (omega (arith, e))

pub by_found : (P : Answer → Type 0) (answer : Answer) → answer_status answer ≡ 1 → P answer → P Found
by_found P Found e h = h
by_found P Done e h = absurd (omega (arith, e))
