-- What `sto` does not print.
use Rattle.std.specs.Fmt.{digits}
use Rattle.std.specs.Int.{int_wrap}
use Rattle.std.specs.List.{flat_map, enumerate_from}
use Rattle.std.proofs.Common.{◌≡◌, ◌≤◌, ◌<◌, ℕ, List, [], length, Bool, true, false, Option, None, Some, Ok, Err, refl, sym, ap, ◌∙◌, subst, arith}
use Rattle.sto_lang.specs.Files.{file_of}
use Rattle.sto_lang.specs.Scripts.{File}
use Rattle.sto_lang.specs.Drafts.{transaction_count}
use Rattle.sto_lang.specs.declared.fault.ScriptFault.{ScriptFault}
use Rattle.sto_write.specs.Texts.{text_of, upgraded}
use Rattle.sto_report_spec.specs.Lawful.{IsLawful, IsLawfulJson}
use Rattle.sto_report_spec.specs.declared.form.ReportForm.TheVariants.{Text}
use Rattle.sto_run.specs.Meanings.{updating_by}
use Rattle.sto_run.specs.Stores.{means}
use Rattle.sto_run.specs.Forms.{form_for, IsAlone}
use Rattle.sto_orders.specs.Causes.{least_told}
use Rattle.sto_explore.specs.declared.outcome.Outcomes.{Outcomes}
use Rattle.sto_explore.specs.Texts.{outcome_text, sum_line, outcomes_in}
use Rattle.sto_run_orders.specs.declared.report.OrderReport.{OrderReport}
use Rattle.sto_run_orders.specs.Texts.{reports_in, asked_in}
use Rattle.sto_run_orders.specs.declared.asked.Asking.{Asking}
use Rattle.sto_run_orders.specs.declared.asked.Asking.TheVariants as asking
use Rattle.sto_run_orders.specs.Texts as orders
use Rattle.sto_args.specs.declared.command.Asked.{Asked}
use Rattle.sto_args.specs.declared.command.Asked.TheVariants.{Where, Never}
use Rattle.sto_args.specs.declared.command.By.{By}
use Rattle.sto_args.specs.declared.command.Command.TheVariants.{Run, Step, Trace, Draw, Explore, Schedules, Upgrade, Gen}
use Rattle.sto_console.specs.declared.refusal.InputFault.{InputFault}
use Rattle.sto_console.specs.declared.refusal.InputFault.TheVariants.{Script, NoReport, LongTrace, LongRun, ManySchedules, ManyStates, Schedule, Question}
use Rattle.sto_console.specs.Outcomes.{IsDone, IsFaulty}
use Rattle.sto_console.specs.Faults.{IsScriptFault}
use Rattle.sto_console.specs.Workers.{workers_of}
use Rattle.sto_cli.specs.declared.told.Answer.{Answer}
use Rattle.sto_cli.specs.declared.told.Answer.TheVariants.{Done}
use Rattle.sto_cli.specs.Orders.{IsTold}
use Rattle.sto_cli.specs.Outputs.{IsOutput}
use Rattle.sto_cli.specs.Traces.{most_traced, IsTraceable}
use Rattle.sto_cli.specs.Programs.{program}
use Rattle.sto_test_premises.specs.Adding.{script, file}
use Rattle.sto_test_premises.proofs.Adding.{reads_file}
use Rattle.sto_test_refusals.specs.Texts.{right}
use Rattle.sto_test_refusals.proofs.Lists.{differ, none_behind}
use Rattle.sto_test_refusals.proofs.Unlawful.{nothing_is_none}
use Rattle.sto_test_program_refusals.specs.Inputs.{alone_changed, alone_reversed}
use Rattle.sto_test_program_refusals.proofs.Scheduled.{one_file, scheduled_as}
use Rattle.sto_test_program_refusals.proofs.Texts.{no_front, none_gained}

-- the script says one file
pub read_as : (f : File) → file_of script ≡ Ok f → f ≡ file
read_as f reads = let e = sym reads ∙ reads_file in cc

-- what `run` and `step` print of it is lawful
pub run_lawful : (threads : Option ℕ) (text : List ℕ) → IsOutput (Run threads 64 false) script text → IsLawful (updating_by means) file 64 text
run_lawful threads text o = subst (λ (f : File). IsLawful (updating_by means) f 64 text) (read_as o.0 o.1) o.2

pub run_lawful_json : (threads : Option ℕ) (text : List ℕ) → IsOutput (Run threads 64 true) script text → IsLawfulJson (updating_by means) file 64 text
run_lawful_json threads text o = subst (λ (f : File). IsLawfulJson (updating_by means) f 64 text) (read_as o.0 o.1) o.2

pub step_lawful : (text : List ℕ) → IsOutput (Step 64 false None) script text → IsLawful (updating_by means) file 64 text
step_lawful text o = subst (λ (f : File). IsLawful (updating_by means) f 64 text) (scheduled_as script file o.0 reads_file o.1) o.2.report.lawful

-- with one worker it is one text
by_one : (f : File) (text : List ℕ) → f ≡ file → (workers_of (Some 1) (length f.threads) ≡ 1 → IsAlone Text f text) → IsAlone Text file text
by_one f text same alone =
    subst (λ (g : File). workers_of (Some 1) (length g.threads) ≡ 1 → IsAlone Text g text) same alone refl

run_alone : (text : List ℕ) → IsOutput (Run (Some 1) 64 false) script text → IsAlone Text file text
run_alone text o = by_one o.0 text (read_as o.0 o.1) o.3

pub not_changed : IsOutput (Run (Some 1) 64 false) script alone_changed → ⊥
unfolding digits int_wrap
not_changed o = differ _ _ 48 51 50 refl refl (λ e. omega (arith, e)) (run_alone alone_changed o).report

pub not_reversed : IsOutput (Run (Some 1) 64 false) script alone_reversed → ⊥
unfolding digits int_wrap
not_reversed o = differ _ _ 3 49 48 refl refl (λ e. omega (arith, e)) (run_alone alone_reversed o).report

pub not_aborted : IsOutput (Run (Some 1) 64 false) script right → ⊥
unfolding digits int_wrap
not_aborted o = let n : 1 ≡ 0 = ap length (run_alone right o).none in omega (arith, n)

-- no report is nothing
pub run_nothing : (threads : Option ℕ) (tries : ℕ) (json : Bool) (bytes : List ℕ) → IsOutput (Run threads tries json) bytes [] → ⊥
run_nothing threads tries json bytes o = nothing_is_none (updating_by means) (form_for json) o.0 tries o.2

pub run_silent : (threads : Option ℕ) (tries : ℕ) (json : Bool) (bytes held : List ℕ)
    → IsDone program Done (Some (Run threads tries json)) (Some bytes) (Some []) (Some held) (Some held) → ⊥
run_silent threads tries json bytes held done =
    run_nothing threads tries json done.made.bytes
    (subst (λ (text : List ℕ). IsOutput (Run threads tries json) done.made.bytes text) (sym (none_gained held done.text done.gained)) done.made.output.1)

pub step_nothing : (tries : ℕ) (json : Bool) (schedule : Option (List ℕ)) (bytes : List ℕ) → IsOutput (Step tries json schedule) bytes [] → ⊥
step_nothing tries json schedule bytes o = nothing_is_none (updating_by means) (form_for json) o.0 tries o.2.report.lawful

-- the script has no fault
no_fault : (fault : InputFault) → IsScriptFault script fault → ⊥
no_fault (Script fault) h = let e = sym h ∙ reads_file in absurd cc
no_fault NoReport h = h
no_fault LongTrace h = h
no_fault LongRun h = h
no_fault (ManySchedules counts) h = h
no_fault (ManyStates count) h = h
no_fault (Schedule kind) h = h
no_fault (Question fault) h = h

pub run_fault : (threads : Option ℕ) (tries : ℕ) (json : Bool) → IsFaulty program (Some (Run threads tries json)) (Some script) (Some []) → ⊥
run_fault threads tries json faulty = no_fault faulty.0 faulty.1.1

-- an exploration has at least the line of its sums
told_nothing : (json : Bool) (f : File) (outcomes : Outcomes) → [] ≡ outcomes_in json f outcomes → ⊥
told_nothing true f outcomes e = no_front e
told_nothing false f outcomes e = no_front (none_behind (flat_map (outcome_text f) (enumerate_from 1 outcomes.each.items)) (sum_line outcomes) e)

pub schedules_nothing : (switches tries : ℕ) (json : Bool) (bytes : List ℕ) → IsOutput (Schedules switches tries json) bytes [] → ⊥
schedules_nothing switches tries json bytes o = told_nothing json o.0 o.2.outcomes o.2.told

-- nothing is printed of a script with more transactions than may be traced
few_traced : (bytes : List ℕ) (f g : File) → file_of bytes ≡ Ok f → most_traced < transaction_count f.threads → IsTraceable None bytes g → ⊥
few_traced bytes f g reads beyond traceable =
    let few : transaction_count f.threads ≤ most_traced = subst (λ (h : File). transaction_count h.threads ≤ most_traced) (scheduled_as bytes f g reads traceable.0) traceable.1 in
    omega (arith, few, beyond)

pub schedules_beyond : (switches tries : ℕ) (json : Bool) (bytes text : List ℕ) (f : File) → file_of bytes ≡ Ok f → most_traced < transaction_count f.threads
    → IsOutput (Schedules switches tries json) bytes text → ⊥
schedules_beyond switches tries json bytes text f reads beyond o = few_traced bytes f o.0 reads beyond o.1

pub trace_beyond : (tries : ℕ) (json : Bool) (bytes text : List ℕ) (f : File) → file_of bytes ≡ Ok f → most_traced < transaction_count f.threads
    → IsOutput (Trace tries json None) bytes text → ⊥
trace_beyond tries json bytes text f reads beyond o = few_traced bytes f o.0 reads beyond o.1

pub draw_beyond : (tries : ℕ) (bytes text : List ℕ) (f : File) → file_of bytes ≡ Ok f → most_traced < transaction_count f.threads
    → IsOutput (Draw tries None) bytes text → ⊥
draw_beyond tries bytes text f reads beyond o = few_traced bytes f o.0 reads beyond o.1

pub schedules_no_script : (switches tries : ℕ) (json : Bool) (bytes text : List ℕ) (fault : ScriptFault) → file_of bytes ≡ Err fault
    → IsOutput (Schedules switches tries json) bytes text → ⊥
schedules_no_script switches tries json bytes text fault none o = let e = sym none ∙ o.1.0.reads in absurd cc

-- so it is with what all orders lead to
told_no_orders : (json : Bool) (f : File) (reports : List OrderReport) → [] ≡ reports_in json f reports → ⊥
told_no_orders true f reports e = no_front e
told_no_orders false f reports e = no_front (none_behind (flat_map (orders.report_text f) (enumerate_from 1 reports)) (orders.sum_line reports) e)

told_none_asked : (json : Bool) (asking : Asking) (all : ℕ) (f : File) (kept : List OrderReport) → [] ≡ asked_in json asking all f kept → ⊥
told_none_asked true asking.Where all f kept e = no_front e
told_none_asked true asking.Never all f kept e = no_front e
told_none_asked false asking.Where all f kept e = no_front (none_behind (flat_map (orders.report_text f) (enumerate_from 1 kept)) (orders.asked_line asking.Where all kept) e)
told_none_asked false asking.Never all f kept e = no_front (none_behind (flat_map (orders.report_text f) (enumerate_from 1 kept)) (orders.asked_line asking.Never all kept) e)

-- whatever is asked
told_none : (json : Bool) (asked : Option Asked) (f : File) (reports : List OrderReport) (answer : Answer) → IsTold json f asked reports answer [] → ⊥
told_none json None f reports answer told = told_no_orders json f reports told.1
told_none json (Some (Where words)) f reports answer told = told_none_asked json asking.Where (length reports) f _ told.told
told_none json (Some (Never words)) f reports answer told = told_none_asked json asking.Never (length reports) f _ told.told

pub explore_nothing : (by : By) (states : ℕ) (json : Bool) (asked : Option Asked) (bytes : List ℕ) → IsOutput (Explore by states json asked) bytes [] → ⊥
explore_nothing by states json asked bytes o = told_none json asked o.1.0 o.1.2.reports o.0 o.1.2.told

-- nor anything of a script whose orders need more nodes than are allowed
pub explore_beyond : (by : By) (states : ℕ) (json : Bool) (asked : Option Asked) (bytes text : List ℕ) (f : File) → file_of bytes ≡ Ok f → states < least_told f.threads
    → IsOutput (Explore by states json asked) bytes text → ⊥
explore_beyond by states json asked bytes text f reads beyond o =
    let same = subst (λ (g : File). least_told g.threads ≤ states) (one_file bytes o.1.0 f o.1.1 reads) o.1.2.allowed in
    omega (arith, same, beyond)

-- what `upgrade` prints begins with its version
pub upgrade_same : IsOutput Upgrade script script → ⊥
unfolding digits int_wrap
upgrade_same o = differ script (text_of (upgraded file)) 0 98 115 refl refl (λ e. omega (arith, e)) (o.2 ∙ ap (λ (f : File). text_of (upgraded f)) (read_as o.0 o.1))

pub upgrade_other : (bytes text other : List ℕ) → IsOutput Upgrade bytes text → IsOutput Upgrade bytes other → (other ≡ text → ⊥) → ⊥
upgrade_other bytes text other o p apart =
    apart (p.2 ∙ ap (λ (f : File). text_of (upgraded f)) (one_file bytes p.0 o.0 p.1 o.1) ∙ sym o.2)

pub gen_nothing : (number : ℕ) (bytes : List ℕ) → IsOutput (Gen number) bytes [] → ⊥
gen_nothing number bytes o = no_front o.0

pub gen_other : (number : ℕ) (bytes others text other : List ℕ) → IsOutput (Gen number) bytes text → IsOutput (Gen number) others other → (other ≡ text → ⊥) → ⊥
gen_other number bytes others text other o p apart = apart (p.0 ∙ sym o.0)
