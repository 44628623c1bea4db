-- Which traces of the two threads are none.
use Rattle.std.specs.Fmt.{digits}
use Rattle.std.specs.Int.{int_wrap}
use Rattle.std.specs.Prelude.{codes}
use Rattle.std.specs.List.{flat_map}
use Rattle.std.proofs.Common.{◌≡◌, ℕ, ◌<◌, List, [], ◌∷◌, Bool, true, false, None, Some, Ok, refl, sym, ◌∙◌, subst, arith}
use Rattle.serde_json.specs.Written.{compact_text}
use Rattle.sto_lang.specs.Files.{file_of}
use Rattle.sto_lang.specs.Scripts.{File}
use Rattle.sto_lang.specs.declared.file.Turns.{Turns}
use Rattle.sto_core.specs.Opened.{opened_core}
use Rattle.sto_trace.specs.declared.Step.{Step}
use Rattle.sto_trace_text.specs.Texts.{Names}
use Rattle.sto_trace_text.specs.Events.{event_after, events_after}
use Rattle.sto_trace_text.specs.Json.{event_data, json_line}
use Rattle.sto_journal.specs.declared.journal.Journal.{Journal}
use Rattle.sto_store.specs.declared.objects.Objects.{Objects}
use Rattle.sto_run_threads.specs.Plans.{plan_of}
use Rattle.sto_run_steps.specs.Logged.{RunLog}
use Rattle.sto_run_steps.specs.Proceeding.{heard_by, ProceedsAt}
use Rattle.sto_run_steps.proofs.Nothing.{not_nothing}
use Rattle.sto_run.specs.Traced.{turns_in, of_objects, IsRunFrom, IsTraceOf}
use Rattle.sto_draw.specs.Drawn.{IsPicture}
use Rattle.sto_cli.specs.Traces.{AreLinesOf, IsTrace}
use Rattle.sto_args.specs.declared.command.Command.TheVariants.{Trace}
use Rattle.sto_cli.specs.Outputs.{IsOutput}
use Rattle.sto_test_refusals.proofs.Lists.{none_behind}
use Rattle.sto_test_program_refusals.specs.Inputs.{lost_update, lost_update_file}
use Rattle.sto_test_program_refusals.proofs.Scheduled.{scheduled_as}
use Rattle.sto_test_program_refusals.proofs.Texts.{no_front, none_before}
use Rattle.sto_test_program_refusals.proofs.Runs.{not_one_event, not_still}

pub no_events : (journal : Journal) (homes : List (ℕ × ℕ)) → IsTraceOf lost_update_file 64 journal homes (Some []) → ⊥
no_events journal homes t =
    let first : 0 < 2 = omega arith in let some : 0 < 1 = omega arith in let try : 0 < 64 = omega arith in
    not_nothing (plan_of of_objects t.objects lost_update_file 64) (ProceedsAt of_objects lost_update_file t.objects) of_objects.valid heard_by
    (turns_in lost_update_file.schedule) _ t.traced.records 0 first some try t.traced.stepped

pub one_event : (journal : Journal) (homes : List (ℕ × ℕ)) (step : Step) → IsTraceOf lost_update_file 64 journal homes (Some (step ∷ [])) → ⊥
one_event journal homes step t =
    let two : 1 < 2 = omega arith in let some : 0 < 1 = omega arith in let try : 0 < 64 = omega arith in
    not_one_event (plan_of of_objects t.objects lost_update_file 64) (ProceedsAt of_objects lost_update_file t.objects) of_objects.valid heard_by
    (turns_in lost_update_file.schedule) _ t.traced.records step try t.traced.stepped two some some

pub not_still_words : (objects : Objects) (schedule : List Turns) (first last : RunLog) (journal : Journal) (r : IsRunFrom of_objects objects lost_update_file 64 schedule first journal last)
    → r.stepped.stepped ≡ opened_core (of_objects.sizes objects) (of_objects.meaning objects).opened 2 → ⊥
not_still_words objects schedule first last journal r same =
    let inside : 0 < 2 = omega arith in let some : 0 < 1 = omega arith in let try : 0 < 64 = omega arith in
    not_still (plan_of of_objects objects lost_update_file 64) (ProceedsAt of_objects lost_update_file objects) of_objects.valid heard_by schedule _ first last r.records r.stepped
    0 inside some try refl same

-- nothing is the lines of no event alone
no_lines : (json : Bool) (file : File) (homes : List (ℕ × ℕ)) (steps : RunLog) → AreLinesOf json file homes steps [] → steps ≡ Some []
unfolding digits
no_lines json file homes None l = absurd l
no_lines json file homes (Some []) l = refl
no_lines false file homes (Some (x ∷ xs)) l = absurd (no_front l)
no_lines true file homes (Some (x ∷ xs)) l =
    let names : Names = record { file = file; homes = homes } in
    let line = json_line names (event_after file [] x) in
    let front : [] ≡ line = none_before line (flat_map (json_line names) (events_after file (x ∷ []) xs)) l in
    absurd (no_front (none_behind (compact_text (event_data names (event_after file [] x))) (codes "\n") front))

pub reads_lost_update : file_of lost_update ≡ Ok lost_update_file
unfolding digits int_wrap
reads_lost_update = refl

traced : (json : Bool) (file : File) → file ≡ lost_update_file → IsTrace 64 json file [] → ⊥
traced json file same t =
    let steps = no_lines json file t.homes t.steps t.lines in
    no_events t.journal t.homes
    (subst (λ (f : File). IsTraceOf f 64 t.journal t.homes (Some [])) same
    (subst (λ (o : RunLog). IsTraceOf file 64 t.journal t.homes o) steps t.run))

pub trace_nothing : (json : Bool) → IsOutput (Trace 64 json None) lost_update [] → ⊥
trace_nothing json o = traced json o.0 (scheduled_as lost_update lost_update_file o.0 reads_lost_update o.1.0) o.2

pub no_event_drawn : (text : List ℕ) (p : IsPicture 64 lost_update_file text) → p.steps ≡ [] → ⊥
no_event_drawn text p none = no_events p.journal p.homes (subst (λ (steps : List Step). IsTraceOf lost_update_file 64 p.journal p.homes (Some steps)) none p.run)
