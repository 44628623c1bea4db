use Rattle.std.proofs.Common.{◌≡◌, ◌≤◌, List, length, sym, subst, ap, arith, None}
use Rattle.sto_lang.specs.declared.file.Turns.{Turns}
use Rattle.sto_run_threads.specs.Told.{told_in}
use Rattle.std.proofs.lemmas.Result.{IfOk-weaker}
use Rattle.sto_lang.specs.Views.{file as view}
use Rattle.sto_run_threads.specs.declared.workload.BorrowedFile.{BorrowedFile}
use Rattle.sto_run.proofs.Draws.{few_threads}
use Rattle.sto_lang.specs.Objects.{shapes_of}
use Rattle.sto_store.proofs.ObjectMeanings.{objects_mean}
use Rattle.sto_report_spec.specs.Orders.{IsOrder}
use Rattle.sto_journal.specs.Journals.{places}
use Rattle.sto_run.proofs.Turns.{one_thread_order, ran_alone}
use Rattle.sto_run.proofs.RunJournals.{lawful_run}
use Rattle.sto_run.specs.Traced.{IsRunFrom, of_objects, turns_in}
use Rattle.sto_run.proofs.TracedRuns.{run_by, moved}
use Rattle.sto_run.proofs.step.step_file.Goals as goal

pub step_threads-requires-clause-ready : goal.step_threads-requires-clause-ready
step_threads-requires-clause-ready c = (c.in_ok-run.ensures.runnable.taken, let some = c.in_ok-run.ensures.runnable.tries.0 in omega (arith, some))

pub step_threads-requires-clause-opens : goal.step_threads-requires-clause-opens
step_threads-requires-clause-opens c = c.in_ok-run.ensures.runnable.opens

pub step_threads-requires-clause-threads : goal.step_threads-requires-clause-threads
step_threads-requires-clause-threads c = few_threads (view c.in_ok-run.run'.work.workload.file.now) c.in_ok-run.ensures.runnable.sound

pub step_threads-requires-clause-schedule : goal.step_threads-requires-clause-schedule
step_threads-requires-clause-schedule c = c.turns_of.ensures.inside

pub journal-requires-clause-finished : goal.journal-requires-clause-finished
journal-requires-clause-finished c = λ κs within. c.in_ok-finished.ensures.finished

pub journal-requires-clause-sound : goal.journal-requires-clause-sound
journal-requires-clause-sound c = λ κs within. c.in_ok-run.ensures.runnable.sound

pub journal-requires-clause-type_of : goal.journal-requires-clause-type_of
journal-requires-clause-type_of c = λ κs within. c.in_ok-run.ensures.runnable.type_of

pub journal-requires-clause-tries : goal.journal-requires-clause-tries
journal-requires-clause-tries c = λ κs within. c.in_ok-run.ensures.runnable.tries.1

pub turns_of-requires : goal.turns_of-requires
turns_of-requires c = c.in_ok-run.ensures.runnable.sound.scheduled

pub returns-clause-alone : goal.returns-clause-alone
returns-clause-alone c = λ few.
    let same = c.in_ok-run.ensures.of in
    ran_alone (view c.args.file.now) c.journal.result
    (c.journal.ensures.alone (c.in_ok-finished.ensures.alone (subst (λ (f : BorrowedFile). length (view f.file.now).threads ≤ 1) (sym same.0) few)))
    (IfOk-weaker c.journal.result _ _
    (λ j h. one_thread_order (view c.args.file.now) (places j.lines.items) few (subst (λ (f : BorrowedFile). IsOrder (view f.file.now) (places j.lines.items)) same.0 h.order))
    c.journal.ensures.lawful)

pub returns-clause-lawful : goal.returns-clause-lawful
returns-clause-lawful c =
    let same = c.in_ok-run.ensures.of in
    IfOk-weaker c.journal.result _ _
    (λ j h. lawful_run c.in_ok-objects.objects c.in_ok-run.run'.work.ty.now (view c.in_ok-run.run'.work.workload.file.now) (view c.args.file.now) _ c.args.tries j
    (objects_mean c.in_ok-objects.objects (shapes_of (view c.args.file.now).declarations) c.in_ok-objects.ensures.kinds) (ap (λ (f : BorrowedFile). view f.file.now) same.0, same.1, same.2) h)
    c.journal.ensures.lawful

pub returns-clause-stepped : goal.returns-clause-stepped
returns-clause-stepped c =
    let same = c.in_ok-run.ensures.of in
    let run = c.in_ok-run.run' in
    let work = run.work in
    let here = ap (λ (f : BorrowedFile). view f.file.now) same.0 in
    IfOk-weaker c.journal.result _ _
    (λ j h. record {
      objects = c.in_ok-objects.objects;
      kinds = c.in_ok-objects.ensures.kinds;
      run = moved (λ ty file tries. IsRunFrom of_objects ty file tries (turns_in file.schedule) None j None) work.ty.now c.in_ok-objects.objects (view work.workload.file.now) (view c.args.file.now)
          work.tries c.args.tries here same.1 same.2
          (subst (λ (s : List Turns). IsRunFrom of_objects work.ty.now (view work.workload.file.now) work.tries s None j None) c.turns_of.ensures.same
          (run_by of_objects work.ty.now (view work.workload.file.now) work.tries j c.turns_of.result.now run.opening.items
          (told_in c.in_ok-finished.finished.records) None None c.in_ok-run.ensures.runnable.opens.opened c.in_ok-finished.ensures.stepped h));
    })
    c.journal.ensures.of_records
