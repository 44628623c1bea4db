use Rattle.std.proofs.Common.{arith, [], Some}
use Rattle.sto_lang.specs.Views.{file as view}
use Rattle.sto_type.specs.Traits.{of_type}
use Rattle.sto_journal.specs.Journals.{places}
use Rattle.sto_run_threads.specs.Told.{told_in}
use Rattle.sto_run_steps.specs.Logged.{kept}
use Rattle.sto_run.proofs.Draws.{few_threads}
use Rattle.sto_run.proofs.Turns.{one_thread_order}
use Rattle.sto_run.proofs.TracedRuns.{run_by}
use Rattle.sto_run.proofs.traced.trace_opened.Goals as goal

pub trace_threads-requires-clause-ready : goal.trace_threads-requires-clause-ready
trace_threads-requires-clause-ready g c = (c.requires.runnable.taken, let some = c.requires.runnable.tries.0 in omega (arith, some))

pub trace_threads-requires-clause-opens : goal.trace_threads-requires-clause-opens
trace_threads-requires-clause-opens g c = c.requires.runnable.opens

pub trace_threads-requires-clause-threads : goal.trace_threads-requires-clause-threads
trace_threads-requires-clause-threads g c = few_threads (view c.args.run.now.work.workload.file.now) c.requires.runnable.sound

pub journal-requires-clause-finished : goal.journal-requires-clause-finished
journal-requires-clause-finished g c = λ κs within. c.in_ok-finished.ensures.finished

pub journal-requires-clause-sound : goal.journal-requires-clause-sound
journal-requires-clause-sound g c = λ κs within. c.requires.runnable.sound

pub journal-requires-clause-type_of : goal.journal-requires-clause-type_of
journal-requires-clause-type_of g c = λ κs within. c.requires.runnable.type_of

pub journal-requires-clause-tries : goal.journal-requires-clause-tries
journal-requires-clause-tries g c = λ κs within. c.requires.runnable.tries.1

pub returns-clause-alone : goal.returns-clause-alone
returns-clause-alone g c = λ few.
    let journal = c.in_ok-journal.journal in record {
      order = one_thread_order (view c.args.run.now.work.workload.file.now) (places journal.lines.items) few c.in_ok-journal.ensures.lawful.order;
      none = c.in_ok-journal.ensures.alone (c.in_ok-finished.ensures.alone few);
    }

pub returns-clause-run_by : goal.returns-clause-run_by
returns-clause-run_by g c =
    let run = c.args.run.now in
    run_by (of_type g.T.Naming g.T.TxType) run.work.ty.now (view run.work.workload.file.now) run.work.tries c.in_ok-journal.journal c.args.schedule.now run.opening.items
    (told_in c.in_ok-finished.finished.records) (Some []) (kept c.in_ok-finished.steps) c.requires.runnable.opens.opened c.in_ok-finished.ensures.traced c.in_ok-journal.ensures.of_records
