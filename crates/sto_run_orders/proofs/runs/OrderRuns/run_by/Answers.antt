use Rattle.std.specs.Prelude.{Some, []}
use Rattle.std.proofs.Common.{arith}
use Rattle.sto_journal.specs.Journals.{places}
use Rattle.sto_run_threads.specs.Told.{told_in}
use Rattle.sto_run_steps.specs.Logged.{kept}
use Rattle.sto_run.specs.Traced.{of_objects}
use Rattle.sto_run.proofs.Draws.{few_threads}
use Rattle.sto_run.proofs.TracedRuns.{run_by, untold}
use Rattle.sto_run.proofs.Turns.{one_thread_order}
use Rattle.sto_run_orders.specs.Ready.{objects_of, file_of, tries_of}
use Rattle.sto_run_orders.proofs.Reporting.{lawful_by_shapes}
use Rattle.sto_run_orders.proofs.runs.OrderRuns.run_by.Goals as goal

pub trace_threads-requires-clause-ready : goal.trace_threads-requires-clause-ready
trace_threads-requires-clause-ready c = (c.requires.ready.runnable.taken, let some = c.requires.ready.runnable.tries.0 in omega (arith, some))

pub trace_threads-requires-clause-opens : goal.trace_threads-requires-clause-opens
trace_threads-requires-clause-opens c = c.requires.ready.runnable.opens

pub trace_threads-requires-clause-threads : goal.trace_threads-requires-clause-threads
trace_threads-requires-clause-threads c = few_threads (file_of c.args.self.now) c.requires.ready.runnable.sound

pub returns : goal.returns
returns c =
    let r = c.args.self.now in
    let journal = c.in_ok-journal.journal in
    let schedule = c.args.schedule.now in
    let lawful = lawful_by_shapes (objects_of r) (file_of r) (tries_of r) journal c.requires.ready.kinds c.in_ok-journal.ensures.lawful in
    record {
      run = untold of_objects (objects_of r) (file_of r) (tries_of r) schedule journal (Some []) (kept c.in_ok-finished.steps)
          (run_by of_objects (objects_of r) (file_of r) (tries_of r) journal schedule r.run.now.opening.items (told_in c.in_ok-finished.finished.records) (Some []) (kept c.in_ok-finished.steps)
          c.requires.ready.runnable.opens.opened c.in_ok-finished.ensures.traced c.in_ok-journal.ensures.of_records);
      lawful = lawful;
      alone = λ few. record {
        order = one_thread_order (file_of r) (places journal.lines.items) few lawful.order;
        none = c.in_ok-journal.ensures.alone (c.in_ok-finished.ensures.alone few);
      };
    }
