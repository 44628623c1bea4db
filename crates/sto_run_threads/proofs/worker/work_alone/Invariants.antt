use Rattle.std.proofs.Common.{◌≡◌, [], ◌≤◌, ◌+◌, ◌-◌, ◌*◌, length}
use Rattle.sto_table.specs.Taken.{past}
use Rattle.sto_table.specs.Rests.{IsOf}
use Rattle.sto_run_threads.specs.Accounts.{AddsUp}
use Rattle.sto_run_threads.specs.Counts.{scripts_from, next_after}
use Rattle.sto_run_threads.specs.Worked.{HasWorked, AreOf, AreDone, AbortsNone}
use Rattle.sto_run_threads.specs.Ordered.{RunsInOrder}
use Rattle.sto_run_threads.specs.Plans.{Rests, draws_of}
use Rattle.sto_run_threads.specs.Told.{told_in}
use Rattle.sto_run_threads.specs.Teams.{view_at}
use Rattle.sto_run_threads.proofs.worker.work_alone.Given as goal

abbrev pub invariant-loop-thread : goal.invariant-loop-thread
invariant-loop-thread g l = record {
  of : IsOf l.shared l.pass.seat;
  passes : l.pass.shared.now.table.shared.key.passes ≡ l.shared.table.shared.key.passes;
  gathered : l.pass.seat.me.0.view.gathered ≡ (view_at l.fn.worker.rest).gathered;
  claimer : l.claimer.seat.table_id ≡ l.claims.table.shared.table_id;
  seats : l.claimer.seat.me.0.seats ≡ l.fn.worker.claimer.seat.me.0.seats;
  open_still : past l.claims.table.shared.key.count l.claimer.seat.me.0.numbers ≡ 0;
  rests : Rests (g.W.Work.plan l.work) l.pass.seat.me.0.view;
  draws : (view_at l.fn.worker.rest).draws + (g.W.Work.plan l.work).tries * scripts_from (g.W.Work.plan l.work).file.threads (next_after l.claimer.seat.me.0.numbers) ≤ l.pass.seat.me.0.view.draws + draws_of (g.W.Work.plan l.work);
  within : next_after l.claimer.seat.me.0.numbers ≤ length (g.W.Work.plan l.work).file.threads;
  worked : HasWorked (g.W.Work.plan l.work) l.pass.seat.me.0.view (told_in l.records);
  adds_up : AddsUp (view_at l.fn.worker.rest) l.pass.seat.me.0.view [] (told_in l.records);
  alone : l.shared.table.shared.key.passes ≡ 1 → AbortsNone [] (told_in l.records);
  in_order : RunsInOrder (0, 0) (next_after l.claimer.seat.me.0.numbers, 0) [] (told_in l.records);
  own : AreOf l.claimer.seat.me.0.numbers (told_in l.records);
  done : AreDone (g.W.Work.plan l.work) l.claimer.seat.me.0.numbers (told_in l.records);
}

abbrev pub decreases-loop-thread : goal.decreases-loop-thread
decreases-loop-thread g l = length (g.W.Work.plan l.work).file.threads - next_after l.claimer.seat.me.0.numbers
