use Rattle.std.proofs.Common.{◌≡◌, [], ◌≤◌, ◌+◌, ◌-◌, ◌*◌, length}
use Rattle.sto_run_feed.specs.Passes.{known}
use Rattle.sto_run_feed.specs.Queues.{working}
use Rattle.sto_table.specs.Rests.{IsOf}
use Rattle.sto_run_threads.specs.Accounts.{AddsUp}
use Rattle.sto_run_threads.specs.Worked.{HasWorked, AbortsNone}
use Rattle.sto_run_feed.specs.Jobs.{places_of}
use Rattle.sto_run_feed.specs.QueuePasses.{IsAt}
use Rattle.sto_run_feed.proofs.Serving.{IsServing}
use Rattle.sto_run_threads.specs.Plans.{Rests}
use Rattle.sto_run_threads.specs.Told.{told_in}
use Rattle.sto_run_threads.specs.Teams.{view_at}
use Rattle.sto_run_feed.proofs.server.serve.Given as goal

abbrev pub invariant-loop-thread : goal.invariant-loop-thread
invariant-loop-thread g l = record {
  of : IsOf l.shared l.pass.seat;
  passes : l.pass.shared.now.table.shared.key.passes ≡ l.shared.table.shared.key.passes;
  gathered : l.pass.seat.me.0.view.gathered ≡ (view_at l.fn.server.rest).gathered;
  at : IsAt l.queues l.number l.worker (working (known l.fn.server.worker).jobs (known l.worker).taken);
  within : (known l.worker).taken ≤ length (places_of (known l.fn.server.worker).jobs);
  rests : Rests (g.W.Work.plan l.work) l.pass.seat.me.0.view;
  draws : (view_at l.fn.server.rest).draws ≤ l.pass.seat.me.0.view.draws + (g.W.Work.plan l.work).tries * (known l.worker).taken;
  worked : HasWorked (g.W.Work.plan l.work) l.pass.seat.me.0.view (told_in l.records);
  adds_up : AddsUp (view_at l.fn.server.rest) l.pass.seat.me.0.view [] (told_in l.records);
  alone : l.shared.table.shared.key.passes ≡ 1 → AbortsNone [] (told_in l.records);
  serving : IsServing (g.W.Work.plan l.work).tries (length l.queues) l.number (places_of (known l.fn.server.worker).jobs) (known l.worker).taken (told_in l.records) l.runs;
}

abbrev pub decreases-loop-thread : goal.decreases-loop-thread
decreases-loop-thread g l = length (known l.fn.server.worker).jobs - (known l.worker).taken
