use Rattle.std.proofs.Common.{◌≡◌, ◌≤◌, ◌<◌, ◌*◌, ℕ}
use Rattle.sto_report_spec.specs.Orders.{count_in}
use Rattle.sto_run_threads.specs.Accounts.{AddsUp}
use Rattle.sto_run_threads.specs.Counts.{scripts_from}
use Rattle.sto_run_threads.specs.Running.{ended_of}
use Rattle.sto_run_threads.specs.Worked.{HasWorked, AbortsNone}
use Rattle.sto_run_threads.specs.Plans.{Rests}
use Rattle.sto_run_threads.specs.Told.{told_in}
use Rattle.sto_run_threads.specs.Ordered.{RunsInOrder}
use Rattle.sto_run_threads.proofs.left.run_left.Given as goal

abbrev pub invariant-loop-thread : goal.invariant-loop-thread
invariant-loop-thread g l = record {
  rests : Rests (g.W.Work.plan l.work) (g.C.Cells.view l.cells);
  draws : (g.W.Work.plan l.work).tries * scripts_from (g.W.Work.plan l.work).file.threads l.thread ≤ (g.C.Cells.view l.cells).draws;
  worked : HasWorked (g.W.Work.plan l.work) (g.C.Cells.view l.cells) (told_in l.records);
  none : AbortsNone (told_in l.fn.records) (told_in l.records);
  in_order : RunsInOrder (0, 0) (l.thread, 0) (told_in l.fn.records) (told_in l.records);
  adds_up : AddsUp (g.C.Cells.view l.fn.cells) (g.C.Cells.view l.cells) (told_in l.fn.records) (told_in l.records);
  all : (u : ℕ) → u < l.thread → ended_of u (told_in l.records) ≡ count_in (g.W.Work.plan l.work).file.threads u;
  same : g.C.Cells.same l.fn.cells l.cells;
}
