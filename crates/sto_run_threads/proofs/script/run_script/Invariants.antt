use Rattle.std.proofs.Common.{◌≡◌, ◌≤◌, ◌+◌, ◌-◌, ◌*◌}
use Rattle.sto_run_threads.specs.Accounts.{AddsUp}
use Rattle.sto_run_threads.specs.Running.{ended_of}
use Rattle.sto_run_threads.specs.Worked.{HasWorked, IsFresh, AddsTo, AbortsNone}
use Rattle.sto_run_threads.specs.Plans.{Rests}
use Rattle.sto_run_threads.specs.Told.{told_in}
use Rattle.sto_run_threads.specs.Ordered.{RunsInOrder}
use Rattle.sto_run_threads.proofs.script.run_script.Given as goal

abbrev pub invariant-loop-position : goal.invariant-loop-position
invariant-loop-position g l = record {
  ended : ended_of l.thread (told_in l.records) ≡ l.position;
  fresh : IsFresh (g.W.Work.plan l.work).tries (g.C.Cells.passes l.fn.cells) l.thread (told_in l.records);
  rests : Rests (g.W.Work.plan l.work) (g.C.Cells.view l.cells);
  draws : (g.W.Work.plan l.work).tries * (l.count - l.position) ≤ (g.C.Cells.view l.cells).draws;
  spent : (g.C.Cells.view l.fn.cells).draws ≤ (g.C.Cells.view l.cells).draws + (g.W.Work.plan l.work).tries * (l.position - l.ended);
  worked : HasWorked (g.W.Work.plan l.work) (g.C.Cells.view l.cells) (told_in l.records);
  adds : AddsTo l.thread (told_in l.fn.records) (told_in l.records);
  alone : g.C.Cells.passes l.fn.cells ≡ 1 → AbortsNone (told_in l.fn.records) (told_in l.records);
  in_order : RunsInOrder (l.thread, l.ended + 1) (l.thread, l.position + 1) (told_in l.fn.records) (told_in l.records);
  adds_up : AddsUp (g.C.Cells.view l.fn.cells) (g.C.Cells.view l.cells) (told_in l.fn.records) (told_in l.records);
  same : g.C.Cells.same l.fn.cells l.cells;
}
