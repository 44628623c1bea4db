use Rattle.std.proofs.Common.{replicate}
use Rattle.sto_run_steps.specs.Logged.{kept}
use Rattle.sto_run_steps.specs.Turning.{TakeTurns}
use Rattle.sto_run_steps.proofs.stage.Stage.take_turns.Given as goal

abbrev pub invariant-loop : goal.invariant-loop
invariant-loop g l = record {
  turns : TakeTurns (g.W.Work.plan l.work) (g.W.Attempts.fits l.work) g.T.Naming.valid (g.W.Attempts.heard l.work) (replicate l.counter l.turns.thread) l.fn.self.pass.cells.plain l.fn.self.seats.items (kept l.fn.self.log) l.self.pass.cells.plain l.self.seats.items (kept l.self.log);
}
