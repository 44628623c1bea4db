use Rattle.std.specs.List.{flat_map}
use Rattle.std.proofs.Common.{take}
use Rattle.sto_run_steps.specs.Logged.{kept}
use Rattle.sto_run_steps.specs.Turning.{TakeTurns, entry_turns}
use Rattle.sto_run_steps.proofs.stage.Stage.follow.Given as goal

abbrev pub invariant-loop-turns : goal.invariant-loop-turns
invariant-loop-turns g l = record {
  turns : TakeTurns (g.W.Work.plan l.work) (g.W.Attempts.fits l.work) g.T.Naming.valid (g.W.Attempts.heard l.work) (flat_map entry_turns (take l.turns-index l.schedule)) l.fn.self.pass.cells.plain l.fn.self.seats.items (kept l.fn.self.log) l.self.pass.cells.plain l.self.seats.items (kept l.self.log);
}
