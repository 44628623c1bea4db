use Rattle.std.proofs.Common.{ℕ, length}
use Rattle.sto_run_steps.specs.Seated.{events_of_all}
use Rattle.sto_run_steps.specs.Logged.{kept}
use Rattle.sto_run_steps.specs.Turning.{TakeTurns, round_turns}
use Rattle.sto_run_steps.proofs.stage.Stage.finish.Given as goal

abbrev pub invariant-loop-moved : goal.invariant-loop-moved
invariant-loop-moved g l = record {
  turns : (rounds : ℕ) × TakeTurns (g.W.Work.plan l.work) (g.W.Attempts.fits l.work) g.T.Naming.valid (g.W.Attempts.heard l.work) (round_turns (length l.fn.self.seats.items) rounds) l.fn.self.pass.cells.plain l.fn.self.seats.items (kept l.fn.self.log) l.self.pass.cells.plain l.self.seats.items (kept l.self.log);
}

abbrev pub decreases-loop-moved : goal.decreases-loop-moved
decreases-loop-moved g l = events_of_all (g.W.Attempts.left l.work) (g.W.Attempts.most l.work) l.self.seats.items
