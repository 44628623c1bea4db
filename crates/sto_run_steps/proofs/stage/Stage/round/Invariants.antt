use Rattle.std.proofs.Common.{◌≡◌, length, true, false}
use Rattle.sto_run_threads.specs.Orders.{numbers_from}
use Rattle.sto_run_steps.specs.Seated.{AreOver, HaveFewer}
use Rattle.sto_run_steps.specs.Logged.{kept}
use Rattle.sto_run_steps.specs.Turning.{TakeTurns}
use Rattle.sto_run_steps.proofs.stage.Stage.round.Given as goal

abbrev pub invariant-loop-thread : goal.invariant-loop-thread
invariant-loop-thread g l = record {
  turns : TakeTurns (g.W.Work.plan l.work) (g.W.Attempts.fits l.work) g.T.Naming.valid (g.W.Attempts.heard l.work) (numbers_from 0 l.thread) l.fn.self.pass.cells.plain l.fn.self.seats.items (kept l.fn.self.log) l.self.pass.cells.plain l.self.seats.items (kept l.self.log);
  end : l.count ≡ length l.fn.self.seats.items;
  fewer : l.moved ≡ true → HaveFewer (g.W.Attempts.left l.work) (g.W.Attempts.most l.work) l.fn.self.seats.items l.self.seats.items;
  rest : l.moved ≡ false → (l.self.seats.items ≡ l.fn.self.seats.items) × AreOver l.thread l.fn.self.seats.items;
}
