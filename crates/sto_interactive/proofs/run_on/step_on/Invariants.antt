-- The turn has led the attempt from where it stood at the beginning, on the same pass.
use Rattle.sto_model.specs.Run.{Behaviour}
use Rattle.sto_core.specs.declared.view.View.{View}
use Rattle.sto_type.specs.Traits.{of_type}
use Rattle.sto_attempt_log.specs.Bounds.{events_left}
use Rattle.sto_attempt.specs.Attempts.{heard}
use Rattle.sto_transaction.specs.Resting.{IsAtRest}
use Rattle.sto_interactive.specs.Waiting.{HasCome, HearsMore}
use Rattle.sto_interactive.proofs.run_on.step_on.Given as goal

abbrev pub invariant-loop-turn : goal.invariant-loop-turn
invariant-loop-turn g l = record {
  come :
      (ty : g.row.T.Denot) (f : Behaviour) (begun : View) → IsAtRest (g.T.TxType.meaning ty) (g.T.Naming.sizes ty) begun
      → HasCome (of_type g.T.Naming g.T.TxType) g.B.Body (g.C.Cells.passes l.fn.cells) ty f l.fn.turn l.fn.attempt begun (g.C.Cells.view l.fn.cells)
      → HasCome (of_type g.T.Naming g.T.TxType) g.B.Body (g.C.Cells.passes l.fn.cells) ty f l.turn l.attempt begun (g.C.Cells.view l.cells);
  heard : HearsMore (heard l.fn.attempt) (heard l.attempt);
  same : g.C.Cells.same l.fn.cells l.cells;
}

abbrev pub decreases-loop-turn : goal.decreases-loop-turn
decreases-loop-turn g l = events_left (g.B.Body.left l.attempt.log.body) (g.T.TxType.meaning l.attempt.log.ty.now).widths l.attempt.read_phase l.attempt.log.table.words.items l.attempt.log.table.extension l.attempt.log.table.base.items
