-- The commit is under way, with the replies that were heard.
use Rattle.std.specs.Prelude.{◌≡◌}
use Rattle.sto_model.specs.Run.{Behaviour}
use Rattle.sto_core.specs.declared.view.View.{View}
use Rattle.sto_type.specs.Traits.{of_type}
use Rattle.sto_attempt_log.specs.Remaining.{commit_left}
use Rattle.sto_attempt.specs.Commits.{deal_of}
use Rattle.sto_transaction.specs.Resting.{IsAtRest}
use Rattle.sto_transaction.specs.Machines.{Commits}
use Rattle.sto_interactive.proofs.run_on.finish.Given as goal

abbrev pub invariant-loop-verdict : goal.invariant-loop-verdict
invariant-loop-verdict g l = record {
  commits :
      (ty : g.row.T.Denot) (f : Behaviour) (begun : View) → IsAtRest (g.T.TxType.meaning ty) (g.T.Naming.sizes ty) begun
      → Commits g.T.TxType.meaning g.T.Naming.valid g.T.Naming.sizes g.B.Body.script g.B.Body.then g.B.Body.left g.B.Body.may_ask (g.C.Cells.passes l.fn.cells) ty f l.fn.ready begun (g.C.Cells.view l.fn.cells)
      → Commits g.T.TxType.meaning g.T.Naming.valid g.T.Naming.sizes g.B.Body.script g.B.Body.then g.B.Body.left g.B.Body.may_ask (g.C.Cells.passes l.fn.cells) ty f l.ready begun (g.C.Cells.view l.cells);
  replies : l.ready.log.table.replies ≡ l.fn.ready.log.table.replies;
  same : g.C.Cells.same l.fn.cells l.cells;
}

abbrev pub decreases-loop-verdict : goal.decreases-loop-verdict
decreases-loop-verdict g l = commit_left (deal_of (of_type g.T.Naming g.T.TxType) g.B.Body l.ready) l.ready.commit_phase
