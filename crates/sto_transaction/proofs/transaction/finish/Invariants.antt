-- The machine proceeds from the view at the beginning, on the same pass.
use Rattle.sto_model.specs.Run.{Behaviour}
use Rattle.sto_core.specs.declared.view.View.{View}
use Rattle.sto_transaction.specs.Machines.{Proceeds, HasSpent, machine_left}
use Rattle.sto_transaction.proofs.transaction.finish.Given as goal

abbrev pub invariant-loop-machine : goal.invariant-loop-machine
invariant-loop-machine g l = record {
  proceeds :
      (ty : g.row.T.Denot) (f : Behaviour) (begun : View)
      → Proceeds g.T.TxType.meaning g.T.Naming.valid g.T.Naming.sizes g.B.Body.script g.B.Body.then g.B.Body.left g.B.Body.may_ask (g.C.Cells.passes l.fn.cells) ty f l.fn.machine begun (g.C.Cells.view l.fn.cells)
      → Proceeds g.T.TxType.meaning g.T.Naming.valid g.T.Naming.sizes g.B.Body.script g.B.Body.then g.B.Body.left g.B.Body.may_ask (g.C.Cells.passes l.cells) ty f l.machine begun (g.C.Cells.view l.cells);
  goes : HasSpent g.T.TxType.meaning g.T.Naming.valid g.T.Naming.sizes g.B.Body.script g.B.Body.then g.B.Body.left g.B.Body.may_ask g.B.Body.left_at_reset l.fn.machine l.machine (g.C.Cells.view l.fn.cells) (g.C.Cells.view l.cells);
  same : g.C.Cells.same l.fn.cells l.cells;
}

abbrev pub decreases-loop-machine : goal.decreases-loop-machine
decreases-loop-machine g l = machine_left g.T.TxType.meaning g.T.Naming.valid g.T.Naming.sizes g.B.Body.script g.B.Body.then g.B.Body.left g.B.Body.may_ask l.machine
