-- All attempts so far were aborted; the body that is tried next has the same script.
use Rattle.std.proofs.Common.{◌≡◌, map}
use Rattle.sto_model.specs.declared.call.Call.{Call}
use Rattle.sto_transaction.specs.Pace.{most_steps, KeepsPace}
use Rattle.sto_transaction.specs.Plain.{plain}
use Rattle.sto_transaction.proofs.Tries.{HasRetried}
use Rattle.sto_transaction.proofs.transaction.Transaction.run.Given as goal

abbrev pub invariant-loop-aborted : goal.invariant-loop-aborted
invariant-loop-aborted g l = record {
  retried :
      HasRetried (g.T.TxType.meaning l.ty) (g.T.Naming.sizes l.ty) (g.C.Cells.passes l.fn.cells) l.aborted (g.C.Cells.view l.fn.cells) (g.C.Cells.view l.cells)
      (g.B.Body.script l.fn.self.body) (l.thread, l.position) (map plain l.fn.records.items) (map plain l.records.items);
  script : g.B.Body.script l.body ≡ g.B.Body.script l.fn.self.body;
  calls : g.B.Body.left_at_reset l.body ≡ g.B.Body.left_at_reset l.fn.self.body;
  pace : KeepsPace (most_steps (g.T.TxType.meaning l.ty) (g.B.Body.left_at_reset l.fn.self.body)) (g.C.Cells.view l.fn.cells) (g.C.Cells.view l.cells);
  takes : (call : Call) → g.B.Body.may_ask l.body call → (g.T.TxType.meaning l.ty).takes call;
  same : g.C.Cells.same l.fn.cells l.cells;
}
