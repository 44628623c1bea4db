use Rattle.std.specs.Prelude.{MatchOption}
use Rattle.std.proofs.Common.{◌≡◌, ◌≤◌}
use Rattle.sto_history.specs.Added.{Grows}
use Rattle.sto_transaction.specs.Resting.{IsAtRest}
use Rattle.sto_action.specs.Atomic.{HaveAborted, HaveAbortedBy}
use Rattle.sto_once.proofs.atomic.atomically.Given as goal

abbrev pub invariant-loop-aborted : goal.invariant-loop-aborted
invariant-loop-aborted g l = record {
  rests : IsAtRest (g.T.TxType.meaning l.ty) (g.T.Naming.sizes l.ty) (g.C.Cells.view l.pass);
  left : l.left ≤ (g.C.Cells.view l.pass).draws;
  grows : Grows (g.C.Cells.view l.fn.cells) (g.C.Cells.view l.pass);
  made : HaveAborted (g.C.Cells.view l.fn.cells) (g.C.Cells.view l.pass) l.aborted;
  last : MatchOption l.last (l.aborted ≡ 0) (HaveAbortedBy (g.T.TxType.meaning l.ty) (g.C.Cells.view l.fn.cells) (g.C.Cells.view l.pass) l.aborted);
  alone : g.C.Cells.passes l.fn.cells ≡ 1 → l.aborted ≡ 0;
  same : g.C.Cells.same l.fn.cells l.pass;
}
