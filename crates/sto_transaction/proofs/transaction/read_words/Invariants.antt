-- The attempt proceeds from the view at the beginning, and the words that are left are counted.
use Rattle.std.proofs.Common.{◌≡◌, ◌+◌, length}
use Rattle.sto_model.specs.Run.{Behaviour}
use Rattle.sto_core.specs.declared.view.View.{View}
use Rattle.sto_type.specs.Traits.{of_type}
use Rattle.sto_attempt.specs.Attempts.{words_left}
use Rattle.sto_transaction.specs.declared.machine.Machine.TheVariants.{Running}
use Rattle.sto_transaction.specs.Machines.{Proceeds, HasSpent}
use Rattle.sto_transaction.proofs.transaction.read_words.Given as goal

abbrev pub invariant-loop : goal.invariant-loop
invariant-loop g l = record {
  proceeds :
      (ty : g.row.T.Denot) (f : Behaviour) (begun : View)
      → Proceeds g.T.TxType.meaning g.T.Naming.valid g.T.Naming.sizes g.B.Body.script g.B.Body.then g.B.Body.left g.B.Body.may_ask (g.C.Cells.passes l.fn.cells) ty f (Running l.fn.attempt) begun (g.C.Cells.view l.fn.cells)
      → Proceeds g.T.TxType.meaning g.T.Naming.valid g.T.Naming.sizes g.B.Body.script g.B.Body.then g.B.Body.left g.B.Body.may_ask (g.C.Cells.passes l.cells) ty f (Running l.attempt) begun (g.C.Cells.view l.cells);
  goes : HasSpent g.T.TxType.meaning g.T.Naming.valid g.T.Naming.sizes g.B.Body.script g.B.Body.then g.B.Body.left g.B.Body.may_ask g.B.Body.left_at_reset (Running l.fn.attempt) (Running l.attempt) (g.C.Cells.view l.fn.cells) (g.C.Cells.view l.cells);
  words : words_left (of_type g.T.Naming g.T.TxType) g.B.Body l.attempt + l.counter ≡ words_left (of_type g.T.Naming g.T.TxType) g.B.Body l.fn.attempt;
  long : length l.attempt.log.table.words.items ≡ length l.fn.attempt.log.table.words.items + l.counter;
  same : g.C.Cells.same l.fn.cells l.cells;
}
