-- What is kept of weights has one proof at most, so that a ghost field may hold it.
use Rattle.std.proofs.Common.{List, Option, IfSome}
use Rattle.std.proofs.Props.{props}
use Rattle.sto_model.specs.declared.shape.Shape.{Shape}
use Rattle.sto_lang.specs.declared.open_transaction.OpenTransaction.{OpenTransaction}
use Rattle.sto_lang.specs.declared.open_transaction.OpenBlock.{OpenBlock}
use Rattle.sto_lang.specs.declared.open_transaction.OpenBlock.TheVariants.{FirstBranch, SecondBranch, Repetition}
use Rattle.sto_lang.specs.Weighed.{IsWeighedBlock, AreWeighed}

block_prop : (shapes : List Shape) (b : OpenBlock) → IsProp (IsWeighedBlock shapes b)
block_prop shapes (FirstBranch before a test b) = hlevel props
block_prop shapes (SecondBranch before a test b first) = hlevel props
block_prop shapes (Repetition before times) = hlevel props

begun_prop : (shapes : List Shape) (t : OpenTransaction) → IsProp (AreWeighed shapes t)
begun_prop shapes t = hlevel (props, block_prop)

pub inside_prop : (shapes : List Shape) (o : Option OpenTransaction) → IsProp (IfSome o (AreWeighed shapes))
inside_prop shapes o = hlevel (props, begun_prop)
