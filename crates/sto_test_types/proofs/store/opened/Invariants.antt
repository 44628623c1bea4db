use Rattle.sto_type.specs.Known.{known, IsPartOf}
use Rattle.sto_test_types.proofs.store.opened.Given as goal

abbrev pub invariant-loop-part : goal.invariant-loop-part
invariant-loop-part g l = IsPartOf (known l.cache) (g.T.TxType.meaning l.ty).opened
