use Rattle.std.proofs.Common.{length}
use Rattle.sto_item.specs.Pending.{applied_updates}
use Rattle.sto_type.specs.Known.{known, unknown, IsPartOf}
use Rattle.sto_test_alone.proofs.asking.ask_call.Given as goal

abbrev pub invariant-loop-pool : goal.invariant-loop-pool
invariant-loop-pool g l = IsPartOf (known l.cache) (applied_updates l.pending.updates l.contents.items)

abbrev pub decreases-loop-pool : goal.decreases-loop-pool
decreases-loop-pool g l = unknown (length (g.T.TxType.meaning l.ty).widths) (known l.cache)
