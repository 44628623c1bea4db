use Rattle.std.proofs.Common.{length}
use Rattle.sto_type.specs.Known.{known, unknown}
use Rattle.sto_attempt_log.specs.ReadSet.{words_in}
use Rattle.sto_attempt_log.specs.Log.{IsCache}
use Rattle.sto_attempt_log.proofs.recall.ask.Given as goal

abbrev pub invariant-loop-part : goal.invariant-loop-part
invariant-loop-part g l = IsCache (g.T.TxType.meaning l.ty) (words_in l.base.items) l.set.updates (known l.cache)

abbrev pub decreases-loop-part : goal.decreases-loop-part
decreases-loop-part g l = unknown (length (g.T.TxType.meaning l.ty).widths) (known l.cache)
