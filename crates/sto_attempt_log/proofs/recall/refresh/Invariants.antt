use Rattle.std.proofs.Common.{drop}
use Rattle.sto_type.specs.Known.{known}
use Rattle.sto_attempt_log.specs.ReadSet.{words_in}
use Rattle.sto_attempt_log.specs.Log.{IsCache}
use Rattle.sto_attempt_log.specs.Refreshed.{outside}
use Rattle.sto_attempt_log.proofs.recall.refresh.Given as goal

abbrev pub invariant-loop-entry : goal.invariant-loop-entry
invariant-loop-entry g l = IsCache (g.T.TxType.meaning l.ty) (words_in l.base.items) l.set.updates (outside (drop l.entry-index l.updates.items) (known l.cache))
