use Rattle.std.proofs.Common.{◌≡◌, ◌+◌, drop}
use Rattle.sto_attempt_log.specs.CommitPhases.{due}
use Rattle.sto_attempt_log.proofs.lists.width_of_all.Given as goal

abbrev pub invariant-loop-place : goal.invariant-loop-place
invariant-loop-place g l = l.words + due (g.T.TxType.meaning l.ty).widths (drop l.place l.parts.items) ≡ due (g.T.TxType.meaning l.ty).widths l.parts.items
