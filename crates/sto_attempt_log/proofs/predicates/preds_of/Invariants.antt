use Rattle.std.proofs.Common.{◌≡◌, take}
use Rattle.sto_attempt_log.specs.Predicates.{preds_in}
use Rattle.sto_attempt_log.proofs.predicates.preds_of.Given as goal

abbrev pub invariant-loop-item : goal.invariant-loop-item
invariant-loop-item l = l.found.items ≡ preds_in (take l.item-index l.items)
