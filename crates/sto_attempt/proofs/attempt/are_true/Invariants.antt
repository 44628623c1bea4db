use Rattle.std.proofs.Common.{drop, ◌↔◌}
use Rattle.sto_attempt_log.specs.ReadSet.{AllTrueIn}
use Rattle.sto_attempt.proofs.attempt.are_true.Given as goal

-- those that were passed over are true
abbrev pub invariant-loop-place : goal.invariant-loop-place
invariant-loop-place g l = AllTrueIn l.words l.preds ↔ AllTrueIn l.words (drop l.place l.preds)
