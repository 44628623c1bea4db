use Rattle.std.proofs.Common.{◌≡◌, take}
use Rattle.sto_part.specs.Changes.{applied_all}
use Rattle.sto_attempt_log.proofs.recall.install_all.Given as goal

abbrev pub invariant-loop-place : goal.invariant-loop-place
invariant-loop-place g l = l.words.items ≡ applied_all (take l.place l.changes) l.fn.words.items
