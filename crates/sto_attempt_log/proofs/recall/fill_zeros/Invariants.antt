use Rattle.std.proofs.Common.{◌≡◌, ◌≤◌, ◌+◌, replicate, pos}
use Rattle.sto_attempt_log.proofs.recall.fill_zeros.Given as goal

abbrev pub invariant-loop : goal.invariant-loop
invariant-loop l = (l.scratch.items ≡ replicate l.counter (pos 0)) × (l.width ≤ l.scratch.spare + l.counter)
