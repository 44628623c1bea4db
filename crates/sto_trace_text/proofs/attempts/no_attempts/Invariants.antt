use Rattle.std.proofs.Common.{◌≡◌, None, replicate}
use Rattle.sto_trace_text.proofs.attempts.no_attempts.Given as goal

abbrev pub invariant-loop-thread : goal.invariant-loop-thread
invariant-loop-thread l = l.attempts.items ≡ replicate l._thread-index None
