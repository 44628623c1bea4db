use Rattle.std.proofs.Common.{◌≡◌, replicate}
use Rattle.sto_part.specs.declared.change.Change.TheVariants.{Keep}
use Rattle.sto_type.proofs.pool.AnswerPool.unchanged.Given as goal

abbrev pub invariant-loop : goal.invariant-loop
invariant-loop l = l.update.items ≡ replicate l.counter Keep
