use Rattle.std.proofs.Common.{◌≡◌, ◌+◌, ◌++◌, replicate}
use Rattle.sto_part.specs.Stamps.{fresh}
use Rattle.sto_part.proofs.index.lengthen.Given as goal

abbrev pub invariant-loop : goal.invariant-loop
invariant-loop l = (l.stamps.items ≡ l.initial.stamps.items ++ replicate l.counter fresh) × (l.stamps.spare + l.counter ≡ l.initial.stamps.spare)
