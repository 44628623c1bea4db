use Rattle.std.proofs.Common.{◌≡◌, ◌∷◌, [], pos, replicate}
use Rattle.sto_vector.proofs.vector.TVectorTxType.opening.Given as goal

abbrev pub invariant-loop : goal.invariant-loop
invariant-loop l = l.contents.items ≡ replicate l.counter (pos 0 ∷ [])
