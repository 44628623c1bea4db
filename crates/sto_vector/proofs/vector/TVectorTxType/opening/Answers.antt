use Rattle.std.proofs.Common.{◌≡◌, ℕ, ℤ, List, [], ◌∷◌, pos, suc, replicate, ap, ◌∙◌, arith}
use Rattle.sto_vector.proofs.vector.TVectorTxType.opening.Goals as goal

pub returns : goal.returns
returns c =
    let all : c.loop.counter ≡ suc c.args.self.now.capacity = omega (arith, c.loop-test.false, c.loop.auto.counter-end) in
    c.loop.invariant ∙ ap (λ (n : ℕ). replicate {A = List ℤ} n (pos 0 ∷ [])) all
