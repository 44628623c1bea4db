use Rattle.std.proofs.Common.{◌≡◌, ◌+◌, ℕ, suc, Some, arith, ap, ◌∙◌}
use Rattle.sto_array.specs.ArrayedRows.{length-replicate, home_there}
use Rattle.sto_vector.proofs.vector.TVectorTxType.home.Goals as goal

pub returns : goal.returns
returns c =
    let z : 0 + c.args.part ≡ c.args.part = omega arith in
    home_there 0 (suc c.args.self.now.capacity) c.args.part (omega (arith, c.requires, length-replicate (suc c.args.self.now.capacity))) ∙ ap (λ (x : ℕ). Some (0, x)) z
