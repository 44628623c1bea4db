use Rattle.std.proofs.Common.{◌≡◌, ℕ, subst, arith, w64}
use Rattle.std.specs.Int.RustNames.{FitsSigned}
use Rattle.std.proofs.lemmas.Int.{to_z-of_z}
use Rattle.sto_tree.specs.KnownCount.{counted_keys}
use Rattle.sto_tree.proofs.count.count_keys.Goals as goal

pub returns-clause-count : goal.returns-clause-count
returns-clause-count c =
    let f : FitsSigned w64 c.args.from = c.ranges.from in
    let g : FitsSigned w64 c.args.to = c.ranges.to in
    let invariant = simp to_z-of_z at c.loop-place.invariant.0 in
    let end : c.loop-place.place ≡ 8 = omega arith in
    subst (λ (n : ℕ). c.loop-place.found ≡ counted_keys c.args.keys.now c.args.from c.args.to n) end invariant
