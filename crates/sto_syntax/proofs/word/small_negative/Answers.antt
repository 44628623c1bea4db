use Rattle.std.proofs.Common.{◌≡◌, ◌<◌, ◌^◌, ℕ, arith}
use Rattle.std.proofs.lemmas.Int.{to_z-of_z}
use Rattle.std.proofs.lemmas.Bool.Decides.{nat_tests}
use Rattle.sto_syntax.proofs.Numbers.{negative_is, negative_fits}
use Rattle.sto_syntax.proofs.word.small_negative.Goals as goal

pub returns : goal.returns
returns c =
    let n : ℕ = c.in_ok-value.value in
    let small : n < 2 ^ 32 = grind arith in
    let some : n ≡ 0 → ⊥ = grind (arith, nat_tests) in
    let fits = negative_fits n c.from.result small c.from.ensures in
    let first = fits.0 in
    let second = fits.1 in
    simp to_z-of_z (negative_is c.args.digits.now n c.from.result c.in_ok-value.ensures small some c.from.ensures)
