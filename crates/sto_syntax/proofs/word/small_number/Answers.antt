use Rattle.std.proofs.Common.{◌∙◌, ◌<◌, ◌^◌, ℕ, arith, Some, ap, sym}
use Rattle.std.proofs.lemmas.Int.{to_z-of_z}
use Rattle.sto_syntax.proofs.Numbers.{natural_number, negative_fits}
use Rattle.sto_syntax.proofs.word.small_number.Goals as goal

pub returns-in-Some : goal.returns-in-Some
returns-in-Some c =
    let n : ℕ = c.in-Some.value in
    let small : n < 2 ^ 32 = grind arith in
    let fits = (negative_fits n c.from.result small c.from.ensures).0 in
    simp to_z-of_z (natural_number c.args.word.now n c.in-Some.ensures small ∙ ap Some (sym c.from.ensures))
