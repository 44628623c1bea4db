use Rattle.std.proofs.Common.{◌≡◌, ◌<◌, ℕ, List, arith, length, get_or}
use Rattle.std.proofs.lemmas.Bool.Decides.{nat_tests}
use Rattle.std.proofs.lemmas.Grind.{common_steps}
use Rattle.sto_syntax.proofs.word.small_natural.Goals.{then-word-ne1, else-word-ne1}
use Rattle.sto_syntax.proofs.word.small_natural.Goals as goal

pub returns : goal.returns
returns c =
    let word : List ℕ = c.args.word.now in
    let some : 0 < length word = grind (arith, common_steps) in
    let lead : get_or word 0 0 ≡ 48 → length word ≡ 1 = λ z. elim c.if-word-ne1.branch [ then-word-ne1 w ↦ grind (arith, nat_tests, z) | else-word-ne1 w ↦ grind (arith, nat_tests, z) ] in
    record { digits = c.in_ok-value.ensures.0; some = some; lead = lead; value = c.in_ok-value.ensures.1 }
