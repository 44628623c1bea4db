use Rattle.std.proofs.Common.{arith, rules, ap, ◌∙◌, ◌≡◌, ◌∷◌, [], List, ℤ, length, take, FitsSigned, w64}
use Rattle.std.proofs.lemmas.Int.{to_z-of_z}
use Rattle.sto_part.specs.Listed.{Listed}
use Rattle.sto_part.specs.Parts.{part_of, with_word}
use Rattle.sto_part.specs.Changes.{applied}
use Rattle.sto_item.specs.Pending.{applied_update}
use Rattle.sto_item.proofs.Widths.{width-applied_updates}
use Rattle.sto_test_alone.proofs.Words.{part_step}
use Rattle.sto_test_alone.proofs.applying.apply_update.Goals as goal

pub word-requires : goal.word-requires
word-requires g c =
    let parts = c.args.contents.now.items in
    let now = ap (λ s. length (part_of s.items c.args.part)) c.loop-word.invariant in
    omega (arith, now, width-applied_updates ((c.args.part, take c.loop-word.word c.args.update.now.items) ∷ []) parts c.args.part, c.requires.width, c.loop-word-test.true, c.len-word-end.ensures)

pub set_word-requires : goal.set_word-requires
set_word-requires g c =
    let parts = c.args.contents.now.items in
    let now = ap (λ s. length (part_of s.items c.args.part)) c.loop-word.invariant in
    omega (arith, now, width-applied_updates ((c.args.part, take c.loop-word.word c.args.update.now.items) ∷ []) parts c.args.part, c.requires.width, c.loop-word-test.true, c.len-word-end.ensures)

pub loop-word-preserved : goal.loop-word-preserved
loop-word-preserved g c =
    let parts = c.args.contents.now.items in
    let d = applied_update (c.args.part, take c.loop-word.word c.args.update.now.items) parts in
    let word = rw (ap (λ s. s.items) c.loop-word.invariant) at c.word.ensures in
    let same : c.install-value.result ≡ applied c.change.result c.word.result = grind (arith, to_z-of_z) in
    let step = part_step parts c.args.part c.args.update.now.items c.loop-word.word c.change.result c.word.result c.install-value.result c.requires.range c.change.ensures word same in
    let one : Listed (List ℤ) → Listed (List ℤ) = λ s. record s { items = with_word s.items c.args.part c.loop-word.word c.install-value.result } in
    let with : List (List ℤ) → Listed (List ℤ) = λ l. record c.args.contents.now { items = l } in
    let fits : FitsSigned w64 c.install-value.result = search rules in
    let set = simp to_z-of_z at c.set_word.ensures in
    set ∙ ap one c.loop-word.invariant ∙ ap with step
