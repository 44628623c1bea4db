use Rattle.std.proofs.Common.{arith, rules, ◌∙◌, ◌<◌, ◌≡◌, length, FitsSigned, w64}
use Rattle.std.proofs.lemmas.Int.{to_z-of_z}
use Rattle.std.proofs.Math.Seq.{take-length}
use Rattle.sto_part.specs.Parts.{part_of}
use Rattle.sto_part.specs.Changes.{applied}
use Rattle.sto_item.specs.Pending.{applied_updates, change_at}
use Rattle.sto_item.proofs.Widths.{width-applied_updates}
use Rattle.sto_type.proofs.Over.{word_step}
use Rattle.sto_test_alone.proofs.asking.updated_part.Goals as goal

pub loop-word-preserved : goal.loop-word-preserved
loop-word-preserved g c =
    let f : FitsSigned w64 c.install.result = search rules in
    let h : FitsSigned w64 c.word.result = search rules in
    let pushed = simp to_z-of_z at c.in_ok-push.ensures.ok in
    let below : c.loop-word.word < length (part_of c.args.contents.now.items c.args.part) = omega arith in
    let same : c.install.result ≡ applied (change_at c.args.pending.now.updates c.args.part c.loop-word.word) c.word.result = grind (arith, to_z-of_z) in
    pushed
    ∙ word_step c.args.pending.now.updates c.args.contents.now.items c.args.part c.loop-word.word c.loop-word.made.items c.install.result c.word.result c.requires.ordered.0 c.requires.widths below
    c.loop-word.invariant c.word.ensures same

pub returns : goal.returns
returns g c =
    let all : c.loop-word.word ≡ length (part_of (applied_updates c.args.pending.now.updates c.args.contents.now.items) c.args.part) =
    omega (arith, width-applied_updates c.args.pending.now.updates c.args.contents.now.items c.args.part, c.loop-word.auto.word-end) in
    rw all at c.loop-word.invariant ∙ take-length (part_of (applied_updates c.args.pending.now.updates c.args.contents.now.items) c.args.part)
