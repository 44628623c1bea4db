use Rattle.std.proofs.Common.{pos, Some, map, rules, refl, ap, ◌∙◌, FitsSigned}
use Rattle.std.specs.Int.{w64}
use Rattle.std.proofs.lemmas.Option.{slice_get-get_or}
use Rattle.sto_model.specs.declared.shape.Shape.TheVariants.{Single}
use Rattle.sto_store.proofs.Built.{few_members, few, there, past, not_box, first_word}
use Rattle.sto_store.proofs.store.build_boxes.Goals as goal
use Rattle.sto_store.proofs.store.build_boxes.Goals.{in-Single+in_ok-push, in_default}

pub push-requires-clause-members : goal.push-requires-clause-members
push-requires-clause-members c =
    few_members 0 c.args.shapes.now c.loop-shape.shape-index (Single c.in-Single.value) (slice_get-get_or c.args.shapes.now c.loop-shape.shape-index (Single (pos 0)) c.loop-shape-test.true ∙ ap Some c.in-Single.is) (λ x. Single x.first) c.loop-shape.made c.loop-shape.invariant c.requires.few

pub push-requires-clause-few : goal.push-requires-clause-few
push-requires-clause-few c =
    let fits : FitsSigned w64 c.in-Single.value = search rules in
    few 0 c.args.shapes.now c.loop-shape.shape-index (Single c.in-Single.value) (slice_get-get_or c.args.shapes.now c.loop-shape.shape-index (Single (pos 0)) c.loop-shape-test.true ∙ ap Some c.in-Single.is) (λ x. Single x.first) c.loop-shape.made c.loop-shape.invariant c.new.result
    (ap Single (first_word c.new.result.first c.new.result.second c.in-Single.value c.new.ensures)) refl c.requires.few c.requires.parts

pub loop-shape-preserved : goal.loop-shape-preserved
loop-shape-preserved c =
    elim c.match-shape.branch [
      | in-Single+in_ok-push w ↦
          let fits : FitsSigned w64 w.in-Single.value = search rules in
          ap (map (λ x. Single x.first)) (w.made-is ∙ w.in_ok-push.ensures.ok)
          ∙ there 0 c.args.shapes.now c.loop-shape.shape-index (Single w.in-Single.value) (slice_get-get_or c.args.shapes.now c.loop-shape.shape-index (Single (pos 0)) c.loop-shape-test.true ∙ ap Some w.in-Single.is) (λ x. Single x.first) c.loop-shape.made c.loop-shape.invariant w.new.result (ap Single (first_word w.new.result.first w.new.result.second w.in-Single.value w.new.ensures)) refl
      | in_default w ↦
          ap (map (λ x. Single x.first)) w.made-is
          ∙ past 0 c.args.shapes.now c.loop-shape.shape-index _ (slice_get-get_or c.args.shapes.now c.loop-shape.shape-index (Single (pos 0)) c.loop-shape-test.true) (λ x. Single x.first) c.loop-shape.made c.loop-shape.invariant (not_box _ w.in_default.not-Single)
    ]
