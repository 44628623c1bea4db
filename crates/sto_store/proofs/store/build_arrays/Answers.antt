use Rattle.std.proofs.Common.{pos, Some, map, rules, refl, ap, ◌∙◌, FitsSigned}
use Rattle.std.specs.Int.{w64}
use Rattle.std.proofs.lemmas.Int.{to_z-of_z}
use Rattle.std.proofs.lemmas.Option.{slice_get-get_or}
use Rattle.sto_model.specs.declared.shape.Shape.TheVariants.{Single, Array}
use Rattle.sto_store.proofs.Built.{few_members, few, there, past, not_array}
use Rattle.sto_store.proofs.store.build_arrays.Goals as goal
use Rattle.sto_store.proofs.store.build_arrays.Goals.{in-Array+in_ok-push, in_default}

pub push-requires-clause-members : goal.push-requires-clause-members
push-requires-clause-members c =
    few_members 2 c.args.shapes.now c.loop-shape.shape-index (Array c.in-Array.len c.in-Array.value) (slice_get-get_or c.args.shapes.now c.loop-shape.shape-index (Single (pos 0)) c.loop-shape-test.true ∙ ap Some c.in-Array.is) (λ x. Array x.len x.first) c.loop-shape.made c.loop-shape.invariant c.requires.few

pub push-requires-clause-few : goal.push-requires-clause-few
push-requires-clause-few c =
    let fits : FitsSigned w64 c.in-Array.value = search rules in
    few 2 c.args.shapes.now c.loop-shape.shape-index (Array c.in-Array.len c.in-Array.value) (slice_get-get_or c.args.shapes.now c.loop-shape.shape-index (Single (pos 0)) c.loop-shape-test.true ∙ ap Some c.in-Array.is) (λ x. Array x.len x.first) c.loop-shape.made c.loop-shape.invariant c.new.result
    ((let e = simp to_z-of_z at c.new.ensures.first in λ i. Array (c.new.ensures.len i) (e i))) refl c.requires.few c.requires.parts

pub loop-shape-preserved : goal.loop-shape-preserved
loop-shape-preserved c =
    elim c.match-shape.branch [
      | in-Array+in_ok-push w ↦
          let fits : FitsSigned w64 w.in-Array.value = search rules in
          ap (map (λ x. Array x.len x.first)) (w.made-is ∙ w.in_ok-push.ensures.ok)
          ∙ there 2 c.args.shapes.now c.loop-shape.shape-index (Array w.in-Array.len w.in-Array.value) (slice_get-get_or c.args.shapes.now c.loop-shape.shape-index (Single (pos 0)) c.loop-shape-test.true ∙ ap Some w.in-Array.is) (λ x. Array x.len x.first) c.loop-shape.made c.loop-shape.invariant w.new.result ((let e = simp to_z-of_z at w.new.ensures.first in λ i. Array (w.new.ensures.len i) (e i))) refl
      | in_default w ↦
          ap (map (λ x. Array x.len x.first)) w.made-is
          ∙ past 2 c.args.shapes.now c.loop-shape.shape-index _ (slice_get-get_or c.args.shapes.now c.loop-shape.shape-index (Single (pos 0)) c.loop-shape-test.true) (λ x. Array x.len x.first) c.loop-shape.made c.loop-shape.invariant (not_array _ w.in_default.not-Array)
    ]
