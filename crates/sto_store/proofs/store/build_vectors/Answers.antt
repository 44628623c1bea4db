use Rattle.std.proofs.Common.{pos, Some, map, refl, ap, ◌∙◌}
use Rattle.std.proofs.lemmas.Option.{slice_get-get_or}
use Rattle.sto_model.specs.declared.shape.Shape.TheVariants.{Single, Vector}
use Rattle.sto_store.proofs.Built.{few_members, few, there, past, not_vector, fit_at}
use Rattle.sto_store.proofs.store.build_vectors.Goals as goal
use Rattle.sto_store.proofs.store.build_vectors.Goals.{in-Vector+in_ok-push, in_default}

pub new-requires : goal.new-requires
new-requires c = fit_at c.args.shapes.now c.loop-shape.shape-index (Vector c.in-Vector.capacity) c.requires.fit (slice_get-get_or c.args.shapes.now c.loop-shape.shape-index (Single (pos 0)) c.loop-shape-test.true ∙ ap Some c.in-Vector.is)

pub push-requires-clause-members : goal.push-requires-clause-members
push-requires-clause-members c =
    few_members 5 c.args.shapes.now c.loop-shape.shape-index (Vector c.in-Vector.capacity) (slice_get-get_or c.args.shapes.now c.loop-shape.shape-index (Single (pos 0)) c.loop-shape-test.true ∙ ap Some c.in-Vector.is) (λ x. Vector x.capacity) c.loop-shape.made c.loop-shape.invariant c.requires.few

pub push-requires-clause-few : goal.push-requires-clause-few
push-requires-clause-few c =
    few 5 c.args.shapes.now c.loop-shape.shape-index (Vector c.in-Vector.capacity) (slice_get-get_or c.args.shapes.now c.loop-shape.shape-index (Single (pos 0)) c.loop-shape-test.true ∙ ap Some c.in-Vector.is) (λ x. Vector x.capacity) c.loop-shape.made c.loop-shape.invariant c.new.result
    ((λ i. Vector (c.new.ensures i))) refl c.requires.few c.requires.parts

pub loop-shape-preserved : goal.loop-shape-preserved
loop-shape-preserved c =
    elim c.match-shape.branch [
      | in-Vector+in_ok-push w ↦
          ap (map (λ x. Vector x.capacity)) (w.made-is ∙ w.in_ok-push.ensures.ok)
          ∙ there 5 c.args.shapes.now c.loop-shape.shape-index (Vector w.in-Vector.capacity) (slice_get-get_or c.args.shapes.now c.loop-shape.shape-index (Single (pos 0)) c.loop-shape-test.true ∙ ap Some w.in-Vector.is) (λ x. Vector x.capacity) c.loop-shape.made c.loop-shape.invariant w.new.result ((λ i. Vector (w.new.ensures i))) refl
      | in_default w ↦
          ap (map (λ x. Vector x.capacity)) w.made-is
          ∙ past 5 c.args.shapes.now c.loop-shape.shape-index _ (slice_get-get_or c.args.shapes.now c.loop-shape.shape-index (Single (pos 0)) c.loop-shape-test.true) (λ x. Vector x.capacity) c.loop-shape.made c.loop-shape.invariant (not_vector _ w.in_default.not-Vector)
    ]
