use Rattle.std.proofs.Common.{pos, Some, map, refl, ap, ◌∙◌}
use Rattle.std.proofs.lemmas.Option.{slice_get-get_or}
use Rattle.sto_model.specs.declared.shape.Shape.TheVariants.{Single, Tree}
use Rattle.sto_store.proofs.Built.{few_members, few, there, past, not_tree, fit_at}
use Rattle.sto_store.proofs.store.build_trees.Goals as goal
use Rattle.sto_store.proofs.store.build_trees.Goals.{in-Tree+in_ok-push, in_default}

pub new-requires-clause-some : goal.new-requires-clause-some
new-requires-clause-some c = (fit_at c.args.shapes.now c.loop-shape.shape-index (Tree c.in-Tree.leaves) c.requires.fit (slice_get-get_or c.args.shapes.now c.loop-shape.shape-index (Single (pos 0)) c.loop-shape-test.true ∙ ap Some c.in-Tree.is)).0

pub new-requires-clause-few : goal.new-requires-clause-few
new-requires-clause-few c = (fit_at c.args.shapes.now c.loop-shape.shape-index (Tree c.in-Tree.leaves) c.requires.fit (slice_get-get_or c.args.shapes.now c.loop-shape.shape-index (Single (pos 0)) c.loop-shape-test.true ∙ ap Some c.in-Tree.is)).1

pub push-requires-clause-members : goal.push-requires-clause-members
push-requires-clause-members c =
    few_members 4 c.args.shapes.now c.loop-shape.shape-index (Tree c.in-Tree.leaves) (slice_get-get_or c.args.shapes.now c.loop-shape.shape-index (Single (pos 0)) c.loop-shape-test.true ∙ ap Some c.in-Tree.is) (λ x. Tree x.leaves) c.loop-shape.made c.loop-shape.invariant c.requires.few

pub push-requires-clause-few : goal.push-requires-clause-few
push-requires-clause-few c =
    few 4 c.args.shapes.now c.loop-shape.shape-index (Tree c.in-Tree.leaves) (slice_get-get_or c.args.shapes.now c.loop-shape.shape-index (Single (pos 0)) c.loop-shape-test.true ∙ ap Some c.in-Tree.is) (λ x. Tree x.leaves) c.loop-shape.made c.loop-shape.invariant c.new.result
    ((λ i. Tree (c.new.ensures i))) refl c.requires.few c.requires.parts

pub loop-shape-preserved : goal.loop-shape-preserved
loop-shape-preserved c =
    elim c.match-shape.branch [
      | in-Tree+in_ok-push w ↦
          ap (map (λ x. Tree x.leaves)) (w.made-is ∙ w.in_ok-push.ensures.ok)
          ∙ there 4 c.args.shapes.now c.loop-shape.shape-index (Tree w.in-Tree.leaves) (slice_get-get_or c.args.shapes.now c.loop-shape.shape-index (Single (pos 0)) c.loop-shape-test.true ∙ ap Some w.in-Tree.is) (λ x. Tree x.leaves) c.loop-shape.made c.loop-shape.invariant w.new.result ((λ i. Tree (w.new.ensures i))) refl
      | in_default w ↦
          ap (map (λ x. Tree x.leaves)) w.made-is
          ∙ past 4 c.args.shapes.now c.loop-shape.shape-index _ (slice_get-get_or c.args.shapes.now c.loop-shape.shape-index (Single (pos 0)) c.loop-shape-test.true) (λ x. Tree x.leaves) c.loop-shape.made c.loop-shape.invariant (not_tree _ w.in_default.not-Tree)
    ]
