use Rattle.std.proofs.Common.{pos, Some, map, refl, ap, ◌∙◌}
use Rattle.std.proofs.lemmas.Option.{slice_get-get_or}
use Rattle.sto_model.specs.declared.shape.Shape.TheVariants.{Single, Hash}
use Rattle.sto_store.proofs.Built.{few_members, few, there, past, not_hash, fit_at}
use Rattle.sto_store.proofs.store.build_hashes.Goals as goal
use Rattle.sto_store.proofs.store.build_hashes.Goals.{in-Hash+in_ok-push, in_default}

pub new-requires-clause-some : goal.new-requires-clause-some
new-requires-clause-some c = (fit_at c.args.shapes.now c.loop-shape.shape-index (Hash c.in-Hash.buckets c.in-Hash.places) c.requires.fit (slice_get-get_or c.args.shapes.now c.loop-shape.shape-index (Single (pos 0)) c.loop-shape-test.true ∙ ap Some c.in-Hash.is)).0

pub new-requires-clause-few : goal.new-requires-clause-few
new-requires-clause-few c = (fit_at c.args.shapes.now c.loop-shape.shape-index (Hash c.in-Hash.buckets c.in-Hash.places) c.requires.fit (slice_get-get_or c.args.shapes.now c.loop-shape.shape-index (Single (pos 0)) c.loop-shape-test.true ∙ ap Some c.in-Hash.is)).1

pub new-requires-clause-words : goal.new-requires-clause-words
new-requires-clause-words c = (fit_at c.args.shapes.now c.loop-shape.shape-index (Hash c.in-Hash.buckets c.in-Hash.places) c.requires.fit (slice_get-get_or c.args.shapes.now c.loop-shape.shape-index (Single (pos 0)) c.loop-shape-test.true ∙ ap Some c.in-Hash.is)).2

pub push-requires-clause-members : goal.push-requires-clause-members
push-requires-clause-members c =
    few_members 3 c.args.shapes.now c.loop-shape.shape-index (Hash c.in-Hash.buckets c.in-Hash.places) (slice_get-get_or c.args.shapes.now c.loop-shape.shape-index (Single (pos 0)) c.loop-shape-test.true ∙ ap Some c.in-Hash.is) (λ x. Hash x.buckets x.places) c.loop-shape.made c.loop-shape.invariant c.requires.few

pub push-requires-clause-few : goal.push-requires-clause-few
push-requires-clause-few c =
    few 3 c.args.shapes.now c.loop-shape.shape-index (Hash c.in-Hash.buckets c.in-Hash.places) (slice_get-get_or c.args.shapes.now c.loop-shape.shape-index (Single (pos 0)) c.loop-shape-test.true ∙ ap Some c.in-Hash.is) (λ x. Hash x.buckets x.places) c.loop-shape.made c.loop-shape.invariant c.new.result
    ((λ i. Hash (c.new.ensures.buckets i) (c.new.ensures.places i))) refl c.requires.few c.requires.parts

pub loop-shape-preserved : goal.loop-shape-preserved
loop-shape-preserved c =
    elim c.match-shape.branch [
      | in-Hash+in_ok-push w ↦
          ap (map (λ x. Hash x.buckets x.places)) (w.made-is ∙ w.in_ok-push.ensures.ok)
          ∙ there 3 c.args.shapes.now c.loop-shape.shape-index (Hash w.in-Hash.buckets w.in-Hash.places) (slice_get-get_or c.args.shapes.now c.loop-shape.shape-index (Single (pos 0)) c.loop-shape-test.true ∙ ap Some w.in-Hash.is) (λ x. Hash x.buckets x.places) c.loop-shape.made c.loop-shape.invariant w.new.result ((λ i. Hash (w.new.ensures.buckets i) (w.new.ensures.places i))) refl
      | in_default w ↦
          ap (map (λ x. Hash x.buckets x.places)) w.made-is
          ∙ past 3 c.args.shapes.now c.loop-shape.shape-index _ (slice_get-get_or c.args.shapes.now c.loop-shape.shape-index (Single (pos 0)) c.loop-shape-test.true) (λ x. Hash x.buckets x.places) c.loop-shape.made c.loop-shape.invariant (not_hash _ w.in_default.not-Hash)
    ]
