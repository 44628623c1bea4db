use Rattle.std.proofs.Common.{pos, Some, map, rules, refl, ap, ◌∙◌, FitsSigned}
use Rattle.std.specs.Int.{w64}
use Rattle.std.proofs.lemmas.Int.{to_z-of_z}
use Rattle.std.proofs.lemmas.Option.{slice_get-get_or}
use Rattle.sto_model.specs.declared.shape.Shape.TheVariants.{Single, Counter}
use Rattle.sto_store.proofs.Built.{few_members, few, there, past, not_counter}
use Rattle.sto_store.proofs.store.build_counters.Goals as goal
use Rattle.sto_store.proofs.store.build_counters.Goals.{in-Counter+in_ok-push, in_default}

pub push-requires-clause-members : goal.push-requires-clause-members
push-requires-clause-members c =
    few_members 1 c.args.shapes.now c.loop-shape.shape-index (Counter c.in-Counter.value) (slice_get-get_or c.args.shapes.now c.loop-shape.shape-index (Single (pos 0)) c.loop-shape-test.true ∙ ap Some c.in-Counter.is) (λ x. Counter x.first) c.loop-shape.made c.loop-shape.invariant c.requires.few

pub push-requires-clause-few : goal.push-requires-clause-few
push-requires-clause-few c =
    let fits : FitsSigned w64 c.in-Counter.value = search rules in
    few 1 c.args.shapes.now c.loop-shape.shape-index (Counter c.in-Counter.value) (slice_get-get_or c.args.shapes.now c.loop-shape.shape-index (Single (pos 0)) c.loop-shape-test.true ∙ ap Some c.in-Counter.is) (λ x. Counter x.first) c.loop-shape.made c.loop-shape.invariant c.new.result
    (ap Counter (simp to_z-of_z at c.new.ensures)) refl c.requires.few c.requires.parts

pub loop-shape-preserved : goal.loop-shape-preserved
loop-shape-preserved c =
    elim c.match-shape.branch [
      | in-Counter+in_ok-push w ↦
          let fits : FitsSigned w64 w.in-Counter.value = search rules in
          ap (map (λ x. Counter x.first)) (w.made-is ∙ w.in_ok-push.ensures.ok)
          ∙ there 1 c.args.shapes.now c.loop-shape.shape-index (Counter w.in-Counter.value) (slice_get-get_or c.args.shapes.now c.loop-shape.shape-index (Single (pos 0)) c.loop-shape-test.true ∙ ap Some w.in-Counter.is) (λ x. Counter x.first) c.loop-shape.made c.loop-shape.invariant w.new.result (ap Counter (simp to_z-of_z at w.new.ensures)) refl
      | in_default w ↦
          ap (map (λ x. Counter x.first)) w.made-is
          ∙ past 1 c.args.shapes.now c.loop-shape.shape-index _ (slice_get-get_or c.args.shapes.now c.loop-shape.shape-index (Single (pos 0)) c.loop-shape-test.true) (λ x. Counter x.first) c.loop-shape.made c.loop-shape.invariant (not_counter _ w.in_default.not-Counter)
    ]
