use Rattle.std.proofs.Common.{◌≡◌, ℕ, ◌+◌, [], ◌∷◌, ◌++◌, length, sym, ap, ◌∙◌, arith, cond, length-append}
use Rattle.sto_trace.specs.declared.Step.{Step}
use Rattle.sto_picture.specs.Places.{ends, left_of}
use Rattle.sto_picture.proofs.Growing.{each_more, left_more}
use Rattle.sto_picture.proofs.measure.lefts_of.Goals as goal

pub loop-step-preserved : goal.loop-step-preserved
loop-step-preserved c =
    let i : ℕ = c.loop-step.step-index in
    let so_far = c.loop-step.invariant in
    let column : ℕ → ℕ = left_of c.args.first c.args.event c.args.room c.args.steps.now in
    let pushed : c.push.new.self.items ≡ c.loop-step.lefts.items ++ c.loop-step.left ∷ [] = c.in_ok-push.ensures.ok in (
      pushed ∙ (λ k. so_far.0 k ++ so_far.1 k ∷ []) ∙ sym (each_more column i),
      (λ k. so_far.1 k + c.step_width-left.ensures.width k)
          ∙ ap (λ (s : Step). column i + (c.args.event + cond (ends s) c.args.room 0)) c.step-item.is
          ∙ sym (left_more c.args.first c.args.event c.args.room c.args.steps.now i c.step-item.result c.loop-step-test.true),
      ap length pushed ∙ length-append c.loop-step.lefts.items (c.loop-step.left ∷ []) ∙ ap (λ n. n + 1) so_far.2,
      omega (arith, so_far.3, c.step_width-left.ensures.small),
    )
