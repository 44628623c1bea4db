use Rattle.std.proofs.Common.{◌≡◌, ℕ, ◌+◌, List, ◌++◌, length, take, refl, sym, ap, ◌∙◌, subst, arith}
use Rattle.std.proofs.lemmas.List.{length-take-le}
use Rattle.std.proofs.lemmas.Option.{slice_get_read}
use Rattle.sto_lang.proofs.ObjectLemmas.{take_found}
use Rattle.sto_trace.specs.declared.Step.{Step}
use Rattle.sto_trace_text.specs.Bodies.{AreBodiesAfter}
use Rattle.sto_trace_text.specs.Events.{event_after}
use Rattle.sto_trace_text.specs.Named.{named}
use Rattle.sto_trace_text.specs.Texts.{event_text}
use Rattle.sto_trace_text.proofs.Led.{texts_more}
use Rattle.sto_trace_text.proofs.step.trace_text.Goals as goal

pub loop-place-preserved : goal.loop-place-preserved
loop-place-preserved c =
    let steps = c.args.steps.now in
    let i = c.loop-place.place in
    let step = c.index-steps-place.result in
    let names = named c.args.names.now in
    let at = slice_get_read steps (length steps) i step refl c.loop-place-test.true c.index-steps-place.is in
    let counted : i + 1 ≡ length (take i steps) + 1 = ap (λ (n : ℕ). n + 1) (sym (length-take-le i steps (omega (arith, c.loop-place-test.true)))) in
    let added = c.in_ok-push_step.ensures (take i steps) counted c.loop-place.invariant.1 in (
      added.0 ∙ ap (λ (l : List ℕ). l ++ event_text names (event_after names.file (take i steps) step)) c.loop-place.invariant.0 ∙ sym (texts_more (event_text names) names.file steps i step at),
      subst (λ (l : List Step). AreBodiesAfter names.file l c.push_step.new.attempts.items) (sym (take_found steps i step at)) added.1,
    )
