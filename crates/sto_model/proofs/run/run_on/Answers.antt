use Rattle.std.proofs.Common.{◌≡◌, [], ◌∷◌, ◌++◌, length, map, sym, ap, ◌∙◌, arith, append_assoc, append-nil, length-append}
use Rattle.std.proofs.lemmas.List.{map-append}
use Rattle.sto_model.specs.PlainReplies.{plain_reply}
use Rattle.sto_model.specs.SequentialObjects.{state_after}
use Rattle.sto_model.specs.Objects.{machines_of}
use Rattle.sto_model.specs.Run.{IsRun-more, IsReplyTo, stepped, state_along, state_along-more}
use Rattle.sto_model.specs.declared.body.Next.TheVariants.{Ask}
use Rattle.sto_model.proofs.Answering.{length-changed}
use Rattle.sto_model.proofs.run.run_on.Goals as goal

pub loop-call-preserved : goal.loop-call-preserved
loop-call-preserved g c =
    let ms = machines_of c.args.shapes.now.items in
    let f = g.B.Body.script c.args.body.now in
    let st = c.args.trial.now.items in
    let rs = map plain_reply c.loop-call.replies.items in
    let r = plain_reply c.in_ok-reply-in-Ask.reply in
    let call = c.in-Ask.call in
    let asks : f rs ≡ Ask call = ap f (sym (append-nil rs)) ∙ sym (c.in-Ask.ensures.next ∙ c.loop-call.invariant.script []) in
    let more : map plain_reply c.push.new.self.items ≡ rs ++ r ∷ [] = ap (map plain_reply) c.in_ok-push-in-Ask.ensures.ok ∙ map-append plain_reply c.loop-call.replies.items (c.in_ok-reply-in-Ask.reply ∷ []) in
    let after : c.ask.new.self.items ≡ state_after ms call c.loop-call.trial.items = ap (λ s. s.items) c.in_ok-reply-in-Ask.ensures.after in
    let replied : IsReplyTo ms (f rs) (state_along ms f st rs) r = rw (asks, ← c.loop-call.invariant.along) (sym c.in_ok-reply-in-Ask.ensures.reply) in
    record {
      script = λ xs. c.hear.ensures.then xs ∙ c.loop-call.invariant.script (r ∷ xs) ∙ ap f (sym (append_assoc rs (r ∷ []) xs) ∙ ap (λ l. l ++ xs) (sym more));
      may = λ call h. c.loop-call.invariant.may call (c.hear.ensures.may call h);
      runs = rw more (IsRun-more ms f st rs r c.loop-call.invariant.runs replied);
      along = after ∙ ap (state_after ms call) c.loop-call.invariant.along ∙ sym (ap (λ n. stepped ms n (state_along ms f st rs)) asks) ∙ sym (state_along-more ms f st rs r) ∙ sym (ap (state_along ms f st) more);
      objects = ap length after ∙ length-changed ms call.object call c.loop-call.trial.items ∙ c.loop-call.invariant.objects;
      kept = c.hear.ensures.script ∙ c.loop-call.invariant.kept;
      bound = c.hear.ensures.left_at_reset ∙ c.loop-call.invariant.bound;
      calls = omega (arith, c.loop-call.invariant.calls, c.hear.ensures.left, ap length c.in_ok-push-in-Ask.ensures.ok, length-append c.loop-call.replies.items (c.in_ok-reply-in-Ask.reply ∷ []));
      few = omega (arith, c.loop-call.invariant.few, c.hear.ensures.left, ap length c.in_ok-push-in-Ask.ensures.ok, length-append c.loop-call.replies.items (c.in_ok-reply-in-Ask.reply ∷ []));
    }

pub returns-in-Commit-clause-ends : goal.returns-in-Commit-clause-ends
returns-in-Commit-clause-ends g c =
    let f = g.B.Body.script c.args.body.now in
    let rs = map plain_reply c.loop-call.replies.items in
    rw c.ended.ensures (ap f (sym (append-nil rs)) ∙ sym (c.in-Commit.ensures.next ∙ c.loop-call.invariant.script []))

pub returns-in-Cancel-clause-ends : goal.returns-in-Cancel-clause-ends
returns-in-Cancel-clause-ends g c =
    let f = g.B.Body.script c.args.body.now in
    let rs = map plain_reply c.loop-call.replies.items in
    rw c.ended-in-Cancel.ensures (ap f (sym (append-nil rs)) ∙ sym (c.in-Cancel.ensures.next ∙ c.loop-call.invariant.script []))
