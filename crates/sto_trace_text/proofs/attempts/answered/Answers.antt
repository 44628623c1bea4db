use Rattle.std.proofs.Common.{◌≡◌, ℕ, ◌+◌, List, [], ◌∷◌, ◌++◌, length, take, map, refl, sym, ap, ◌∙◌, subst}
use Rattle.std.proofs.lemmas.List.{length-append, map-append}
use Rattle.std.proofs.lemmas.Option.{slice_get_read}
use Rattle.sto_lang.proofs.ObjectLemmas.{take_found}
use Rattle.sto_model.specs.PlainReplies.{PlainReply, plain_reply}
use Rattle.sto_trace_text.specs.Events.{Answer}
use Rattle.sto_trace_text.specs.Bodies.{HearsReplies, answer_of}
use Rattle.sto_trace_text.proofs.Hearing.{one_more}
use Rattle.sto_trace_text.proofs.attempts.answered.Goals as goal

pub loop-reply-preserved : goal.loop-reply-preserved
loop-reply-preserved c =
    let i = c.loop-reply.reply-index in
    let replies = c.args.replies.now in
    let reply = c.reply-item.result in
    let old = c.loop-reply.answers.items in
    let before = c.args.attempt.now in
    let after = c.asked-call.new.attempt in
    let at = slice_get_read replies (length replies) i reply refl c.loop-reply-test.true c.reply-item.is in
    let pushed = c.in_ok-push.ensures.ok in
    let one = one_more (map plain_reply (take i replies)) (plain_reply reply) before c.loop-reply.attempt after (map answer_of old) c.asked-call.result c.loop-reply.invariant.1 c.asked-call.ensures in
    let told_so : map plain_reply (take (i + 1) replies) ≡ map plain_reply (take i replies) ++ plain_reply reply ∷ [] = ap (map plain_reply) (take_found replies i reply at) ∙ map-append plain_reply (take i replies) (reply ∷ []) in
    let answered : map answer_of c.push.new.self.items ≡ map answer_of old ++ record { call = c.asked-call.result; reply = plain_reply reply } ∷ [] = ap (map answer_of) pushed ∙ map-append answer_of old _ in (
      ap length pushed ∙ length-append old _ ∙ ap (λ (n : ℕ). n + 1) c.loop-reply.invariant.0,
      subst (λ (l : List PlainReply). HearsReplies l before (map answer_of c.push.new.self.items) after) (sym told_so)
          (subst (λ (l : List Answer). HearsReplies (map plain_reply (take i replies) ++ plain_reply reply ∷ []) before l after) (sym answered) one),
    )
