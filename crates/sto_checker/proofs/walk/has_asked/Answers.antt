use Rattle.std.proofs.Common.{◌≡◌, ◌+◌, ◌∷◌, List, map, drop, sym, ap, ◌∙◌, subst}
use Rattle.sto_model.specs.PlainReplies.{PlainReply, plain_reply}
use Rattle.sto_model.specs.Asked.{HasAsked}
use Rattle.sto_model.specs.declared.reply.Reply.{Reply}
use Rattle.sto_checker.specs.Heard.{AreHeard}
use Rattle.sto_checker.proofs.Walked.{drop_at, asked_on, asked_back, heard_on}
use Rattle.sto_checker.proofs.walk.has_asked.Goals as goal

pub loop-reply-preserved : goal.loop-reply-preserved
loop-reply-preserved g c =
    let f = g.B.Body.then c.loop-reply.body in
    let n = g.B.Body.then c.hear.new.self in
    let r : PlainReply = plain_reply c.reply-item.result in
    let rs : List PlainReply = map plain_reply (drop (c.loop-reply.reply-index + 1) c.args.replies.now) in
    let now : map plain_reply (drop c.loop-reply.reply-index c.args.replies.now) ≡ r ∷ rs =
    ap (map plain_reply) (drop_at c.args.replies.now c.loop-reply.reply-index c.reply-item.result c.loop-reply-test.true c.reply-item.is) in
    let asks = sym c.in-Ask.ensures.next in
    record {
      onward = λ h. asked_on c.args.object f n r rs c.in-Ask.call asks c.if-call-object.false c.hear.ensures.then (subst (HasAsked c.args.object f) now (c.loop-reply.invariant.onward h));
      back = λ h. c.loop-reply.invariant.back (subst (HasAsked c.args.object f) (sym now) (asked_back c.args.object f n r rs c.in-Ask.call asks c.if-call-object.false c.hear.ensures.then h));
      heard = heard_on c.args.object f n r rs c.in-Ask.call asks c.if-call-object.false c.hear.ensures.then (subst (AreHeard f) now c.loop-reply.invariant.heard);
    }
