use Rattle.std.proofs.Common.{◌++◌, ℕ, List, ap, ◌∙◌, codes, string_bytes, append_assoc}
use Rattle.sto_model.specs.PlainReplies.{plain_reply}
use Rattle.sto_report_spec.specs.Report.{reply_text, spaced_reply}
use Rattle.sto_journal.specs.Journals.{IsShortlyTold}
use Rattle.sto_journal.proofs.Steps.{held_more, told_more}
use Rattle.sto_journal.proofs.replies.push_replies.Goals as goal

pub loop-reply-preserved : goal.loop-reply-preserved
loop-reply-preserved c = (
  told_more spaced_reply plain_reply c.args.replies.now c.loop-reply.reply-index c.reply-item.result (string_bytes c.args.out.now) (string_bytes c.loop-reply.out) (string_bytes c.push_reply.new.out) c.loop-reply-test.true c.reply-item.is
      c.loop-reply.invariant.0
      (c.in_ok-push_reply.ensures.text
      ∙ ap (λ (b : List ℕ). b ++ reply_text (plain_reply c.reply-item.result)) c.in_ok-push_str.ensures.bytes
      ∙ append_assoc (string_bytes c.loop-reply.out) (codes " ") (reply_text (plain_reply c.reply-item.result))),
  held_more IsShortlyTold c.args.replies.now c.loop-reply.reply-index c.reply-item.result c.loop-reply-test.true c.reply-item.is c.loop-reply.invariant.1 c.in_ok-push_reply.ensures.short,
)
