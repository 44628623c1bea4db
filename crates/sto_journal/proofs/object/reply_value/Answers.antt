use Rattle.std.proofs.Common.{◌++◌, ℕ, List, ap, sym, ◌∙◌}
use Rattle.serde_json.specs.Data.{string}
use Rattle.sto_model.specs.PlainReplies.{plain_reply}
use Rattle.sto_report_spec.specs.Report.{reply_text}
use Rattle.sto_journal.proofs.Values.{told_is, view-String}
use Rattle.sto_journal.proofs.object.reply_value.Goals as goal

pub returns-clause-value : goal.returns-clause-value
returns-clause-value c =
    view-String c.push_reply.new.out
    ∙ ap string (c.in_ok-push_reply.ensures.text ∙ ap (λ (b : List ℕ). b ++ reply_text (plain_reply c.args.reply.now)) c.new-text.ensures.bytes)
    ∙ sym (told_is c.args.reply.now)
