-- The reply is the one that was heard last.
use Rattle.sto_c.proofs.Replies.{has_heard}
use Rattle.sto_c.proofs.calls.ask.Goals as goal

pub returns-in-Ok-clause-asked : goal.returns-in-Ok-clause-asked
returns-in-Ok-clause-asked c = (
  c.in-Ok.ensures.asked,
  has_heard c.args.held.now c.answer.new.held c.in-Ok.ensures.asked.0 c.args.reply.now c.tell_last.new.reply c.requires c.in-Ok.ensures.asked.2 c.tell_last.ensures,
)
