use Rattle.sto_model.specs.PlainReplies.{plain_reply}
use Rattle.sto_interactive.proofs.Extending.{hears_next}
use Rattle.sto_interactive.proofs.asked_calls.AskedCallsBody.hear.Goals as goal

pub returns-clause-then : goal.returns-clause-then
returns-clause-then c rs = hears_next c.args.self.now.calls.items c.args.self.now.heard c.args.self.now.end (plain_reply c.args._reply.now) rs
