use Rattle.std.proofs.Common.{[], ◌∷◌, subst, sym, ap, ◌∙◌}
use Rattle.sto_model.specs.PlainReplies.{plain_reply}
use Rattle.sto_model.specs.Run.{IsAsk}
use Rattle.sto_bench.specs.Stages.{doing_from}
use Rattle.sto_bench.specs.declared.body.TransferStage.{TransferStage}
use Rattle.sto_bench.proofs.Stages.{log_heard, owner_heard}
use Rattle.sto_bench.proofs.body.GeneratedBodyBody.hear.Goals as goal

pub returns-in-Log-clause-then : goal.returns-in-Log-clause-then
returns-in-Log-clause-then c = λ rs.
    let b = c.args.self.now in let x = b.balance ∷ [] in let r = plain_reply c.args.reply.now in
    ap (λ (s : TransferStage). doing_from s b.thread b.position b.transfer x rs) c.after_note-self.ensures
    ∙ log_heard b.thread b.position b.transfer x r rs (subst (λ (s : TransferStage). IsAsk (doing_from s b.thread b.position b.transfer x [])) c.in-Log.is c.requires)
    ∙ sym (ap (λ (s : TransferStage). doing_from s b.thread b.position b.transfer x (r ∷ rs)) c.in-Log.is)

pub returns-in-Owner-clause-then : goal.returns-in-Owner-clause-then
returns-in-Owner-clause-then c = λ rs.
    let b = c.args.self.now in let x = b.balance ∷ [] in let r = plain_reply c.args.reply.now in
    owner_heard b.thread b.position b.transfer x r rs (subst (λ (s : TransferStage). IsAsk (doing_from s b.thread b.position b.transfer x [])) c.in-Owner.is c.requires)
    ∙ sym (ap (λ (s : TransferStage). doing_from s b.thread b.position b.transfer x (r ∷ rs)) c.in-Owner.is)
