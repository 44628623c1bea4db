use Rattle.std.proofs.Common.{[], ◌∷◌, subst, sym, arith}
use Rattle.sto_model.specs.Run.{MayAsk}
use Rattle.sto_bench.specs.Bodies.{MayAskOf}
use Rattle.sto_bench.proofs.Stages.{log_asked, owner_asked}
use Rattle.sto_bench.proofs.body.GeneratedBodyBody.next.Goals as goal

pub returns-in-Log-clause-may : goal.returns-in-Log-clause-may
returns-in-Log-clause-may c =
    let b = c.args.self.now in
    subst (MayAsk (MayAskOf b)) (sym (c.next_note.ensures (b.balance ∷ []))) (log_asked b.thread b.position b.transfer (b.balance ∷ []) b.within.0 b.within.1 (omega arith))

pub returns-in-Owner-clause-may : goal.returns-in-Owner-clause-may
returns-in-Owner-clause-may c =
    let b = c.args.self.now in
    subst (MayAsk (MayAskOf b)) (sym (c.next_owner.ensures (b.balance ∷ []))) (owner_asked b.thread b.position b.transfer (b.balance ∷ []) b.within.0 b.within.1)
