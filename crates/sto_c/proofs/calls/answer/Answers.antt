-- The call is the one that C asks, and nothing is wrong with it.
use Rattle.std.proofs.Common.{Err, refl, sym, subst}
use Rattle.sto_c.specs.declared.content.WorkerHandle.{WorkerHandle}
use Rattle.sto_c.specs.declared.status.Status.{Status}
use Rattle.sto_c.specs.Steps.{HasAnswered}
use Rattle.sto_c.proofs.Asking.{unasked}
use Rattle.sto_c.proofs.calls.answer.Goals as goal

pub returns-in-Ok-ask-clause-asked : goal.returns-in-Ok-ask-clause-asked
returns-in-Ok-ask-clause-asked c = (c.in-Ok.call, c.in-Ok.ensures.lawful, ((c.ask.ensures.store.0, refl), c.in-Ok-ask.ensures.asked))

pub returns-in-Err-ask-clause-asked : goal.returns-in-Err-ask-clause-asked
returns-in-Err-ask-clause-asked c =
    let given = c.args.given.now in
    let h = c.args.held.now in
    let k : WorkerHandle = record { worker = c.ask.new.self; objects = h.objects } in
    subst (λ (status : Status). HasAnswered given h (Err status) k) (sym c.from.ensures)
    (unasked given h k c.in-Ok.call c.in-Err-ask.error c.requires c.in-Ok.ensures.lawful ((c.ask.ensures.store.0, refl), c.in-Err-ask.ensures.asked))
