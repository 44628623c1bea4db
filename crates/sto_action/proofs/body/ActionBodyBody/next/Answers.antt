-- What is done next is what the run over the answers says, by `proofs/Stepping`.
use Rattle.std.proofs.Common.{List, sym, ap, ◌∙◌, subst}
use Rattle.std.proofs.lemmas.List.{append-nil}
use Rattle.sto_action.specs.declared.short_reply.ShortReply.{ShortReply}
use Rattle.sto_action.specs.Progs.{next_within, Runs}
use Rattle.sto_action.proofs.Following.{runs_of}
use Rattle.sto_action.proofs.Stepping.{ran_next}
use Rattle.sto_action.proofs.body.ActionBodyBody.next.Goals as goal

pub returns-clause-next : goal.returns-clause-next
returns-clause-next g c =
    let b = c.args.self.now in
    let ss = b.shapes.now.items in
    let p = g.K.Action.does b.code.now in
    let ran = subst (λ (xs : List ShortReply). Runs p xs c.run.result) (c.of_heard-tx.ensures ∙ c.as_slice.ensures.items) (runs_of p c.of_heard-tx.result c.run.new.tx c.run.result c.run.ensures) in
    c.next_by.ensures.next ∙ sym (ran_next ss b.most p b.heard.items c.len.result c.run.result b.few c.len.ensures ran) ∙ ap (next_within ss b.most p) (sym (append-nil b.heard.items))
