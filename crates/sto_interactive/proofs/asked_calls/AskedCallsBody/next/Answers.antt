use Rattle.std.proofs.Common.{sym, ap, ◌∙◌, arith}
use Rattle.std.proofs.lemmas.Option.{get_or_from_slice_get}
use Rattle.sto_model.specs.declared.body.Next.TheVariants.{Ask}
use Rattle.sto_interactive.proofs.Extending.{next_at}
use Rattle.sto_interactive.proofs.asked_calls.AskedCallsBody.next.Goals as goal

pub returns-then-self-len-clause-next : goal.returns-then-self-len-clause-next
returns-then-self-len-clause-next c =
    let b = c.args.self.now in
    let fewer = c.if-self-len.true in
    ap Ask (sym (get_or_from_slice_get b.calls.items b.heard c.get.result.now c.get.result.now c.get.ensures))
    ∙ sym (next_at b.calls.items b.heard b.end c.get.result.now (omega (arith, fewer, c.len.ensures)))

pub returns-then-self-len-clause-may : goal.returns-then-self-len-clause-may
returns-then-self-len-clause-may c =
    let b = c.args.self.now in
    let fewer = c.if-self-len.true in
    (b.heard, omega (arith, fewer, c.len.ensures), get_or_from_slice_get b.calls.items b.heard c.get.result.now c.get.result.now c.get.ensures)
