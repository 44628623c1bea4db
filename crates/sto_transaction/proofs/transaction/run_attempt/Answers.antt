-- The attempt begins on a pass that is at rest, and its steps lead to its end.
use Rattle.std.proofs.Common.{◌≡◌, ℕ, IfOk, subst, arith}
use Rattle.sto_transaction.proofs.Steps.{finished_ok, finished_err}
use Rattle.sto_transaction.proofs.transaction.run_attempt.Goals as goal

pub finish-ended-requires : goal.finish-ended-requires
finish-ended-requires g c =
    let v = g.C.Cells.view c.args.cells.now in
    (c.args.ty.now, g.B.Body.script c.args.body, v, c.new-machine.ensures.proceeds (g.C.Cells.passes c.args.cells.now) v c.requires.rests c.requires.draws)

pub returns-clause-ended : goal.returns-clause-ended
returns-clause-ended g c =
    let v = g.C.Cells.view c.args.cells.now in let passes = g.C.Cells.passes c.args.cells.now in
    let ty = c.args.ty.now in let f = g.B.Body.script c.args.body in
    finished_ok g.T.TxType.meaning g.T.Naming.valid g.T.Naming.sizes g.B.Body.script g.B.Body.then g.B.Body.left g.B.Body.may_ask passes ty f c.finish-ended.result v (g.C.Cells.view c.finish-ended.new.cells)
    (c.finish-ended.ensures.ended ty f v (c.new-machine.ensures.proceeds passes v c.requires.rests c.requires.draws))

pub returns-clause-err : goal.returns-clause-err
returns-clause-err g c =
    let v = g.C.Cells.view c.args.cells.now in let passes = g.C.Cells.passes c.args.cells.now in
    let ty = c.args.ty.now in let f = g.B.Body.script c.args.body in
    finished_err g.T.TxType.meaning g.T.Naming.valid g.T.Naming.sizes g.B.Body.script g.B.Body.then g.B.Body.left g.B.Body.may_ask passes ty f c.finish-ended.result v (g.C.Cells.view c.finish-ended.new.cells)
    (c.finish-ended.ensures.ended ty f v (c.new-machine.ensures.proceeds passes v c.requires.rests c.requires.draws))

pub returns-clause-calls : goal.returns-clause-calls
returns-clause-calls g c = subst (λ (n : ℕ). IfOk c.finish-ended.result (λ e. g.B.Body.left_at_reset e.body ≡ n)) c.new-machine.ensures.calls c.finish-ended.ensures.calls

pub returns-clause-steps : goal.returns-clause-steps
returns-clause-steps g c = omega (arith, c.finish-ended.ensures.steps, c.new-machine.ensures.left)
