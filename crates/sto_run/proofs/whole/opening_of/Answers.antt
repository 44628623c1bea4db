use Rattle.std.proofs.Common.{subst, sym}
use Rattle.std.proofs.lemmas.Result.{IfOk-weaker}
use Rattle.sto_run.proofs.whole.opening_of.Goals as goal

pub returns-clause-valid : goal.returns-clause-valid
returns-clause-valid g c =
    let x = c.args.ty.now in
    let m = g.T.TxType.meaning x in
    IfOk-weaker c.opening.result _ _
    (λ contents is. (g.met.T.TxType.valid_is x contents.items).0 (subst m.valid (sym is) (g.met.T.TxType.lawful x).opening))
    c.opening.ensures
