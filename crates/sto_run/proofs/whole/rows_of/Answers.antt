use Rattle.std.proofs.Common.{ap, subst, sym, ◌∙◌}
use Rattle.std.proofs.lemmas.Result.{IfOk-weaker}
use Rattle.sto_store.proofs.Whole.{whole_contents}
use Rattle.sto_run.proofs.whole.rows_of.Goals as goal

pub rows_at-requires : goal.rows_at-requires
rows_at-requires g c =
    let m = g.T.TxType.meaning c.args.ty.now in
    subst m.valid (sym (whole_contents m (g.met.T.TxType.lawful c.args.ty.now) c.args.contents.now.items c.requires)) c.requires

pub returns : goal.returns
returns g c =
    let m = g.T.TxType.meaning c.args.ty.now in
    IfOk-weaker c.rows_at.result _ _ (λ s is. is ∙ ap m.rows (whole_contents m (g.met.T.TxType.lawful c.args.ty.now) c.args.contents.now.items c.requires)) c.rows_at.ensures
