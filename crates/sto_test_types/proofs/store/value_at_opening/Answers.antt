use Rattle.std.proofs.Common.{sym, subst}
use Rattle.sto_type.specs.Known.{Known, IsPartOf}
use Rattle.sto_test_types.proofs.store.value_at_opening.Goals as goal

pub plan-requires-clause-part : goal.plan-requires-clause-part
plan-requires-clause-part g c =
    let m = g.T.TxType.meaning c.args.ty.now in
    (m.opened, (g.met.T.TxType.lawful c.args.ty.now).opening, subst (λ (k : Known). IsPartOf k m.opened) (sym c.all.ensures) c.in_ok-cache.ensures)
