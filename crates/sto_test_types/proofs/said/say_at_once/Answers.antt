use Rattle.std.proofs.Common.{sym, subst, ap, ◌∙◌, []}
use Rattle.sto_type.specs.Known.{Known, known, beyond, IsPartOf}
use Rattle.sto_test_types.proofs.said.say_at_once.Goals as goal

pub say-requires-clause-part : goal.say-requires-clause-part
say-requires-clause-part g c =
    let m = g.T.TxType.meaning c.args.ty.now in
    let nothing : IsPartOf (beyond 10 (known [])) m.opened = record { same = λ p ws below e. cc } in
    (m.opened, (g.met.T.TxType.lawful c.args.ty.now).opening, subst (λ (k : Known). IsPartOf (beyond 10 k) m.opened) (sym (c.all.ensures ∙ ap known c.new-cache.ensures)) nothing)
