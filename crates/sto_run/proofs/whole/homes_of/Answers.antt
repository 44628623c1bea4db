use Rattle.std.proofs.Common.{◌≡◌, ◌++◌, ◌∷◌, [], true, not, is_ok, ap, ◌∙◌, arith}
use Rattle.std.proofs.lemmas.List.{take_all}
use Rattle.sto_run.proofs.Entire.{home_added}
use Rattle.sto_run.proofs.whole.homes_of.Goals as goal

pub loop-part-preserved : goal.loop-part-preserved
loop-part-preserved g c =
    let okay : is_ok c.push.result ≡ true = c.is_err.ensures.negation ∙ ap not c.if-is_err.false in
    let added : c.push.new.self.items ≡ c.loop-part.homes.items ++ c.home.result ∷ [] = rw okay at c.push.ensures.items in
    home_added (g.T.TxType.meaning c.args.ty.now).homes c.loop-part.homes.items c.push.new.self.items c.home.result c.loop-part.part c.loop-part.invariant added c.home.ensures

pub returns : goal.returns
returns g c =
    let m = g.T.TxType.meaning c.args.ty.now in
    let many = (g.met.T.TxType.lawful c.args.ty.now).homes in
    c.loop-part.invariant ∙ take_all c.loop-part.part m.homes (omega (arith, many, c.parts-part-end.ensures, c.loop-part-test.false))
