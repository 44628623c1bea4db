use Rattle.std.proofs.Common.{ap, ◌∙◌, arith}
use Rattle.sto_lang.specs.Statements.{Nothing, Choose}
use Rattle.sto_lang.specs.Weights.{weight_of}
use Rattle.sto_lang.proofs.WeightLemmas.{weight_then}
use Rattle.sto_lang.proofs.weight.Weighed.push_choice.Goals as goal

pub returns-clause-weighed : goal.returns-clause-weighed
returns-clause-weighed c = λ shapes first second before.
    let own = Choose c.args.a c.args.test c.args.b c.args.first.now.list c.args.second.now.list Nothing in
    let all = ap (weight_of shapes) c.in_ok-push_choice.ensures.ok ∙ weight_then shapes c.args.self.now.list own in
    omega (arith, all, first, second, before, c.with-self.ensures, c.from.ensures, c.from-2.ensures)
