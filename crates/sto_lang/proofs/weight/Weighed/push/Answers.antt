use Rattle.std.proofs.Common.{◌∷◌, [], ap, ◌∙◌, arith}
use Rattle.sto_lang.specs.Written.{statements_of}
use Rattle.sto_lang.specs.Weights.{weight_of}
use Rattle.sto_lang.proofs.WeightLemmas.{weight_then}
use Rattle.sto_lang.proofs.weight.Weighed.push.Goals as goal

pub returns-clause-weighed : goal.returns-clause-weighed
returns-clause-weighed c = λ shapes own before.
    let all = ap (weight_of shapes) c.in_ok-push.ensures.ok ∙ weight_then shapes c.args.self.now.list (statements_of (c.args.item ∷ [])) in
    omega (arith, all, own, before, c.with-self.ensures)
