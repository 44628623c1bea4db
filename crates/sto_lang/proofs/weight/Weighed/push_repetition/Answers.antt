use Rattle.std.proofs.Common.{◌+◌, ◌*◌, ℕ, min, ap, ◌∙◌, arith}
use Rattle.sto_lang.specs.Statements.{Nothing, Repeat}
use Rattle.sto_lang.specs.Weights.{weight_of}
use Rattle.sto_lang.proofs.WeightLemmas.{weight_then, capped}
use Rattle.sto_lang.proofs.weight.Weighed.push_repetition.Goals as goal

pub returns-clause-weighed : goal.returns-clause-weighed
returns-clause-weighed c = λ shapes body before.
    let own = Repeat c.args.times c.args.body.now.list Nothing in
    let all = ap (weight_of shapes) c.in_ok-push_repetition.ensures.ok ∙ weight_then shapes c.args.self.now.list own in
    let times = ap (λ (n : ℕ). min (c.args.self.now.weight + (1 + c.args.times * n)) 4097) body ∙ capped c.args.times (weight_of shapes c.args.body.now.list) c.args.self.now.weight in
    let product = ap (λ (n : ℕ). n * c.from-2.result) c.from.ensures ∙ ap (λ (n : ℕ). c.args.times * n) c.from-2.ensures in
    omega (arith, all, times, product, before, c.with-self.ensures)
