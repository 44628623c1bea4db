use Rattle.std.proofs.Common.{None, sym, ap, ◌∙◌}
use Rattle.sto_lang.specs.Weights.{weight_of}
use Rattle.sto_lang.specs.BegunViews.{args_of}
use Rattle.sto_lang.proofs.WeightLemmas.{ask_weighs}
use Rattle.sto_lang.proofs.open_transaction.OpenTransaction.add_call.Goals as goal

pub returns-in_err-push-clause-weighed : goal.returns-in_err-push-clause-weighed
returns-in_err-push-clause-weighed c = λ shapes is h.
    let own = ap (weight_of shapes) c.call.ensures.call ∙ ask_weighs shapes None c.args.object c.args.operation (args_of c.arguments-operands.result) in
    (c.push.ensures.weighed shapes (is ∙ sym own) h.0, h.1)
