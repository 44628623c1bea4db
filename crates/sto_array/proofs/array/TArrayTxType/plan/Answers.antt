use Rattle.std.proofs.lemmas.Result.{IfOk-weaker}
use Rattle.sto_type.specs.Known.{known}
use Rattle.sto_type.specs.Plans.{planned}
use Rattle.sto_array.specs.Arrayed.{array_meaning}
use Rattle.sto_array.proofs.Saying.{said_planned}
use Rattle.sto_array.proofs.array.TArrayTxType.plan.Goals as goal

pub returns : goal.returns
returns c =
    IfOk-weaker c.answer.result _ _
    (λ a said. said_planned (array_meaning c.args.self.now.len c.args.self.now.first) c.args.call.now (known c.args.cache.now) (planned a) said)
    c.answer.ensures
