use Rattle.std.proofs.Common.{sym, subst}
use Rattle.sto_type.specs.Known.{known}
use Rattle.sto_type.specs.Saying.{IsSaidFrom}
use Rattle.sto_array.specs.Arrayed.{array_meaning}
use Rattle.sto_array.proofs.array.TArrayTxType.say.Goals as goal

pub returns : goal.returns
returns c =
    subst (IsSaidFrom (array_meaning c.args.self.now.len c.args.self.now.first) c.args.first c.args.call.now (known c.args.cache.now)) (sym c.pour.ensures) c.in_ok-answer.ensures
