use Rattle.std.proofs.Common.{rules}
use Rattle.std.proofs.lemmas.Result.{IfOk-weaker}
use Rattle.std.specs.HashSet.{IsFromIterResult}
use Rattle.sto_item.specs.contracts.item.ItemPartialEq.TheImpl.{eq-value}
use Rattle.sto_item.proofs.Known.{same_made}
use Rattle.sto_item.proofs.distinct.set_of.Goals as goal

pub returns : goal.returns
returns c = IfOk-weaker c.collect.result (IsFromIterResult eq-value.it c.args.items.now) _ (same_made c.args.items.now) (search rules)
