use Rattle.std.proofs.Common.{arith}
use Rattle.sto_item.proofs.Known.{found_among, found_there}
use Rattle.sto_item.proofs.distinct.is_among.Goals as goal

pub returns-then-items-le-FEW : goal.returns-then-items-le-FEW
returns-then-items-le-FEW c = rw c.contains.ensures.value (found_among c.args.items.now c.args.item.now)

pub returns-else-items-le-FEW : goal.returns-else-items-le-FEW
returns-else-items-le-FEW c =
    rw c.contains-else-items-le-FEW.ensures (found_there c.args.items.now c.args.known.now (c.requires (omega (arith, c.if-items-le-FEW.false))) c.args.item.now)
