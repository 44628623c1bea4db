use Rattle.std.proofs.Common.{◌∙◌}
use Rattle.sto_orders.proofs.Filling.{lines_counted}
use Rattle.sto_orders.proofs.key.done_in.Goals as goal

pub returns : goal.returns
returns c = c.lines_of.ensures.count ∙ lines_counted c.args.lines.now c.args.thread
