use Rattle.sto_core.specs.Event.{Lock}
use Rattle.sto_plain.proofs.Walking.{on_by}
use Rattle.sto_plain.proofs.at.AtCells.lock.Goals as goal

pub returns-clause-same : goal.returns-clause-same
returns-clause-same g c = on_by g.T.Naming.valid (Lock c.args.part) c.args.self.now.plain c.args.self.now.pass _ _ c.set_lock.new.self c.set_lock.ensures
