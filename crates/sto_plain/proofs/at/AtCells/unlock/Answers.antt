use Rattle.sto_core.specs.Event.{Unlock}
use Rattle.sto_plain.proofs.Walking.{on_by}
use Rattle.sto_plain.proofs.at.AtCells.unlock.Goals as goal

pub returns-clause-same : goal.returns-clause-same
returns-clause-same g c = on_by g.T.Naming.valid (Unlock c.args.part) c.args.self.now.plain c.args.self.now.pass _ _ c.clear_lock.new.self c.clear_lock.ensures
