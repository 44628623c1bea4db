use Rattle.sto_core.specs.Event.{Decide}
use Rattle.sto_plain.proofs.Walking.{on_by}
use Rattle.sto_plain.proofs.at.AtCells.decide.Goals as goal

pub returns-clause-same : goal.returns-clause-same
returns-clause-same g c = on_by g.T.Naming.valid (Decide c.args.commit) c.args.self.now.plain c.args.self.now.pass _ _ c.store_status.new.self c.store_status.ensures
