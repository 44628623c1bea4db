use Rattle.sto_core.specs.Event.{Release}
use Rattle.sto_plain.proofs.Walking.{on_by}
use Rattle.sto_plain.proofs.at.AtCells.release.Goals as goal

pub returns-clause-same : goal.returns-clause-same
returns-clause-same g c = on_by g.T.Naming.valid (Release c.args.part) c.args.self.now.plain c.args.self.now.pass _ _ c.store_version.new.self c.store_version.ensures
