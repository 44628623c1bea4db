use Rattle.sto_core.specs.Event.{Test}
use Rattle.sto_plain.proofs.Walking.{on_by}
use Rattle.sto_plain.proofs.at.AtCells.test.Goals as goal

pub returns-clause-same : goal.returns-clause-same
returns-clause-same g c = on_by g.T.Naming.valid (Test c.args.part) c.args.self.now.plain c.args.self.now.pass _ _ c.load_version.new.self c.load_version.ensures
