use Rattle.sto_core.specs.Event.{Close}
use Rattle.sto_plain.proofs.Walking.{on_by}
use Rattle.sto_plain.proofs.at.AtCells.close.Goals as goal

pub returns-clause-same : goal.returns-clause-same
returns-clause-same g c = on_by g.T.Naming.valid (Close c.args.part) c.args.self.now.plain c.args.self.now.pass _ _ c.load_version.new.self c.load_version.ensures
