use Rattle.sto_core.specs.Event.{Start}
use Rattle.sto_plain.proofs.Walking.{on_by}
use Rattle.sto_plain.proofs.at.AtCells.start.Goals as goal

pub returns-clause-same : goal.returns-clause-same
returns-clause-same g c = on_by g.T.Naming.valid Start c.args.self.now.plain c.args.self.now.pass _ _ c.load_clock.new.self c.load_clock.ensures
