use Rattle.sto_plain.proofs.Walking.{on_by}
use Rattle.sto_plain.proofs.at.AtCells.put.Goals as goal

pub returns-clause-same : goal.returns-clause-same
returns-clause-same g c = on_by g.T.Naming.valid _ c.args.self.now.plain c.args.self.now.pass _ _ c.store_word.new.self c.store_word.ensures
