use Rattle.sto_core.specs.Event.{Word}
use Rattle.sto_plain.proofs.Walking.{on_by}
use Rattle.sto_plain.proofs.at.AtCells.word.Goals as goal

pub returns-clause-same : goal.returns-clause-same
returns-clause-same g c = on_by g.T.Naming.valid (Word c.args.part c.args.word) c.args.self.now.plain c.args.self.now.pass _ _ c.load_word.new.self c.load_word.ensures
