use Rattle.std.specs.Prelude.{pos}
use Rattle.sto_core.specs.Event.{Decide}
use Rattle.sto_trace.proofs.Noted.{notes_one}
use Rattle.sto_trace.proofs.noting.NotingCells.decide.Goals as goal

pub returns-clause-same : goal.returns-clause-same
returns-clause-same g c = (
  c.decide.ensures.same,
  notes_one g.T.Naming.valid (g.C.Cells.passes c.args.self.now.cells) (Decide c.args.commit) 0 (pos 0) (g.C.Cells.view c.args.self.now.cells) (g.C.Cells.view c.decide.new.self) c.args.self.now.deed
      c.decide.ensures.tells,
)
