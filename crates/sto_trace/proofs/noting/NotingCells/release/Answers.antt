use Rattle.std.specs.Prelude.{pos}
use Rattle.sto_core.specs.Event.{Release}
use Rattle.sto_trace.proofs.Noted.{notes_one}
use Rattle.sto_trace.proofs.noting.NotingCells.release.Goals as goal

pub returns-clause-same : goal.returns-clause-same
returns-clause-same g c = (
  c.release.ensures.same,
  notes_one g.T.Naming.valid (g.C.Cells.passes c.args.self.now.cells) (Release c.args.part) 0 (pos 0) (g.C.Cells.view c.args.self.now.cells) (g.C.Cells.view c.release.new.self) c.args.self.now.deed
      c.release.ensures.tells,
)
