use Rattle.std.specs.Prelude.{pos}
use Rattle.sto_core.specs.Event.{Close}
use Rattle.sto_trace.proofs.Noted.{notes_one}
use Rattle.sto_trace.proofs.noting.NotingCells.close.Goals as goal

pub returns-clause-same : goal.returns-clause-same
returns-clause-same g c = (
  c.close-version.ensures.same,
  notes_one g.T.Naming.valid (g.C.Cells.passes c.args.self.now.cells) (Close c.args.part) c.close-version.result.0 (pos 0) (g.C.Cells.view c.args.self.now.cells) (g.C.Cells.view c.close-version.new.self) c.args.self.now.deed
      c.close-version.ensures.tells,
)
