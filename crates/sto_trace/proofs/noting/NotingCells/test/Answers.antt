use Rattle.std.specs.Prelude.{pos}
use Rattle.sto_core.specs.Event.{Test}
use Rattle.sto_trace.proofs.Noted.{notes_one}
use Rattle.sto_trace.proofs.noting.NotingCells.test.Goals as goal

pub returns-clause-same : goal.returns-clause-same
returns-clause-same g c = (
  c.test-version.ensures.same,
  notes_one g.T.Naming.valid (g.C.Cells.passes c.args.self.now.cells) (Test c.args.part) c.test-version.result.0 (pos 0) (g.C.Cells.view c.args.self.now.cells) (g.C.Cells.view c.test-version.new.self) c.args.self.now.deed
      c.test-version.ensures.tells,
)
