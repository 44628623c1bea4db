use Rattle.std.specs.Prelude.{pos}
use Rattle.sto_core.specs.Event.{Start}
use Rattle.sto_trace.proofs.Noted.{notes_one}
use Rattle.sto_trace.proofs.noting.NotingCells.start.Goals as goal

pub returns-clause-same : goal.returns-clause-same
returns-clause-same g c = (
  c.start-clock.ensures.same,
  notes_one g.T.Naming.valid (g.C.Cells.passes c.args.self.now.cells) Start c.start-clock.result (pos 0) (g.C.Cells.view c.args.self.now.cells) (g.C.Cells.view c.start-clock.new.self) c.args.self.now.deed
      c.start-clock.ensures.tells,
)
