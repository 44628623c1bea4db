use Rattle.std.specs.Prelude.{pos}
use Rattle.sto_core.specs.Event.{Renew}
use Rattle.sto_trace.proofs.Noted.{notes_one}
use Rattle.sto_trace.proofs.noting.NotingCells.renew.Goals as goal

pub returns-clause-same : goal.returns-clause-same
returns-clause-same g c = (
  c.renew-clock.ensures.same,
  notes_one g.T.Naming.valid (g.C.Cells.passes c.args.self.now.cells) Renew c.renew-clock.result (pos 0) (g.C.Cells.view c.args.self.now.cells) (g.C.Cells.view c.renew-clock.new.self) c.args.self.now.deed
      c.renew-clock.ensures.tells,
)
