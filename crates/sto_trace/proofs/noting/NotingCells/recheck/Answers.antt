use Rattle.std.specs.Prelude.{pos}
use Rattle.sto_core.specs.Event.{Recheck}
use Rattle.sto_trace.proofs.Noted.{notes_one}
use Rattle.sto_trace.proofs.noting.NotingCells.recheck.Goals as goal

pub returns-clause-same : goal.returns-clause-same
returns-clause-same g c = (
  c.recheck-version.ensures.same,
  notes_one g.T.Naming.valid (g.C.Cells.passes c.args.self.now.cells) (Recheck c.args.part) c.recheck-version.result.0 (pos 0) (g.C.Cells.view c.args.self.now.cells) (g.C.Cells.view c.recheck-version.new.self) c.args.self.now.deed
      c.recheck-version.ensures.tells,
)
