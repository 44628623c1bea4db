use Rattle.std.specs.Prelude.{pos}
use Rattle.std.proofs.Common.{w64, to_z, of_z}
use Rattle.sto_core.specs.Event.{Put}
use Rattle.sto_trace.proofs.Noted.{notes_one}
use Rattle.sto_trace.proofs.noting.NotingCells.put.Goals as goal

pub returns-clause-same : goal.returns-clause-same
returns-clause-same g c =
    let valid = g.T.Naming.valid in let passes = g.C.Cells.passes c.args.self.now.cells in
    let v = g.C.Cells.view c.args.self.now.cells in let w = g.C.Cells.view c.put.new.self in
    let x = to_z w64 (of_z w64 c.args.value) in (
      c.put.ensures.same,
      notes_one valid passes (Put c.args.part c.args.word x) 0 (pos 0) v w c.args.self.now.deed c.put.ensures.tells,
    )
