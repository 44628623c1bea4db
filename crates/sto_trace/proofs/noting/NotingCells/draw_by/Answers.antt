use Rattle.std.specs.Prelude.{Some, pos}
use Rattle.std.proofs.Common.{ℕ, sym, subst}
use Rattle.sto_core.specs.Event.{Draw}
use Rattle.sto_trace.specs.Noted.{Notes}
use Rattle.sto_trace.specs.declared.Deed.TheVariants as deeds
use Rattle.sto_trace.proofs.Noted.{notes_one}
use Rattle.sto_trace.proofs.noting.NotingCells.draw_by.Goals as goal

pub returns-clause-same : goal.returns-clause-same
returns-clause-same g c =
    let valid = g.T.Naming.valid in let passes = g.C.Cells.passes c.args.self.now.cells in
    let v = g.C.Cells.view c.args.self.now.cells in let w = g.C.Cells.view c.draw_by-ticket.new.self in
    let drawn = Draw (g.L.CommitLists.updates c.args.lists.now) (g.L.CommitLists.seen c.args.lists.now) (g.L.CommitLists.loaded c.args.lists.now) in
    let tells = c.draw_by-ticket.ensures.tells in (
      c.draw_by-ticket.ensures.same,
      subst (λ (n : ℕ). Notes valid passes v w c.args.self.now.deed (Some (deeds.Draw n))) (sym tells.1)
          (notes_one valid passes drawn tells.0 (pos 0) v w c.args.self.now.deed tells.2),
    )
