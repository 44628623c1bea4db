use Rattle.std.specs.Prelude.{Some}
use Rattle.std.proofs.Common.{◌≡◌, ℤ, sym, subst, rules, FitsSigned, w64, to_z, of_z}
use Rattle.std.proofs.lemmas.Int.{to_z-of_z}
use Rattle.sto_core.specs.Event.{Word}
use Rattle.sto_trace.specs.Noted.{Notes}
use Rattle.sto_trace.specs.declared.Deed.TheVariants as deeds
use Rattle.sto_trace.proofs.Noted.{notes_one}
use Rattle.sto_trace.proofs.noting.NotingCells.word.Goals as goal

pub returns-clause-same : goal.returns-clause-same
returns-clause-same g c =
    let valid = g.T.Naming.valid in let passes = g.C.Cells.passes c.args.self.now.cells in
    let v = g.C.Cells.view c.args.self.now.cells in let w = g.C.Cells.view c.word-value.new.self in
    let x = c.word-value.result in
    let fits : FitsSigned w64 x = search rules in
    let same : to_z w64 (of_z w64 x) ≡ x = to_z-of_z w64 x fits in (
      c.word-value.ensures.same,
      subst (λ (y : ℤ). Notes valid passes v w c.args.self.now.deed (Some (deeds.Word c.args.part c.args.word y))) (sym same)
          (notes_one valid passes (Word c.args.part c.args.word) 0 x v w c.args.self.now.deed c.word-value.ensures.tells),
    )
