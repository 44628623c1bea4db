use Rattle.std.proofs.Common.{ℕ, arith, sym}
use Rattle.sto_tree.specs.Layout.{parts_of, width_of}
use Rattle.sto_tree.specs.Sized.{length-listed}
use Rattle.sto_tree.proofs.Parts.{width_at}
use Rattle.sto_tree.proofs.tree.TTreeTxType.width.Goals as goal

pub width_at-requires-clause-part : goal.width_at-requires-clause-part
width_at-requires-clause-part c =
    let n : ℕ = c.args.self.now.leaves in
    omega (arith, c.requires, length-listed (width_of n) 0 (parts_of n))

pub returns : goal.returns
returns c =
    let n : ℕ = c.args.self.now.leaves in
    width_at n c.args.part c.width_at.result (omega (arith, c.requires, length-listed (width_of n) 0 (parts_of n))) (sym c.width_at.ensures)
