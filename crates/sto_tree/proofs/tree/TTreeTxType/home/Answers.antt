use Rattle.std.proofs.Common.{◌≡◌, ℕ, ◌+◌, ap, ◌∙◌, arith, Some}
use Rattle.sto_tree.specs.Layout.{parts_of, width_of}
use Rattle.sto_tree.specs.Sized.{length-listed}
use Rattle.sto_tree.proofs.Parts.{listed_get}
use Rattle.sto_tree.proofs.tree.TTreeTxType.home.Goals as goal

pub returns : goal.returns
returns c =
    let n : ℕ = parts_of c.args.self.now.leaves in
    let e : 0 + c.args.part ≡ c.args.part = omega arith in
    listed_get {A = ℕ × ℕ} (λ (q : ℕ). (0, q)) 0 n c.args.part (omega (arith, c.requires, length-listed (width_of c.args.self.now.leaves) 0 n)) ∙ ap (λ (x : ℕ). Some (0, x)) e
