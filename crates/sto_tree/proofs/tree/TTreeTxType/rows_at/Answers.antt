use Rattle.std.proofs.Common.{ℕ, List, ◌++◌, ◌∷◌, [], take, drop, subst, ap, ◌∙◌, sym}
use Rattle.sto_model.specs.Rows.{Row}
use Rattle.sto_tree.specs.Layout.{parts_of, width_of, tree_rows}
use Rattle.sto_tree.specs.Valid.{IsTree}
use Rattle.sto_tree.specs.Sized.{length-listed}
use Rattle.sto_tree.proofs.tree.TTreeTxType.rows_at.Goals as goal

pub rows_from-requires-clause-tree : goal.rows_from-requires-clause-tree
rows_from-requires-clause-tree c =
    let n : ℕ = c.args.self.now.leaves in
    subst (λ (k : ℕ). IsTree n (take k (drop c.args.first c.args.contents.now.items))) (length-listed (width_of n) 0 (parts_of n)) c.requires

pub returns : goal.returns
returns c =
    let n : ℕ = c.args.self.now.leaves in
    c.in_ok-push.ensures.ok ∙ ap (λ s. s.items ++ c.in_ok-rows.rows.items ∷ []) c.new-state.ensures
    ∙ ap (λ (l : List Row). l ∷ []) (c.in_ok-rows.ensures ∙ ap (λ (k : ℕ). tree_rows n (take k (drop c.args.first c.args.contents.now.items))) (sym (length-listed (width_of n) 0 (parts_of n))))
