use Rattle.std.proofs.Common.{ℕ, List, map, ap, ◌∙◌, w64}
use Rattle.std.specs.Int.RustNames.{FitsSigned}
use Rattle.std.proofs.lemmas.Int.{to_z-of_z}
use Rattle.std.proofs.lemmas.Result.{IfOk-weaker}
use Rattle.sto_model.specs.Rows.{Row, rows_between}
use Rattle.sto_tree.specs.Between.{value_part_of}
use Rattle.sto_tree.proofs.walk.values_between.Goals as goal

pub returns : goal.returns
returns c =
    let ff : FitsSigned w64 c.args.from = c.ranges.from in
    let ft : FitsSigned w64 c.args.to = c.ranges.to in
    let pairs = simp to_z-of_z at c.in_ok-pairs.ensures in
    let g : Row → ℕ = λ r. value_part_of c.args.leaf c.args.keys.now r.0 in
    IfOk-weaker c.value_parts.result _ _ (λ l h. h ∙ ap (map g) (pairs ∙ ap (λ (rows : List Row). rows_between rows c.args.from c.args.to) c.in_ok-rows.ensures)) c.value_parts.ensures
