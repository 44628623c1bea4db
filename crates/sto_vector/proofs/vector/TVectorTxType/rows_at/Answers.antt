use Rattle.std.proofs.Common.{ℕ, suc, take, drop, subst, rules, FitsSigned}
use Rattle.std.specs.Int.{w64}
use Rattle.std.proofs.lemmas.Int.{to_z-of_z}
use Rattle.sto_array.specs.ArrayedRows.{length-replicate}
use Rattle.sto_vector.specs.Vectored.{IsVector}
use Rattle.sto_vector.proofs.Rows.{are_places}
use Rattle.sto_vector.proofs.vector.TVectorTxType.rows_at.Goals as goal

pub array_rows_at-requires : goal.array_rows_at-requires
array_rows_at-requires c =
    let capacity = c.args.self.now.capacity in
    let items = c.args.contents.now.items in
    let r : FitsSigned w64 c.word.result = search rules in
    let v : IsVector capacity (take (suc capacity) (drop c.args.first items)) = subst (λ (n : ℕ). IsVector capacity (take n (drop c.args.first items))) (length-replicate (suc capacity)) c.requires in
    are_places capacity c.args.first items v c.args.self.now.few c.word.result c.word.ensures c.size_in-size.result (simp to_z-of_z at c.size_in-size.ensures.is)
