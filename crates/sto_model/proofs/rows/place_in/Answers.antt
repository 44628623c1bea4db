use Rattle.std.proofs.Common.{rules, int_lt}
use Rattle.std.proofs.lemmas.List.Sorted.{IsPartitionPoint-from_clause}
use Rattle.sto_model.specs.Rows.{Row}
use Rattle.sto_model.proofs.RowPlaces.{parted, found_place}
use Rattle.sto_model.proofs.rows.place_in.Goals as goal

pub returns : goal.returns
returns c =
    let rows = c.args.rows.now in
    let key = c.args.key in
    let point = IsPartitionPoint-from_clause (λ (r : Row). int_lt r.0 key) _ _ c.partition_point.ensures.partitioned (parted rows key c.requires.rising) (λ a r q k. search rules) in
    found_place rows key c.partition_point.result c.partition_point.ensures.bound point
