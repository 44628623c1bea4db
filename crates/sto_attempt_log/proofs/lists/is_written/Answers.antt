use Rattle.std.proofs.Common.{ltb, rules, ℕ}
use Rattle.std.proofs.lemmas.List.Sorted.{IsPartitionPoint-from_clause, IsPartitionedBy-ltb}
use Rattle.sto_part.specs.Listed.{Listed}
use Rattle.sto_part.specs.declared.change.Change.{Change}
use Rattle.sto_item.proofs.Found.{parts_rise}
use Rattle.sto_attempt_log.proofs.Halving.{any_here, none_here}
use Rattle.sto_attempt_log.proofs.lists.is_written.Goals as goal

pub returns-then-place-updates : goal.returns-then-place-updates
returns-then-place-updates c =
    let us = c.args.updates.now in
    let p = c.args.part in
    let rise = parts_rise us p c.requires in
    let point = IsPartitionPoint-from_clause (λ u. ltb u.0 p) _ _ c.partition_point-place.ensures.partitioned (IsPartitionedBy-ltb (λ u. u.0) us p rise) (λ a r q k. search rules) in
    any_here (λ (u : ℕ × Listed Change). u.0) p us rise c.partition_point-place.result point c.index-updates-place.result c.if-place-updates.true

pub returns-else-place-updates : goal.returns-else-place-updates
returns-else-place-updates c =
    let us = c.args.updates.now in
    let p = c.args.part in
    let rise = parts_rise us p c.requires in
    let point = IsPartitionPoint-from_clause (λ u. ltb u.0 p) _ _ c.partition_point-place.ensures.partitioned (IsPartitionedBy-ltb (λ u. u.0) us p rise) (λ a r q k. search rules) in
    none_here (λ (u : ℕ × Listed Change). u.0) p us rise c.partition_point-place.result point c.if-place-updates.false
