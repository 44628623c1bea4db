use Rattle.std.proofs.Common.{ℕ, ◌<◌, leb, leb-true, arith, rules, sym}
use Rattle.std.proofs.lemmas.Bool.Decides.{nat_tests}
use Rattle.std.proofs.lemmas.List.Sorted.{IsPartitionPoint-from_clause, IsPartitionedBy-leb}
use Rattle.sto_run.proofs.Counted.{parted_count, above_by}
use Rattle.sto_run.proofs.rank.rank.Goals as goal

pub returns-clause-counts : goal.returns-clause-counts
returns-clause-counts c =
    let parted = IsPartitionedBy-leb (λ (t : ℕ). t) _ c.args.number c.requires in
    let point = IsPartitionPoint-from_clause (λ (t : ℕ). leb t c.args.number) _ _ c.partition_point.ensures.partitioned parted (λ a r q k. search rules) in
    sym (parted_count c.args.number c.partition_point.result c.args.tickets.now c.partition_point.ensures.bound
    (λ i d u. leb-true _ _ (point.0 i d (omega arith) u))
    (λ i d a b. above_by _ _ (point.1 i d a b)))
