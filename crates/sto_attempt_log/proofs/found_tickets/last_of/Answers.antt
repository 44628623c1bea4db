use Rattle.std.proofs.Common.{◌≡◌, ◌-◌, true, nat_eq, leb, slice_index_or, arith, rules, eq-eqb}
use Rattle.std.proofs.lemmas.List.Sorted.{IsPartitionPoint-from_clause, IsPartitionedBy-leb}
use Rattle.sto_attempt_log.specs.declared.commit_phase.FoundTicket.{FoundTicket}
use Rattle.sto_attempt_log.proofs.Orders.{last_ticket}
use Rattle.sto_attempt_log.proofs.found_tickets.last_of.Goals as goal

pub returns-then-found_tickets-end : goal.returns-then-found_tickets-end
returns-then-found_tickets-end c =
    let xs = c.args.found_tickets.now in
    let p = c.args.part in
    let end = c.partition_point-end.result in
    let none : FoundTicket = record { part = 0; ticket = 0 } in
    let point = IsPartitionPoint-from_clause (λ (x : FoundTicket). leb x.part p) _ _ c.partition_point-end.ensures.partitioned (IsPartitionedBy-leb (λ (x : FoundTicket). x.part) xs p c.requires) (λ a r q k. search rules) in
    let hit : nat_eq (slice_index_or xs (end - 1) none).part p ≡ true = eq-eqb (slice_index_or xs (end - 1) none).part p c.if-found_tickets-end.true in
    λ t. last_ticket xs p t (end - 1) end none (omega (arith, c.if-end-gt0.true)) c.partition_point-end.ensures.bound hit point
