use Rattle.std.proofs.Common.{◌≡◌, ◌-◌, length, arith, slice_index_or, sym, ap}
use Rattle.std.proofs.lemmas.Option.{get_or_from_slice_get}
use Rattle.sto_attempt_log.specs.declared.commit_phase.FoundTicket.{FoundTicket}
use Rattle.sto_attempt_log.proofs.Orders.{rises_on}
use Rattle.sto_attempt_log.proofs.found_tickets.start_with.Goals as goal

pub returns-else-next-last : goal.returns-else-next-last
returns-else-next-last c =
    let xs = c.args.found_tickets.now in
    rises_on c.args.start xs c.args.next.now c.requires.rises (λ d h.
    let last : slice_index_or xs (length xs - 1) d ≡ c.in-Some.last.now = get_or_from_slice_get xs (length xs - 1) c.in-Some.last.now d (sym c.in-Some.ensures.value) in
    omega (arith, c.if-next-last.false, ap (λ (y : FoundTicket). y.part) last))
