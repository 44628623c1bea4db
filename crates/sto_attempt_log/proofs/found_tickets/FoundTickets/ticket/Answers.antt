use Rattle.std.proofs.Common.{◌≡◌, ◌-◌, List, length, ap, sym, ◌∙◌, take, drop, arith, length-drop}
use Rattle.std.proofs.lemmas.List.{take_all}
use Rattle.sto_part.specs.Listed.{Listed}
use Rattle.sto_attempt_log.specs.declared.commit_phase.FoundTicket.{FoundTicket}
use Rattle.sto_attempt_log.specs.CommitPhases.{ticket_from}
use Rattle.sto_attempt_log.proofs.Orders.{ticket_split}
use Rattle.sto_attempt_log.proofs.found_tickets.FoundTickets.ticket.Goals as goal

pub returns-in-Some : goal.returns-in-Some
returns-in-Some c =
    let xs = c.as_slice-found_tickets.result.now in
    let p = c.args.part in
    let s = c.self.inside.start in
    let before = ticket_from 0 (take s xs) p in
    let run : take (length xs - s) (drop s xs) ≡ drop s xs = take_all (length xs - s) (drop s xs) (omega (arith, length-drop s xs)) in
    sym (c.in-Some.ensures before) ∙ ap (λ (l : List FoundTicket). ticket_from before l p) run ∙ sym (ticket_split s 0 xs p)
    ∙ ap (λ (l : List FoundTicket). ticket_from 0 l p) c.as_slice-found_tickets.ensures.items ∙ ap (λ (l : Listed FoundTicket). ticket_from 0 l.items p) c.self.view_is
