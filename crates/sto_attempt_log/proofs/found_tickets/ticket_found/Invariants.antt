use Rattle.std.proofs.Common.{◌≡◌, drop}
use Rattle.sto_attempt_log.specs.CommitPhases.{ticket_from}
use Rattle.sto_attempt_log.proofs.found_tickets.ticket_found.Given as goal

-- the last of those that were passed over, and of the rest
abbrev pub invariant-loop-find : goal.invariant-loop-find
invariant-loop-find l = ticket_from 0 l.found_tickets l.part ≡ ticket_from l.ticket (drop l.find-index l.found_tickets) l.part
