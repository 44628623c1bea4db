use Rattle.std.proofs.Common.{◌≡◌, take}
use Rattle.sto_run.specs.Tickets.{tickets_of}
use Rattle.sto_run.proofs.rank.tickets.Given as goal

abbrev pub invariant-loop-record : goal.invariant-loop-record
invariant-loop-record l = l.found.items ≡ tickets_of (take l.record-index l.records)
