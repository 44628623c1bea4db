use Rattle.std.proofs.Common.{◌≡◌, ◌≤◌, map, length}
use Rattle.sto_journal.specs.Journals.{entry}
use Rattle.sto_run.specs.PlainLines.{line_at}
use Rattle.sto_run.proofs.merging.lines_of.Given as goal

abbrev pub invariant-loop-record : goal.invariant-loop-record
invariant-loop-record l = record { so_far : map entry l.lines.items ≡ map (line_at l.tickets) l.yielded; room : length l.lines.items ≤ length l.yielded }
