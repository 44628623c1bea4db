use Rattle.std.proofs.Common.{◌≡◌, ◌≤◌, List, map, length}
use Rattle.std.specs.List.{flat_map}
use Rattle.sto_lang.specs.Objects.{Declaration}
use Rattle.sto_journal.specs.Journals.{home_pair, abort}
use Rattle.sto_run.specs.PlainAborts.{aborts_at}
use Rattle.sto_run.proofs.abort.abort_lines.Given as goal

abbrev pub invariant-loop-record : goal.invariant-loop-record
invariant-loop-record l = record { so_far : (ds : List Declaration) → map (abort ds) l.lines.items ≡ flat_map (aborts_at ds (map home_pair l.homes) l.tickets) l.yielded; room : length l.lines.items ≤ length l.yielded }
