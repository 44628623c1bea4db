use Rattle.std.proofs.Common.{◌≡◌, map, take}
use Rattle.sto_journal.specs.Journals.{entry}
use Rattle.sto_orders.specs.Keys.{last_writers}
use Rattle.sto_orders.proofs.key.writers_in.Given as goal

abbrev pub invariant-loop-line : goal.invariant-loop-line
invariant-loop-line l = l.writers ≡ last_writers 0 (map entry (take l.line-index l.lines))
