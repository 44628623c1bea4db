use Rattle.std.proofs.Common.{◌≡◌, map, take}
use Rattle.sto_transaction.specs.Plain.{plain}
use Rattle.sto_run_schedules.proofs.kept.all_copied.Given as goal

-- those so far
abbrev pub invariant-loop-original : goal.invariant-loop-original
invariant-loop-original l = map plain l.copies.items ≡ map plain (take l.original-index l.records)
