use Rattle.std.proofs.Common.{◌≡◌}
use Rattle.std.specs.Prelude.{filter}
use Rattle.sto_run.specs.Splits.{has_ended, was_aborted}
use Rattle.sto_run.proofs.split.part.Given as goal

abbrev pub invariant-loop-record : goal.invariant-loop-record
invariant-loop-record l = record { ended_so_far : l.ended.items ≡ filter has_ended l.yielded; aborted_so_far : l.aborted.items ≡ filter was_aborted l.yielded }
