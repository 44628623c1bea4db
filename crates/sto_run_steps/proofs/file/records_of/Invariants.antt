use Rattle.std.specs.List.{flat_map}
use Rattle.std.proofs.Common.{◌≡◌}
use Rattle.sto_run_steps.proofs.file.records_of.Given as goal

abbrev pub invariant-loop-seat : goal.invariant-loop-seat
invariant-loop-seat g l = l.records.items ≡ flat_map (λ s. s.records.items) l.yielded
