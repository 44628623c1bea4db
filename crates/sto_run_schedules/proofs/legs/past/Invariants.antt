use Rattle.std.proofs.Common.{◌≡◌, ◌<◌, ◌^◌, length, drop}
use Rattle.sto_run_schedules.specs.Parted.{past}
use Rattle.sto_run_schedules.proofs.legs.past.Given as goal

abbrev pub invariant-loop-leg : goal.invariant-loop-leg
invariant-loop-leg l = record {
  left : past (drop l.leg-index l.decided) l.rest ≡ past l.decided l.steps;
  few : length l.rest < 2 ^ 32;
}
