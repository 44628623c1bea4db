use Rattle.std.proofs.Common.{◌≡◌, ◌<◌, ◌^◌, ◌++◌, length, drop}
use Rattle.sto_run_schedules.specs.Parted.{ends_of}
use Rattle.sto_run_schedules.proofs.legs.ends.Given as goal

abbrev pub invariant-loop-thread : goal.invariant-loop-thread
invariant-loop-thread l = record {
  made : l.legs.items ++ ends_of l.most (drop l.thread-index l.order) l.rest ≡ ends_of l.most l.order l.steps;
  few : length l.rest < 2 ^ 32;
}
