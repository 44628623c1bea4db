use Rattle.std.specs.List.{flat_map}
use Rattle.std.proofs.Common.{◌≡◌, ◌++◌, map, take}
use Rattle.sto_run_steps.specs.Turning.{entry_turns}
use Rattle.sto_run_schedules.specs.Parted.{turns_to_ends}
use Rattle.sto_run_schedules.proofs.entries.entries_to_ends.Given as goal

abbrev pub invariant-loop-thread : goal.invariant-loop-thread
invariant-loop-thread l = record {
  turns : flat_map entry_turns l.entries.items ≡ turns_to_ends l.decided l.most (take l.thread-index l.order);
  threads : map (λ e. e.thread) l.entries.items ≡ map (λ leg. leg.thread) l.decided ++ take l.thread-index l.order;
}
