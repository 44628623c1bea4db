use Rattle.std.specs.List.{flat_map}
use Rattle.std.proofs.Common.{◌≡◌, map, take}
use Rattle.sto_run_steps.specs.Turning.{entry_turns}
use Rattle.sto_explore.specs.Legs.{schedule_of}
use Rattle.sto_run_schedules.proofs.entries.entries_of.Given as goal

abbrev pub invariant-loop-leg : goal.invariant-loop-leg
invariant-loop-leg l = record {
  turns : flat_map entry_turns l.entries.items ≡ schedule_of (take l.leg-index l.legs);
  threads : map (λ e. e.thread) l.entries.items ≡ map (λ leg. leg.thread) (take l.leg-index l.legs);
}
