use Rattle.std.proofs.Common.{◌≡◌, drop, flat_map}
use Rattle.std.specs.Ordering.{nat_cmp}
use Rattle.std.specs.Cmp.Lexicographic.{slice_cmp}
use Rattle.sto_explore.specs.Outcomes.{leg_rank}
use Rattle.sto_explore.proofs.order.compare_legs.Given as goal

abbrev pub invariant-loop-k : goal.invariant-loop-k
invariant-loop-k l =
    slice_cmp nat_cmp (flat_map leg_rank l.a) (flat_map leg_rank l.b) ≡ slice_cmp nat_cmp (flat_map leg_rank (drop l.k l.a)) (flat_map leg_rank (drop l.k l.b))
