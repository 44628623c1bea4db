use Rattle.std.proofs.Common.{◌≡◌, drop, flat_map}
use Rattle.std.specs.Ordering.{nat_cmp}
use Rattle.std.specs.Cmp.Lexicographic.{slice_cmp}
use Rattle.sto_run_orders.specs.Reports.{entry_rank}
use Rattle.sto_run_orders.proofs.order.compare_entries.Given as goal

abbrev pub invariant-loop-k : goal.invariant-loop-k
invariant-loop-k l =
    slice_cmp nat_cmp (flat_map entry_rank l.a) (flat_map entry_rank l.b) ≡ slice_cmp nat_cmp (flat_map entry_rank (drop l.k l.a)) (flat_map entry_rank (drop l.k l.b))
