use Rattle.std.proofs.Common.{◌≡◌, ◌*◌, ◌^◌, take, pos, neg_ℤ, ◌≤ℤ◌}
use Rattle.sto_bench.specs.Summary.{total_of}
use Rattle.sto_bench.proofs.text.total.Given as goal

abbrev pub invariant-loop-row : goal.invariant-loop-row
invariant-loop-row l =
    (l.total ≡ total_of (take l.row-index l.rows)) × (neg_ℤ (pos (2 ^ 63 * l.row-index)) ≤ℤ l.total) × (l.total ≤ℤ pos (2 ^ 63 * l.row-index))
