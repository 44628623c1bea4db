use Rattle.std.proofs.Common.{◌≡◌, length}
use Rattle.sto_action.proofs.Snapshots.{IsSoFar}
use Rattle.sto_action.proofs.snapshot.boxes_held.Given as goal

abbrev pub invariant-loop-place : goal.invariant-loop-place
invariant-loop-place g l = record {
  many : length l.held ≡ g.row.N;
  so : IsSoFar l.place l.held l.fn.tx l.tx;
}
