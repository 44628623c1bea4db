use Rattle.std.proofs.Common.{◌≡◌, take}
use Rattle.sto_picture.specs.Views.{bytes_of}
use Rattle.sto_picture.specs.Places.{longest, lane_names}
use Rattle.sto_picture.proofs.measure.longest_name.Given as goal

abbrev pub invariant-loop-lane : goal.invariant-loop-lane
invariant-loop-lane l = l.most ≡ longest (lane_names (bytes_of l.parts) (take l.lane-index l.lanes))
