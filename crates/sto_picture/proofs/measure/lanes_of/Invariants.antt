use Rattle.std.proofs.Common.{◌≡◌, ◌≤◌, take, length}
use Rattle.sto_picture.specs.Places.{lanes_of}
use Rattle.sto_picture.proofs.measure.lanes_of.Given as goal

abbrev pub invariant-loop-step : goal.invariant-loop-step
invariant-loop-step l = (l.lanes.items ≡ lanes_of (take l.step-index l.steps)) × (length l.lanes.items ≤ l.step-index)
