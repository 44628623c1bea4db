use Rattle.std.proofs.Common.{◌≡◌, ◌+◌, ◌*◌, ◌≤◌, length}
use Rattle.sto_picture.specs.Elements.{each}
use Rattle.sto_picture.specs.Places.{left_of}
use Rattle.sto_picture.proofs.measure.lefts_of.Given as goal

abbrev pub invariant-loop-step : goal.invariant-loop-step
invariant-loop-step l =
    (l.lefts.items ≡ each (left_of l.first l.event l.room l.steps) l.step-index)
    × (l.left ≡ left_of l.first l.event l.room l.steps l.step-index)
    × (length l.lefts.items ≡ l.step-index)
    × (l.left ≤ 400 + 414 * l.step-index)
