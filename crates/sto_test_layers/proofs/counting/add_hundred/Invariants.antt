use Rattle.std.proofs.Common.{◌≡◌, ◌≤◌, ◌+◌}
use Rattle.sto_table.specs.Fits.{IsSame}
use Rattle.sto_test_layers.specs.Counter.{Rests}
use Rattle.sto_test_layers.proofs.counting.add_hundred.Given as goal

abbrev pub invariant-loop : goal.invariant-loop
invariant-loop l =
    IsSame l.initial.pass.shared.now.table.shared.key.passes l.initial.pass.seat l.pass.shared.now.table.shared.key.passes l.pass.seat
    × Rests 0 l.pass.seat.me.0.view
    × (6400 ≤ l.pass.seat.me.0.view.draws + l.counter)
