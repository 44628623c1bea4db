use Rattle.std.proofs.Common.{pos, [], refl, ap, ◌∙◌}
use Rattle.sto_model.specs.Objects.{machines_of}
use Rattle.sto_library.specs.Keeping.{Any}
use Rattle.sto_library.proofs.Keeping.{all_keep, runs_keep}
use Rattle.sto_library.proofs.Planned.{planned}
use Rattle.sto_example_calendar.specs.Bookings.{objects, IsBooked}
use Rattle.sto_example_calendar.proofs.Booked.{books}
use Rattle.sto_example_calendar.proofs.run_calendar.Goals as goal

pub returns : goal.returns
returns g c =
    let r = planned _ c.new-schema.ensures c.in_ok-room.ensures in
    let o = c.in_ok-store.ensures in
    let machines = o.machines ∙ ap machines_of r.1 in
    let day = c.in_ok-_told.ensures in
    (all_keep _ objects IsBooked (λ _ _. Unit {0}) machines o.fresh day.same.0 day.done c.in_ok-close.ensures.history (record { rows = []; are = refl; apart = tt }) (runs_keep objects Any machines (books (pos 1) r.0), (runs_keep objects Any machines (books (pos 2) r.0), (runs_keep objects Any machines (books (pos 3) r.0), (runs_keep objects Any machines (books (pos 4) r.0), tt))))).0
