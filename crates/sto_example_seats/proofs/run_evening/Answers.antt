use Rattle.std.proofs.Common.{pos, [], refl, ap, ◌∙◌}
use Rattle.std.proofs.lemmas.List.Elements.{All-nil}
use Rattle.sto_model.specs.Objects.{machines_of}
use Rattle.sto_model.specs.Rows.{Row, rows_below}
use Rattle.sto_library.specs.Keeping.{Any}
use Rattle.sto_library.proofs.Keeping.{all_keep, runs_keep}
use Rattle.sto_library.proofs.Planned.{planned}
use Rattle.sto_example_seats.specs.Evening.{objects, IsGuest, IsPaid}
use Rattle.sto_example_seats.proofs.Paid.{at_first, at_other}
use Rattle.sto_example_seats.proofs.run_evening.Goals as goal

pub returns : goal.returns
returns g c =
    let t = planned _ c.new-schema.ensures c.in_ok-till.ensures in
    let f = planned _ t.1 c.in_ok-first.ensures in
    let o = planned _ f.1 c.in_ok-other.ensures in
    let l = planned _ o.1 c.in_ok-first_line.ensures in
    let k = planned _ l.1 c.in_ok-other_line.ensures in
    let s = c.in_ok-store.ensures in
    let machines = s.machines ∙ ap machines_of k.1 in
    let day = c.in_ok-_told.ensures in
    let none = All-nil (λ (r : Row). IsGuest r.1) in
    (all_keep _ objects IsPaid (λ _ _. Unit {0}) machines s.fresh day.same.0 day.done c.in_ok-close.ensures.history
    (record { money = pos 0; first = rows_below 12 (pos 0); other = rows_below 12 (pos 0); first_line = []; other_line = []; are = refl; first_wait = none; other_wait = none; paid = refl }) (runs_keep objects Any machines (at_first 0 (t.0, f.0, l.0)), (runs_keep objects Any machines (at_first 1 (t.0, f.0, l.0)), (runs_keep objects Any machines (at_first 2 (t.0, f.0, l.0)), (runs_keep objects Any machines (at_first 3 (t.0, f.0, l.0)), (runs_keep objects Any machines (at_first 4 (t.0, f.0, l.0)), (runs_keep objects Any machines (at_first 5 (t.0, f.0, l.0)), (runs_keep objects Any machines (at_other 6 (t.0, o.0, k.0)), (runs_keep objects Any machines (at_other 7 (t.0, o.0, k.0)), (runs_keep objects Any machines (at_other 8 (t.0, o.0, k.0)), (runs_keep objects Any machines (at_other 9 (t.0, o.0, k.0)), (runs_keep objects Any machines (at_other 10 (t.0, o.0, k.0)), (runs_keep objects Any machines (at_other 11 (t.0, o.0, k.0)), tt))))))))))))).0
