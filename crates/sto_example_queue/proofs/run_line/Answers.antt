use Rattle.std.proofs.Common.{pos, [], refl, ap, ◌∙◌}
use Rattle.sto_model.specs.Objects.{machines_of}
use Rattle.sto_library.specs.Keeping.{Any, IfGave}
use Rattle.sto_library.specs.Kinds.{IsGoodEither}
use Rattle.sto_library.proofs.Keeping.{all_keep, left_keeps, right_keeps, times_keep}
use Rattle.sto_library.proofs.Planned.{planned}
use Rattle.sto_example_queue.specs.Line.{objects, IsServed}
use Rattle.sto_example_queue.proofs.Served.{puts, takes}
use Rattle.sto_example_queue.proofs.run_line.Goals as goal

pub returns : goal.returns
returns g c =
    let s = planned _ c.new-schema.ensures c.in_ok-sent.ensures in
    let r = planned _ s.1 c.in_ok-received.ensures in
    let l = planned _ r.1 c.in_ok-line.ensures in
    let o = c.in_ok-store.ensures in
    let machines = o.machines ∙ ap machines_of l.1 in
    let day = c.in_ok-_told.ensures in
    (all_keep _ objects IsServed (IsGoodEither (λ _. IfGave Any) (λ _. IfGave Any)) machines o.fresh day.same.0 day.done c.in_ok-close.ensures.history
    (record { sent = pos 0; received = pos 0; waiting = []; are = refl; all = refl }) (left_keeps (times_keep objects Any machines (puts (pos 7) (s.0, l.0))), (left_keeps (times_keep objects Any machines (puts (pos 5) (s.0, l.0))), (right_keeps (times_keep objects Any machines (takes (r.0, l.0))), (right_keeps (times_keep objects Any machines (takes (r.0, l.0))), tt))))).0
