use Rattle.std.proofs.Common.{rules, sym, ap}
use Rattle.atomic_table.specs.declared.shared.Seat.{Seat}
use Rattle.sto_core.specs.declared.view.View.{View}
use Rattle.sto_table.specs.declared.stance.Stance.{Stance}
use Rattle.sto_library.proofs.task.work_alone.Goals as goal

pub returns : goal.returns
returns g c =
    let view : Seat (Unit {0}) Stance → View = λ s. s.me.0.view in (
      search rules,
      record {
        before = c.new-busy.result;
        after = c.work-out.new.worker;
        same_words = c.new-busy.ensures.0;
        same_shapes = c.new-busy.ensures.1;
        from = ap view c.new-busy.ensures.2;
        to = sym (ap view c.rest.ensures.seat.0);
        gave = c.work-out.ensures.gives;
      },
    )
