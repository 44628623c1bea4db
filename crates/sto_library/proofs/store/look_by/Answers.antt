use Rattle.std.proofs.Common.{◌^◌, sym, ap}
use Rattle.atomic_table.specs.declared.shared.Seat.{Seat}
use Rattle.sto_type.specs.Traits.{of_type}
use Rattle.sto_core.specs.declared.view.View.{View}
use Rattle.sto_table.specs.declared.stance.Stance.{Stance}
use Rattle.sto_library.proofs.Doings.{led_cause}
use Rattle.sto_library.proofs.store.look_by.Goals as goal

pub returns-clause-done : goal.returns-clause-done
returns-clause-done g c =
    let view : Seat (Unit {0}) Stance → View = λ s. s.me.0.view in
    record {
      before = c.new-busy.result;
      after = c.run-told.new.self;
      same_words = c.new-busy.ensures.0;
      same_shapes = c.new-busy.ensures.1;
      from = ap view c.new-busy.ensures.2;
      to = sym (ap view c.rest.ensures.seat.0);
      gave = (c.run-told.ensures.given, led_cause (of_type g.T.Naming g.T.TxType) c.new-busy.result c.run-told.new.self (2 ^ 16) (g.K.Action.most c.args.code.now) (g.K.Action.does c.args.code.now) c.run-told.result c.run-told.ensures.led);
    }
