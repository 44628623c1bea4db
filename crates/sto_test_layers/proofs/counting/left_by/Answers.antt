use Rattle.std.proofs.Common.{sym, subst}
use Rattle.sto_test_layers.specs.Counter.{always, IsCounter}
use Rattle.sto_test_layers.proofs.Ended.{one_left}
use Rattle.sto_test_layers.proofs.counting.left_by.Goals as goal

pub word-requires : goal.word-requires
word-requires c =
    (one_left always c.args.shared.table.shared.key.passes c.args.rest.seat.me.0.view c.in_ok-closed.closed
    c.in_ok-closed.ensures (subst IsCounter (sym c.requires.of.1) c.requires.counter)).1
