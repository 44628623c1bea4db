use Rattle.std.proofs.Common.{◌≡◌, ◌<◌, ◌+◌, ℕ, List, ap, arith}
use Rattle.sto_table.specs.Taken.{past}
use Rattle.sto_table.proofs.Below.{splits}
use Rattle.sto_table.proofs.numbers.Claims.cut.Goals as goal

pub split_seat-requires : goal.split_seat-requires
split_seat-requires c =
    let t = c.args.self.now.table.shared in
    let wide = c.args.self.now.wide in (
      c.requires.of,
      (omega arith),
      splits t.key.count t.key.seats c.args.seat.now.id c.args.seat.now.me.0 c.requires.several.0
          (ap (past t.key.count) c.requires.several.1),
    )
