use Rattle.std.proofs.Common.{◌≡◌, ◌<◌, ◌+◌, ℕ, arith}
use Rattle.sto_core.proofs.Phases.{idle_is}
use Rattle.sto_table.proofs.Joins.{joins}
use Rattle.sto_table.proofs.shared.Shared.gather.Goals as goal

pub join_seat-requires : goal.join_seat-requires
join_seat-requires g c =
    let s = c.args.self.now in
    let k = s.table.shared.key in
    let v = c.args.first.seat.me.0 in
    let w = c.args.other.seat.me.0 in
    let wide = s.wide in (
      c.requires.first.0,
      c.requires.other.0,
      c.args.other.bare,
      (omega arith),
      joins g.T.Naming.valid (g.T.Naming.sizes k.ty.value) k.opening.value.items k.passes c.args.first.seat.id
          c.args.other.seat.id v w (idle_is v.view.phase c.args.first.idle) (idle_is w.view.phase c.args.other.idle)
          c.args.first.live,
    )
