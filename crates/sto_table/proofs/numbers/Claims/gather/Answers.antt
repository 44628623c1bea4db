use Rattle.std.proofs.Common.{◌≡◌, ◌<◌, ◌≤◌, ◌+◌, ℕ, List, ap, ◌∙◌, sym, subst, arith, rules}
use Rattle.sto_table.specs.Taken.{times, both}
use Rattle.sto_table.proofs.Below.{joins, looks, times-append}
use Rattle.sto_table.proofs.numbers.Claims.gather.Goals as goal

pub join_seat-requires : goal.join_seat-requires
join_seat-requires c =
    let t = c.args.self.now.table.shared in
    let wide = c.args.self.now.wide in (
      c.requires.of.0,
      c.requires.of.1,
      c.args.other.bare,
      (omega arith),
      joins t.key.count t.key.seats c.args.first.seat.id c.args.other.seat.id c.args.first.seat.me.0 c.args.other.seat.me.0,
    )

pub load-requires : goal.load-requires
load-requires c =
    let t = c.args.self.now.table.shared in
    let wide = c.args.self.now.wide in (
      (search rules),
      (omega arith),
      looks t.key.count t.key.seats t.table_id.slots c.join_seat.new.seat.id c.join_seat.new.seat.me,
    )

pub returns-clause-apart : goal.returns-clause-apart
returns-clause-apart c x =
    let told = c.load.ensures.2.1 x in
    let is : c.join_seat.new.seat.me.0.numbers ≡ (both c.args.first.seat.me.0 c.args.other.seat.me.0).numbers =
    ap (λ m. m.0.numbers) c.join_seat.ensures.2 in
    let a = times-append x c.args.first.seat.me.0.numbers c.args.other.seat.me.0.numbers in
    let t = ap (times x) is in
    omega arith
