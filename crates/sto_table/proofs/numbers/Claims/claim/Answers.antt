use Rattle.std.proofs.Common.{◌≡◌, ◌<◌, ◌+◌, ◌^◌, ℕ, arith}
use Rattle.sto_table.proofs.Below.{claims}
use Rattle.sto_table.proofs.numbers.Claims.claim.Goals as goal

pub fetch_add-found-requires : goal.fetch_add-found-requires
fetch_add-found-requires c =
    let t = c.args.self.now.table.shared in
    let few = c.args.self.now.few in
    let wide = c.args.self.now.wide in (
      c.requires.of,
      (omega arith),
      claims t.key.count t.key.seats t.table_id.slots c.args.claimer.now.seat.id c.args.claimer.now.seat.me c.requires.open
          c.args.claimer.now.live (omega arith),
    )
