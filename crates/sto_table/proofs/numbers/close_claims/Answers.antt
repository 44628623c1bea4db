use Rattle.std.proofs.Common.{◌≡◌}
use Rattle.std.specs.Slots.{slots_items}
use Rattle.sto_table.proofs.Below.{closes_with}
use Rattle.sto_table.proofs.numbers.close_claims.Goals as goal

pub returns : goal.returns
returns c x =
    let k = c.args.claims.table.shared.key in
    let f = c.close_with-words.ensures.values.2 in
    closes_with k.count k.seats c.args.claimer.seat.id c.args.claimer.seat.me.0 f.0 f.1.0 f.1.1 c.requires.all
    (slots_items c.close_with-words.result.words) f.2 c.word-found.result c.word-found.ensures x
