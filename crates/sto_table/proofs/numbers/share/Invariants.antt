use Rattle.std.proofs.Common.{◌≡◌, ◌≤◌, ◌+◌, [], All, length}
use Rattle.sto_table.specs.Taken.{taken}
use Rattle.sto_table.proofs.numbers.share.Given as goal

abbrev pub invariant-loop-number : goal.invariant-loop-number
invariant-loop-number l =
    (l.seat.table_id ≡ l.claims.table.shared.table_id)
    × (l.seat.me ≡ (taken [] l.number, []))
    × All (λ c. (c.seat.table_id ≡ l.claims.table.shared.table_id) × (c.seat.me.0 ≡ taken [] 1)) l.claimers.items
    × (length l.claimers.items + l.number ≡ l.seats)
    × (1 ≤ l.number)
