use Rattle.std.proofs.Common.{◌≡◌, length}
use Rattle.sto_gen.specs.Draws.{state_after, transfers_after}
use Rattle.sto_gen.proofs.draws.transfers.Given as goal

abbrev pub invariant-loop : goal.invariant-loop
invariant-loop l = (l.transfers.items ≡ transfers_after l.counter l.number)
    × (l.draws.state ≡ state_after l.counter l.number) × (length l.transfers.items ≡ l.counter)
