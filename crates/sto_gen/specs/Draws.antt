-- The draws that a number begins, and the transfers that they make.
use Rattle.std.specs.Prelude.{ℕ, zero, suc, ◌+◌, ◌*◌, ◌/◌, ◌%◌, ◌^◌, List, [], ◌∷◌, ◌++◌}
use Rattle.sto_gen.specs.declared.draws.Transfer.{Transfer}

-- the state after one more draw
abbrev pub next : ℕ → ℕ
next state = (state * 6364136223846793005 + 1442695040888963407) % 2 ^ 64

-- the draw that led to a state
abbrev pub draw : ℕ → ℕ
draw state = state / 2 ^ 33

-- the transfer of the three draws after a state
abbrev pub transfer_by : ℕ → ℕ → ℕ → Transfer
transfer_by first second third = record {
  from = draw first % 64;
  to = (draw first % 64 + 1 + draw second % 63) % 64;
  amount = 1 + draw third % 100;
}

abbrev pub transfer_after : ℕ → Transfer
transfer_after state = transfer_by (next state) (next (next state)) (next (next (next state)))

-- the state after so many transfers
unfoldable pub state_after : ℕ → ℕ → ℕ
state_after zero state = state
state_after (suc transfers) state = next (next (next (state_after transfers state)))

-- the first transfers after a state, so many
unfoldable pub transfers_after : ℕ → ℕ → List Transfer
transfers_after zero state = []
transfers_after (suc count) state = transfers_after count state ++ transfer_after (state_after count state) ∷ []
