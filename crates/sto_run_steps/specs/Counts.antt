-- How much a script thread has left.
use Rattle.std.specs.Prelude.{ℕ, zero, suc, ◌+◌, ◌-◌, ◌*◌, Option, None, Some}

-- how many attempts, where so many transactions are left and so many more attempts of the first of them may be aborted
abbrev pub attempts_left : (tries left transactions : ℕ) → ℕ
attempts_left tries left zero = 0
attempts_left tries left (suc others) = left + tries * others

-- how many events, where an attempt makes so many at most: those of the running attempt, and of all others
abbrev pub events_left : {M : Type 0} → (M → ℕ) → ℕ → ℕ → Option M → ℕ
events_left left most attempts None = attempts * suc most
events_left left most attempts (Some trial) = (attempts - 1) * suc most + left trial
