-- A version word is twice a ticket, plus the lock bit.
use Rattle.std.specs.Prelude.{ℕ, ◌+◌, ◌*◌, ◌/◌, ◌%◌, nat_eq, Bool, true, false}

-- 1 for a set bit, 0 for a clear one
abbrev pub weight : Bool → ℕ
weight true = 1
weight false = 0

-- the ticket of a version word
abbrev pub ticket_of : ℕ → ℕ
ticket_of version = version / 2

-- the lock bit is clear
abbrev pub is_free : ℕ → Bool
is_free version = nat_eq (version % 2) 0

-- the version word of a ticket and a lock bit
abbrev pub version_of : ℕ → Bool → ℕ
version_of ticket locked = 2 * ticket + weight locked
