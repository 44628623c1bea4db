-- How many workers run a file.
use Rattle.std.specs.Prelude.{ℕ, min, max, Option, None, Some}

-- how many workers run a file with so many script threads: as many as are asked for, else 16, but no more than there are script
-- threads, and at least one
abbrev pub workers_of : Option ℕ → ℕ → ℕ
workers_of None count = max (min 16 count) 1
workers_of (Some threads) count = max (min threads count) 1
