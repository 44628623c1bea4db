-- Places of parts.
use Rattle.std.specs.Prelude.{ℕ, nat_eq, nat_lt, if◌then◌else◌, Option, None, List, IsSome, unwrap_or, slice_get}
use Rattle.std.specs.Map.{lookup}

-- parts below this number are found by their numbers, and all others by their hashes
abbrev pub near_end : ℕ
near_end = 65536

-- for near parts, by their numbers, and for far ones, beside their numbers: the place, if there is one
abbrev pub Places : Type 0
Places = List (Option ℕ) × List (ℕ × Option ℕ)

-- nothing where there is no room for the place of a part, else the place, if there is one
abbrev pub room_at : Places → ℕ → Option (Option ℕ)
room_at places part = if nat_lt part near_end then slice_get places.0 part else lookup (nat_eq part) places.1

-- the place of a part, if there is one
abbrev pub place_at : Places → ℕ → Option ℕ
place_at places part = unwrap_or (room_at places part) None

-- there is room for the place of this part
abbrev pub HasRoom : Places → ℕ → Type 0
HasRoom places part = IsSome (room_at places part)
