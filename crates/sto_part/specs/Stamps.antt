-- Stamps: places that count in one generation only.
use Rattle.std.specs.Prelude.{ℕ, ◌≤◌, nat_eq, if◌then◌else◌, Option, Some, None, List, map}
use Rattle.sto_part.specs.declared.index.Stamp.{Stamp}
use Rattle.sto_part.specs.Index.{Places}

-- the place that a stamp tells in a generation
abbrev pub place_of : ℕ → Stamp → Option ℕ
place_of generation s = if nat_eq s.generation generation then Some s.place else None

-- the place that the stamp of a far part tells, beside its number
abbrev pub far_place : ℕ → ℕ × Stamp → ℕ × Option ℕ
far_place generation e = (e.0, place_of generation e.1)

-- no later generation than this
abbrev pub IsUpTo : ℕ → Stamp → Type 0
IsUpTo generation s = s.generation ≤ generation

-- the stamp of no generation
abbrev pub fresh : Stamp
fresh = record { generation = 0; place = 0 }

-- the places that stamps tell in a generation
abbrev pub places_by : ℕ → List Stamp → List (ℕ × Stamp) → Places
places_by generation near far = (map (place_of generation) near, map (far_place generation) far)
