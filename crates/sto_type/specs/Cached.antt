-- How a cache holds what it knows: parts in slots, of which the first ones count.
use Rattle.std.specs.Prelude.{ℕ, ℤ, suc, nat_eq, if◌then◌else◌, Option, Some, None, List, [], ◌∷◌, map, take}
use Rattle.sto_part.specs.Listed.{Listed}

-- a part and its words as plain data
abbrev pub plain_part : ℕ × Listed ℤ → ℕ × List ℤ
plain_part k = (k.0, k.1.items)

-- the parts of the first so many slots
abbrev pub parts_in : ℕ → List (ℕ × Listed ℤ) → List (ℕ × List ℤ)
parts_in used slots = take used (map plain_part slots)

-- the place of the first of a part, where they are counted from k on
abbrev pub place_in : ℕ → List (ℕ × List ℤ) → ℕ → Option ℕ
place_in k [] p = None
place_in k (s ∷ ss) p = if nat_eq s.0 p then Some k else place_in (suc k) ss p
