-- What a call does to the bytes that a source has left and a sink holds, where those are told after it.
use Rattle.std.specs.Prelude.{◌≡◌, ℕ, ◌-◌, ◌^◌, ◌<◌, List, [], ◌++◌, ◌⊎◌, Option, None, Some}

-- these bytes were left, stand no longer there, and the rest is left
abbrev pub Takes : Option (List ℕ) → Option (List ℕ) → List ℕ → Type 0
Takes old None bytes = Unit {0}
Takes None (Some rest) bytes = ⊥
Takes (Some left) (Some rest) bytes = left ≡ bytes ++ rest

-- what was held has gained these bytes at its end
abbrev pub Gains : Option (List ℕ) → Option (List ℕ) → List ℕ → Type 0
Gains old None bytes = Unit {0}
Gains None (Some now) bytes = ⊥
Gains (Some held) (Some now) bytes = now ≡ held ++ bytes

-- where nothing more is left, or it is not told
abbrev pub AtEnd : Option (List ℕ) → Type 0
AtEnd None = Unit {0}
AtEnd (Some rest) = rest ≡ []

-- a count of faults has risen, or stands at the last value
abbrev pub Rose : ℕ → ℕ → Type 0
Rose old new = (old < new) ⊎ ((old ≡ 2 ^ 64 - 1) × (new ≡ 2 ^ 64 - 1))
