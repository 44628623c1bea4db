-- Where parts stand among those that were read.
use Rattle.std.specs.Prelude.{ℕ, suc, nat_eq, if◌then◌else◌, Option, Some, None, List, [], ◌∷◌}
use Rattle.std.specs.Option.{option_or}
use Rattle.sto_attempt_log.specs.declared.read_entry.ReadEntry.{ReadEntry}

-- the place of the first of a part, where they are counted from k on
abbrev pub place_in : ℕ → List ReadEntry → ℕ → Option ℕ
place_in k [] p = None
place_in k (s ∷ ss) p = if nat_eq s.part p then Some k else place_in (suc k) ss p

-- the same with one more part at a place; the first counts
abbrev pub placed : (ℕ → Option ℕ) → ℕ → ℕ → ℕ → Option ℕ
placed known part place p = option_or (known p) (if nat_eq part p then Some place else None)
