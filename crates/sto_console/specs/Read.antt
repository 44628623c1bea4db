-- What is known of the bytes that a call read.
use Rattle.std.specs.Prelude.{ℕ, List, Option, None, Some}

-- this is so of the bytes that were left, where they are told before and after; and else of some bytes
abbrev pub IfTold : Option (List ℕ) → Option (List ℕ) → (List ℕ → Type 0) → Type 0
IfTold (Some bytes) (Some rest) P = P bytes
IfTold (Some bytes) None P = (given : List ℕ) × P given
IfTold None new P = (given : List ℕ) × P given
