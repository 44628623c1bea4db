-- The numbers that claimers found: each below the word once, and few that are no number of a script.
use Rattle.std.specs.Prelude.{◌≡◌, ◌+◌, ◌-◌, ◌<◌, ◌≤◌, ℕ, zero, suc, nat_eq, nat_le, List, [], ◌∷◌, ◌++◌, length, slice_index_or, Bool, true, false}
use mathlib.Core.Option.{some}
use lib.ListN.{get_elem?}
use Rattle.atomic_table.specs.Table.{State, Me}
use Rattle.sto_core.specs.Lists.{Each, weight}
use Rattle.sto_table.specs.declared.taken.Taken.{Taken}

abbrev pub taken : List ℕ → ℕ → Taken
taken numbers seats = record { numbers = numbers; seats = seats }

-- how often x is one of the numbers
abbrev pub times : ℕ → List ℕ → ℕ
times x [] = 0
times x (y ∷ ys) = weight (nat_eq x y) + times x ys

-- how often x is a number below n
abbrev pub once_below : ℕ → ℕ → ℕ
once_below x zero = 0
once_below x (suc n) = weight (nat_eq x n) + once_below x n

-- how many of the numbers are at least the count
abbrev pub past : ℕ → List ℕ → ℕ
past count [] = 0
past count (y ∷ ys) = weight (nat_le count y) + past count ys

-- the sum over all views
abbrev pub total : (Taken → ℕ) → List Taken → ℕ
total f [] = 0
total f (v ∷ vs) = f v + total f vs

-- the rule of the word, for so many numbers to be given and so many seats
pub record Shared (count seats : ℕ) (s : State (Unit {0}) Taken) : Type 0 where
  pub wide : length s.words ≡ 1
  pub once : (x : ℕ) → total (λ v. times x v.numbers) s.views ≡ once_below x (slice_index_or s.words 0 0)
  pub all : total (λ v. v.seats) s.views ≡ seats
  pub few : Each (λ (v : Taken). past count v.numbers ≤ v.seats) s.views
  -- what is left of a claimer that was joined to another has no numbers
  pub gone : Each (λ (v : Taken). v.seats ≡ 0 → v.numbers ≡ []) s.views
  pub most : slice_index_or s.words 0 0 ≤ count + total (λ v. past count v.numbers) s.views
  pub within : Each (λ (v : Taken). Each (λ (x : ℕ). x < slice_index_or s.words 0 0) v.numbers) s.views

abbrev pub first : ℕ → Taken
first seats = taken [] seats

-- one claim found the number n, which is above all that the claimer found
pub record HasClaimed (v : Taken) (n : ℕ) (w : Taken) : Type 0 where
  pub view : w ≡ taken (v.numbers ++ n ∷ []) v.seats
  pub above : Each (λ (x : ℕ). x < n) v.numbers

abbrev pub ClaimsPlay : Me (Unit {0}) Taken → ℕ → Me (Unit {0}) Taken → Type 0
ClaimsPlay m n w = HasClaimed m.0 n w.0 × (w.1 ≡ m.1)

-- one seat is cut off
abbrev pub left_after : Taken → Taken
left_after v = taken v.numbers (v.seats - 1)

abbrev pub new_after : Taken → Taken
new_after v = taken [] 1

abbrev pub both : Taken → Taken → Taken
both v w = taken (v.numbers ++ w.numbers) (v.seats + w.seats)

abbrev pub spent : Taken
spent = taken [] 0

-- a look tells that the claimer found no number twice
abbrev pub LooksPlay : Me (Unit {0}) Taken → ℕ → Me (Unit {0}) Taken → Type 0
LooksPlay m n w = (w ≡ m) × ((x : ℕ) → times x m.0.numbers ≤ 1)
