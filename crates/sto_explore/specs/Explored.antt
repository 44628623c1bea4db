-- What is explored: runs by schedules.
use Rattle.std.specs.Prelude.{◌≡◌, ℕ, List, [], ◌∷◌, length, max, None, Bool, true, false}
use Rattle.std.specs.List.{AllByRecursion, list_any}
use Rattle.sto_explore.specs.Schedules.{Place, may, is_within, follows}
use Rattle.sto_explore.specs.Legs.{turns_of, schedule_of, after_all, AreTold}
use Rattle.sto_explore.specs.declared.leg.Leg.{Leg}

-- a run: its legs, and what it led to
pub record Found (P : Type 0) : Type 0 where
  pub legs : List Leg
  pub report : P

-- before the first turn all of these threads can go on, and so many switches may be made
abbrev pub start_of : ℕ → List ℕ → Place
start_of switches threads = record { left = switches; last = None; going = threads }

-- so it is of each two
abbrev pub EachTwo : {X : Type 0} → (X → X → Type 0) → List X → Type 0
EachTwo R [] = Unit {0}
EachTwo R (x ∷ xs) = AllByRecursion (R x) xs × EachTwo R xs

-- neither of two runs follows the schedule of the other
abbrev pub Differ : {P : Type 0} → Place → Found P → Found P → Type 0
Differ start x y =
    (follows start (turns_of x.legs) (schedule_of y.legs) ≡ false) × (follows start (turns_of y.legs) (schedule_of x.legs) ≡ false)

-- tells: whether, in a run with these turns, the thread of the last is over; reports: what a run with these turns leads to
module _ {P : Type 0} (start : Place) (tells : List ℕ → Bool → Type 0) (reports : List ℕ → P → Type 0) where
  -- a run to the ends of all threads, whose turns are within the bound, that tells truly which threads are over when, and what it led to
  pub record IsFound (x : Found P) : Type 0 where
    pub within : is_within start (turns_of x.legs) ≡ true
    pub ends : (thread : ℕ) → may (after_all start (turns_of x.legs)) thread ≡ false
    pub told : AreTold tells [] (turns_of x.legs)
    pub reported : reports (schedule_of x.legs) x.report

  -- such runs, of which one follows each schedule, and none that of another
  pub record AreExplored (xs : List (Found P)) : Type 0 where
    pub each : AllByRecursion IsFound xs
    pub distinct : EachTwo (Differ start) xs
    pub complete : (schedule : List ℕ) → list_any (λ x. follows start (turns_of x.legs) schedule) xs ≡ true

  -- as many such runs as may be made, but at least one, none by the schedule of another, and a schedule that none of them follows
  pub record AreTooMany (limit : ℕ) (xs : List (Found P)) : Type 0 where
    pub each : AllByRecursion IsFound xs
    pub distinct : EachTwo (Differ start) xs
    pub many : length xs ≡ max 1 limit
    pub left_out : (schedule : List ℕ) × (list_any (λ x. follows start (turns_of x.legs) schedule) xs ≡ false)
