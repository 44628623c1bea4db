-- Runs that are still to be made, as the code has them.
use Rattle.std.specs.Prelude.{◌≡◌, ◌⊎◌, ◌-◌, ◌&&◌, ℕ, zero, suc, List, [], ◌∷◌, ◌++◌, map, drop, Bool, true, false, nat_eq}
use Rattle.sto_explore.specs.Schedules.{Turn, Place, may, after}
use Rattle.sto_explore.specs.Legs.{turns_of, schedule_of}
use Rattle.sto_explore.specs.declared.leg.Leg.{Leg}
use Rattle.sto_explore.specs.declared.branch.Branch.{Branch}

-- the first legs of a run, the thread that goes on after them, and how many more switches may be made then
pub record Offer : Type 0 where
  pub legs : List Leg
  pub next : ℕ
  pub left : ℕ

abbrev pub offer_of : Branch → Offer
offer_of branch = record { legs = branch.decided.items; next = branch.next; left = branch.left }

-- an offer to each of these threads
abbrev pub offers_to : List Leg → ℕ → List ℕ → List Offer
offers_to legs left threads = map (λ next. record { legs = legs; next = next; left = left }) threads

-- a leg that ends before its thread does
abbrev pub part_of : ℕ → ℕ → Leg
part_of thread turns = record { thread = thread; turns = turns; over = false }

-- offers to these threads after each of so many turns of another
abbrev pub offers_within : List Leg → ℕ → List ℕ → (thread turns : ℕ) → List Offer
offers_within legs left others thread zero = []
offers_within legs left others thread (suc turns) = offers_within legs left others thread turns ++ offers_to (legs ++ part_of thread (suc turns) ∷ []) left others

-- those within a leg, where a switch is left
abbrev pub switches_in : List Leg → ℕ → List ℕ → Leg → List Offer
switches_in legs zero others leg = []
switches_in legs (suc left) others leg = offers_within legs left others leg.thread (leg.turns - 1)

-- those at all places after the first turn of further legs, which are of the threads of an order
abbrev pub offered : List Leg → ℕ → List ℕ → List Leg → List Offer
offered legs left [] further = []
offered legs left (thread ∷ others) [] = []
offered legs left (thread ∷ others) (leg ∷ further) =
    switches_in legs left others leg ++ (offers_to (legs ++ leg ∷ []) left (drop 1 others) ++ offered (legs ++ leg ∷ []) left others further)

-- whether a schedule begins so
abbrev pub begins : List ℕ → List ℕ → Bool
begins [] schedule = true
begins (thread ∷ threads) [] = false
begins (thread ∷ threads) (other ∷ schedule) = nat_eq thread other && begins threads schedule

-- the schedules of the runs with which an offer can be taken up begin so
abbrev pub path_of : Offer → List ℕ
path_of o = schedule_of o.legs ++ o.next ∷ []

-- the turns with which they begin; whether the thread is over after the last is not known yet
abbrev pub way_of : Offer → List Turn
way_of o = turns_of o.legs ++ record { thread = o.next; over = false } ∷ []

-- turns that go on after some others with a turn of the first of these threads, if there is one
abbrev pub GoesOnFrom : List Turn → List ℕ → List Turn → Type 0
GoesOnFrom before [] turns = (more : List Turn) × (turns ≡ before ++ more)
GoesOnFrom before (thread ∷ others) turns =
    (over : Bool) × (more : List Turn) × (turns ≡ before ++ record { thread = thread; over = over } ∷ more)

-- turns that part from others: after the same ones come those of two threads, each of which may go on
abbrev pub Part : Place → List Turn → List Turn → Type 0
Part p [] others = ⊥
Part p (turn ∷ turns) [] = ⊥
Part p (turn ∷ turns) (other ∷ others) =
    ((turn ≡ other) × Part (after p turn) turns others)
    ⊎ ((nat_eq turn.thread other.thread ≡ false) × (may p turn.thread ≡ true) × (may p other.thread ≡ true))
