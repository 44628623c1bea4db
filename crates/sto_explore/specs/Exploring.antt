-- Legs with which runs begin, and what a visit of one makes of them.
use Rattle.std.specs.Prelude.{◌≡◌, ◌≤◌, ◌⊎◌, ℕ, List, [], ◌∷◌, ◌++◌, length, true, false, not, nat_eq, ◌&&◌, Bool}
use Rattle.std.specs.List.{AllByRecursion, list_any, filter}
use Rattle.sto_explore.specs.Schedules.{Place, may, after, is_within, follows}
use Rattle.sto_explore.specs.Legs.{turns_of, schedule_of, after_all, IsAmong, AreApart, AreTold}
use Rattle.sto_explore.specs.Branches.{Offer, begins, path_of, way_of, GoesOnFrom, Part}
use Rattle.sto_explore.specs.Explored.{Found, IsFound, EachTwo}
use Rattle.sto_explore.specs.declared.leg.Leg.{Leg}

-- whether one of these legs led a thread to its end
abbrev pub ended : List Leg → ℕ → Bool
ended legs thread = list_any (λ leg. leg.over && nat_eq leg.thread thread) legs

-- the threads that go on after these legs, one of them first
abbrev pub order_after : List ℕ → List Leg → ℕ → List ℕ
order_after threads legs next = next ∷ filter (λ thread. not (nat_eq thread next) && not (ended legs thread)) threads

-- a leg with a turn, of one of these threads
abbrev pub IsFit : List ℕ → Leg → Type 0
IsFit threads leg = (1 ≤ leg.turns) × IsAmong threads leg.thread

-- a thread may go on at a place, and leaves so many switches then
abbrev pub GoesOn : Place → ℕ → ℕ → Type 0
GoesOn p left thread = (may p thread ≡ true) × ((after p (record { thread = thread; over = false })).left ≡ left)

-- the first of these threads does, if there is one
abbrev pub FirstGoesOn : Place → ℕ → List ℕ → Type 0
FirstGoesOn p left [] = Unit {0}
FirstGoesOn p left (thread ∷ others) = GoesOn p left thread

-- a schedule goes on with the first of these threads, if there is one
abbrev pub HasFirst : List ℕ → List ℕ → Type 0
HasFirst [] schedule = Unit {0}
HasFirst (thread ∷ others) [] = ⊥
HasFirst (thread ∷ others) (first ∷ schedule) = first ≡ thread

module _ (start : Place) (tells : List ℕ → Bool → Type 0) where
  -- a run within the bound may begin with these legs, and they were told truly
  pub record IsBegun (legs : List Leg) : Type 0 where
    pub within : is_within start (turns_of legs) ≡ true
    pub told : AreTold tells [] (turns_of legs)
    pub fit : AllByRecursion (IsFit start.going) legs

  -- and it may go on so
  pub record IsOffer (o : Offer) : Type 0 where
    pub begun : IsBegun o.legs
    pub goes_on : GoesOn (after_all start (turns_of o.legs)) o.left o.next

  -- and these are all threads that can go on, one of them first
  pub record IsOrdered (legs : List Leg) (left : ℕ) (order : List ℕ) : Type 0 where
    pub begun : IsBegun legs
    pub all : (thread : ℕ) → IsAmong (after_all start (turns_of legs)).going thread → IsAmong order thread
    pub can : (thread : ℕ) → IsAmong order thread → IsAmong (after_all start (turns_of legs)).going thread
    pub apart : AreApart order
    pub first : FirstGoesOn (after_all start (turns_of legs)) left order

  -- One more run was found, and offers were added, which part from it and from one another: a schedule that goes on with the first thread
  -- is followed by the run, or one of the offers can be taken up by it.
  pub record HasVisited {P : Type 0} (reports : List ℕ → P → Type 0) (holds held : List (Found P) → Type 0)
      (legs : List Leg) (order : List ℕ) (was now : List Offer) : Type 0 where
    pub x : Found P
    pub found : IsFound start tells reports x
    pub holds_then : (xs : List (Found P)) → holds xs → held (xs ++ x ∷ [])
    pub offers : List Offer
    pub added : now ≡ was ++ offers
    pub each : AllByRecursion IsOffer offers
    pub part : AllByRecursion (λ o. Part start (turns_of x.legs) (way_of o)) offers
    pub offers_part : EachTwo (λ a b. Part start (way_of a) (way_of b)) offers
    pub onward : GoesOnFrom (turns_of legs) order (turns_of x.legs)
    pub offers_onward : AllByRecursion (λ o. GoesOnFrom (turns_of legs) order (way_of o)) offers
    pub reaches : (schedule : List ℕ) → HasFirst order schedule
        → (follows start (turns_of x.legs) (schedule_of legs ++ schedule) ≡ true)
        ⊎ (list_any (λ o. begins (path_of o) (schedule_of legs ++ schedule)) offers ≡ true)

  -- What an exploration knows between two runs: so many were found, of which one follows each schedule by which no offer can be taken up;
  -- they and the offers part from one another.
  pub record IsUnderWay {P : Type 0} (reports : List ℕ → P → Type 0) (held : List (Found P) → Type 0)
      (made : ℕ) (todo : List Offer) : Type 0 where
    pub xs : List (Found P)
    pub holds : held xs
    pub many : length xs ≡ made
    pub each : AllByRecursion (IsFound start tells reports) xs
    pub offers : AllByRecursion IsOffer todo
    pub runs_part : EachTwo (λ x y. Part start (turns_of x.legs) (turns_of y.legs)) xs
    pub offers_part : EachTwo (λ a b. Part start (way_of a) (way_of b)) todo
    pub part : AllByRecursion (λ x. AllByRecursion (λ o. Part start (turns_of x.legs) (way_of o)) todo) xs
    pub complete : (schedule : List ℕ)
        → (list_any (λ x. follows start (turns_of x.legs) schedule) xs ≡ true) ⊎ (list_any (λ o. begins (path_of o) schedule) todo ≡ true)
