-- Legs of runs, and the turns that they stand for.
use Rattle.std.specs.Prelude.{◌≡◌, ◌≤◌, ℕ, zero, suc, List, [], ◌∷◌, ◌++◌, map, Bool, true, false, nat_eq}
use Rattle.std.specs.List.{flat_map, list_any}
use Rattle.sto_explore.specs.Schedules.{Turn, Place, after}
use Rattle.sto_explore.specs.declared.leg.Leg.{Leg}

-- so many turns of a thread, which is over after the last of them or not
abbrev pub turns_with : ℕ → Bool → ℕ → List Turn
turns_with thread over zero = []
turns_with thread over (suc zero) = record { thread = thread; over = over } ∷ []
turns_with thread over (suc (suc more)) = record { thread = thread; over = false } ∷ turns_with thread over (suc more)

-- those of legs, one after the other
abbrev pub turns_of : List Leg → List Turn
turns_of legs = flat_map (λ leg. turns_with leg.thread leg.over leg.turns) legs

-- whose turns they are
abbrev pub threads_of : List Turn → List ℕ
threads_of turns = map (λ turn. turn.thread) turns

-- the schedule by which legs are made
abbrev pub schedule_of : List Leg → List ℕ
schedule_of legs = threads_of (turns_of legs)

-- the place after turns
abbrev pub after_all : Place → List Turn → Place
after_all p [] = p
after_all p (turn ∷ turns) = after_all (after p turn) turns

-- a thread is one of these
abbrev pub IsAmong : List ℕ → ℕ → Type 0
IsAmong threads thread = list_any (nat_eq thread) threads ≡ true

-- no thread comes twice
abbrev pub AreApart : List ℕ → Type 0
AreApart [] = Unit {0}
AreApart (thread ∷ threads) = (list_any (nat_eq thread) threads ≡ false) × AreApart threads

-- legs of these threads, one each and in this order, which lead them to their ends
abbrev pub LeadToEnds : List ℕ → List Leg → Type 0
LeadToEnds [] [] = Unit {0}
LeadToEnds [] (leg ∷ legs) = ⊥
LeadToEnds (thread ∷ threads) [] = ⊥
LeadToEnds (thread ∷ threads) (leg ∷ legs) = (leg.thread ≡ thread) × (leg.over ≡ true) × (1 ≤ leg.turns) × LeadToEnds threads legs

-- after these turns each further one was told truly: tells says of the threads that had turns so far, in a run, whether the last is over
abbrev pub AreTold : (List ℕ → Bool → Type 0) → List ℕ → List Turn → Type 0
AreTold tells before [] = Unit {0}
AreTold tells before (turn ∷ turns) = tells (before ++ turn.thread ∷ []) turn.over × AreTold tells (before ++ turn.thread ∷ []) turns
