-- The events of a run, parted into legs.
use Rattle.std.specs.Prelude.{ℕ, List, [], ◌∷◌, ◌++◌, drop, min, max, true, nat_eq, replicate}
use Rattle.std.specs.List.{flat_map, prefix_len}
use Rattle.sto_trace.specs.declared.Step.{Step}
use Rattle.sto_explore.specs.Legs.{schedule_of}
use Rattle.sto_explore.specs.declared.leg.Leg.{Leg}

-- the turns of some legs, and then so many of each further thread
abbrev pub turns_to_ends : List Leg → ℕ → List ℕ → List ℕ
turns_to_ends decided most order = schedule_of decided ++ flat_map (replicate most) order

-- how many of the first events are of a thread, but no more than so many
abbrev pub front_of : ℕ → ℕ → List Step → ℕ
front_of thread most steps = min most (prefix_len (λ step. nat_eq step.thread thread) steps)

-- the events past those of legs
abbrev pub past : List Leg → List Step → List Step
past [] steps = steps
past (leg ∷ legs) steps = past legs (drop (front_of leg.thread leg.turns steps) steps)

-- the legs that lead threads to their ends, one after the other: a turn for each event, but at least one
abbrev pub ends_of : ℕ → List ℕ → List Step → List Leg
ends_of most [] steps = []
ends_of most (thread ∷ order) steps =
    record { thread = thread; turns = max 1 (front_of thread most steps); over = true } ∷ ends_of most order (drop (front_of thread most steps) steps)
