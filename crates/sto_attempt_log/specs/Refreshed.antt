-- What is known after the updates of a call.
use Rattle.std.specs.Prelude.{◌≡◌, ◌⊎◌, ℕ, ℤ, nat_eq, if◌then◌else◌, None, List, [], ◌∷◌}
use Rattle.sto_part.specs.Listed.{Listed}
use Rattle.sto_part.specs.Changes.{applied_all}
use Rattle.sto_item.specs.Pending.{Entry, changes_of}
use Rattle.sto_item.specs.Recorded.{Recorded}
use Rattle.sto_type.specs.Known.{Known, known, learnt}
use Rattle.sto_type.specs.Meaning.{Meaning}
use Rattle.sto_attempt_log.specs.declared.read_entry.ReadEntry.{ReadEntry}
use Rattle.sto_attempt_log.specs.ReadSet.{words_in}
use Rattle.sto_attempt_log.specs.Log.{IsRecalled}

-- what is known of the parts that updates do not name
abbrev pub outside : List Entry → Known → Known
outside [] k p = k p
outside (e ∷ es) k p = if nat_eq e.0 p then None else outside es k p

-- the part is known as it is recalled, and all others as before
abbrev pub IsLearnt : Meaning → Known → List Entry → ℕ → Known → Known → Type 0
IsLearnt m base es p old new = (ws : List ℤ) × IsRecalled m base es p ws × (new ≡ learnt old p ws)

-- the part is known anew as it is recalled, and all others as before; or nothing is known any more
abbrev pub IsLearntAnew : Meaning → Known → List Entry → ℕ → Known → Known → Type 0
IsLearntAnew m base es p old new = IsLearnt m base es p old new ⊎ ((q : ℕ) → new q ≡ None)

-- the same of the parts read, the set of an attempt and what its cache knows
module _ (m : Meaning) (base : Listed ReadEntry) (set : Recorded) (p : ℕ) (old new : List (ℕ × List ℤ)) where
  abbrev pub Learns : Type 0
  Learns = IsLearnt m (words_in base.items) set.updates p (known old) (known new)

  abbrev pub LearnsAnew : Type 0
  LearnsAnew = IsLearntAnew m (words_in base.items) set.updates p (known old) (known new)

-- the part is known as these words with the pending updates applied, and all others as before
abbrev pub LearnsUpdated : Recorded → ℕ → List ℤ → List (ℕ × List ℤ) → List (ℕ × List ℤ) → Type 0
LearnsUpdated set p words old new = known new ≡ learnt (known old) p (applied_all (changes_of set.updates p) words)
