-- What the status of a call of a program tells: its cause, what the call did, and what it left as it was.
use Rattle.std.specs.Prelude.{◌≡◌, ◌≢◌, ℕ, ◌≤◌, List, ◌⊎◌, Option, None}
use Rattle.sto_console.specs.Told.{Rose}
use Rattle.sto_console.specs.declared.refusal.InputFault.{InputFault}
use Rattle.sto_console.specs.Programs.{Program}
use Rattle.sto_console.specs.Outcomes.{IsDone, IsFaulty, IsStopped, IsFaultless, IsOwn, IsToldFault}

-- the status is that of an answer
abbrev pub HasAnswered : {A : Type 0} → (A → ℕ) → ℕ → Type 0
HasAnswered {A = A} answered status = (answer : A) × (status ≡ answered answer)

-- the status, beside what the source had left and the sink holds, and their counts of faults, each before the call and after it. All of
-- it follows from the one outcome that has the status (`Ends`), and from which count rose (`RoseFor`)
pub record HasCauses {C A : Type 0} (p : Program C A) (answered : A → ℕ) (status : ℕ) (command : Option C)
    (left rest held now : Option (List ℕ)) (read read_now wrote wrote_now : ℕ) : Type 0 where
  -- it is the status of an answer, or one of 2 to 6
  pub among : HasAnswered answered status ⊎ ((2 ≤ status) × (status ≤ 6))
  -- with the status of an answer that answer was given: what the command reads was read whole, and the whole of one text was written
  pub done : HasAnswered answered status → (answer : A) × (status ≡ answered answer) × IsDone p answer command left rest held now
  -- where the words are a command, the bytes that it reads have no fault, and no count rose, there is an answer, or memory was wanting
  pub complete : IsFaultless p command left rest → (Rose read read_now → ⊥) → (Rose wrote wrote_now → ⊥) → HasAnswered answered status ⊎ (status ≡ 6)
  -- 2 comes only where the words are no command; there, no other comes but 6
  pub usage : status ≡ 2 → command ≡ None
  pub usage_only : command ≡ None → (status ≡ 2) ⊎ (status ≡ 6)
  -- 3 comes only where the bytes have a fault; where they are told and have one of their own, no other comes but 4 and 6
  pub faulty : status ≡ 3 → IsFaulty p command left rest
  pub refused : (fault : InputFault) → IsOwn fault → IsToldFault p fault command left rest → (status ≡ 3) ⊎ (status ≡ 4) ⊎ (status ≡ 6)
  -- 4 comes only where the count of the source rose; with every other status that is as it was
  pub read_fault : status ≡ 4 → Rose read read_now
  pub no_read_fault : status ≢ 4 → read_now ≡ read
  -- 5 comes only where the count of the sink rose, and a front of one text was written; with every other status that is as it was
  pub write_fault : status ≡ 5 → Rose wrote wrote_now
  pub no_write_fault : status ≢ 5 → wrote_now ≡ wrote
  pub stopped : status ≡ 5 → IsStopped p command left rest held now
  -- with neither an answer nor 5 the sink holds what it held
  pub unchanged : (HasAnswered answered status → ⊥) → status ≢ 5 → now ≡ held
