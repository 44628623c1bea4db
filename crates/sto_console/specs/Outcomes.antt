-- What is known of a call that ended in one way, and which calls end so.
use Rattle.std.specs.Prelude.{ℕ, List, Bool, true, false, Option, None, Some}
use Rattle.sto_console.specs.Programs.{Program}
use Rattle.sto_console.specs.Ends.{Done, Stopped, Faulty}
use Rattle.sto_console.specs.declared.refusal.InputFault.{InputFault}
use Rattle.sto_console.specs.declared.refusal.InputFault.TheVariants.{Script, NoReport, LongTrace, LongRun, ManySchedules, ManyStates, Schedule, Question}

-- the words are a command, which is answered so, and its text is written
abbrev pub IsDone : {C A : Type 0} → Program C A → A → Option C → Option (List ℕ) → Option (List ℕ) → Option (List ℕ) → Option (List ℕ) → Type 0
IsDone p answer None left rest held now = ⊥
IsDone p answer (Some command) left rest held now = Done p command answer left rest held now

-- the words are a command, and the bytes have a fault
abbrev pub IsFaulty : {C A : Type 0} → Program C A → Option C → Option (List ℕ) → Option (List ℕ) → Type 0
IsFaulty p None left rest = ⊥
IsFaulty p (Some command) left rest = (fault : InputFault) × Faulty p command fault left rest

-- the words are a command, and the writing stopped after a front of its text
abbrev pub IsStopped : {C A : Type 0} → Program C A → Option C → Option (List ℕ) → Option (List ℕ) → Option (List ℕ) → Option (List ℕ) → Type 0
IsStopped p None left rest held now = ⊥
IsStopped p (Some command) left rest held now = Stopped p command left rest held now

-- the words are a command, the bytes are told to the end of the call, and this is so of them
abbrev pub IsTold : {C : Type 0} → Option C → Option (List ℕ) → Option (List ℕ) → (C → List ℕ → Type 0) → Type 0
IsTold None left rest P = ⊥
IsTold (Some command) None rest P = ⊥
IsTold (Some command) (Some bytes) None P = ⊥
IsTold (Some command) (Some bytes) (Some rest) P = P command bytes

-- a fault of bytes whatever runs of them do. That a run of them was too long, or that so many schedules were counted, says nothing of others
abbrev pub IsOwn : InputFault → Type 0
IsOwn (Script fault) = Unit {0}
IsOwn NoReport = Unit {0}
IsOwn LongTrace = Unit {0}
IsOwn LongRun = ⊥
IsOwn (ManySchedules counts) = ⊥
IsOwn (ManyStates count) = ⊥
IsOwn (Schedule kind) = Unit {0}
IsOwn (Question fault) = Unit {0}

-- they have this fault
abbrev pub IsToldFault : {C A : Type 0} → Program C A → InputFault → Option C → Option (List ℕ) → Option (List ℕ) → Type 0
IsToldFault p fault command left rest = IsTold command left rest (λ c bytes. p.HasFault c bytes fault)

-- they have none
abbrev pub IsToldWell : {C A : Type 0} → Program C A → Option C → Option (List ℕ) → Option (List ℕ) → Type 0
IsToldWell p command left rest = IsTold command left rest (λ c bytes. (fault : InputFault) → p.HasFault c bytes fault → ⊥)

-- where a command reads, this is so of it
abbrev pub IfReads : Bool → Type 0 → Type 0
IfReads true P = P
IfReads false P = Unit {0}

-- the words are a command, and the bytes that it reads, if it reads any, are told to the end of the call and have no fault
abbrev pub IsFaultless : {C A : Type 0} → Program C A → Option C → Option (List ℕ) → Option (List ℕ) → Type 0
IsFaultless p None left rest = ⊥
IsFaultless p (Some command) left rest = IfReads (p.reads command) (IsToldWell p (Some command) left rest)
