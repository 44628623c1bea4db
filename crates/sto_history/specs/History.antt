-- The serial history of a store: the states of its objects, one after each number, and what each transaction did there.
--
-- The machines are the objects as the plain model sees them. A number is a ticket: it is given out once, and to writers alone; the state
-- after the number 0 is the opening.
use Rattle.std.specs.Prelude.{◌≡◌, ◌<◌, ◌≤◌, ℕ, suc, ◌+◌, List, [], ◌∷◌}
use Rattle.std.specs.List.{All}
use Rattle.sto_model.specs.PlainReplies.{PlainReply}
use Rattle.sto_model.specs.SequentialObjects.{SequentialObject, opening_of}
use Rattle.sto_model.specs.Run.{Behaviour, State}
use Rattle.sto_model.specs.Serial.{IsSerialRun}
use Rattle.sto_model.specs.declared.run.End.{End}
use Rattle.sto_model.specs.declared.run.End.TheVariants as E
use Rattle.sto_history.specs.Records.{Verdict, Wrote, Read, Cancelled, Locked, Changed, wrote_with}

-- a transaction that was told: what it does next after each list of replies, what its calls were answered, and how it ended
pub record Transaction : Type 0 where
  pub steps : Behaviour
  pub replies : List PlainReply
  pub verdict : Verdict

-- how many of these wrote with the number
abbrev pub times_numbered : ℕ → List Transaction → ℕ
times_numbered n [] = 0
times_numbered n (t ∷ ts) = wrote_with n t.verdict + times_numbered n ts

module _ (ms : List SequentialObject) (clock : ℕ) (states : ℕ → State) (steps : Behaviour) (replies : List PlainReply) where
  -- it is the step to the state after its number: its serial run leads there, from the state right before
  pub record IsStep (n : ℕ) : Type 0 where
    pub before : ℕ
    pub next : n ≡ suc before
    pub within : n ≤ clock
    pub run : IsSerialRun ms steps (states before) replies E.Commit (states n)

  -- it looked at the state after a number, where its serial run has this end, and left that state as it was
  pub record IsLook (end : End) (n : ℕ) : Type 0 where
    pub within : n ≤ clock
    pub run : IsSerialRun ms steps (states n) replies end (states n)

  -- it did so by how it ended; one that was aborted does not stand in a history
  abbrev pub StandsIn : Verdict → Type 0
  StandsIn (Wrote n) = IsStep n
  StandsIn (Read n) = IsLook E.Commit n
  StandsIn (Cancelled n) = IsLook E.Cancel n
  StandsIn (Locked n part) = ⊥
  StandsIn (Changed n part ticket) = ⊥

-- the states up to the clock are a serial history of these transactions: it begins with the opening; no number is that of two; a number
-- that is that of none changes nothing; and each transaction stands in it
pub record IsSerialHistory (ms : List SequentialObject) (clock : ℕ) (states : ℕ → State) (ts : List Transaction) : Type 0 where
  pub opened : states 0 ≡ opening_of ms
  pub once : (n : ℕ) → times_numbered n ts ≤ 1
  pub still : (n : ℕ) → n < clock → times_numbered (suc n) ts ≡ 0 → states (suc n) ≡ states n
  pub each : All (λ t. StandsIn ms clock states t.steps t.replies t.verdict) ts

-- a serial history of these transactions ends with this state
pub record LeadTo (ms : List SequentialObject) (ts : List Transaction) (last : State) : Type 0 where
  pub clock : ℕ
  pub states : ℕ → State
  pub history : IsSerialHistory ms clock states ts
  pub ends : last ≡ states clock
