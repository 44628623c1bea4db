-- Code that is run once an attempt: what its calls were answered is its history, to which each call adds itself and its reply.
use Rattle.std.specs.Prelude.{◌≡◌, List, [], ◌∷◌, ◌++◌, Result, Ok, Err}
use Rattle.sto_model.specs.declared.call.Call.{Call}
use Rattle.sto_action.specs.Progs.{Prog, Asks, Gives, Cancels}
use Rattle.sto_action.specs.declared.short_reply.ShortReply.{ShortReply}
use Rattle.sto_once.specs.declared.code.Halt.{Halt}
use Rattle.sto_once.specs.declared.code.Halt.TheVariants as halts

-- a call with what it was answered
abbrev pub Heard : Type 0
Heard = Call × ShortReply

-- what answers calls: what it has answered; where it stands, by what stays the same through all its calls; whether it answers no more;
-- and which calls it does not take
pub record Answering (X : Type 0) : Type 1 where
  pub heard : X → List Heard
  pub Key : Type 0
  pub stands : Key → X → Type 0
  pub over : X → Type 0
  pub refuses : X → Call → Type 0

-- these calls, so answered, are those that the tree asks: then it gives the value
abbrev pub Gave : {E A : Type 0} → Prog E A → List Heard → A → Type 0
Gave (Asks call k) [] a = ⊥
Gave (Asks call k) (h ∷ hs) a = (h.0 ≡ call) × Gave (k h.1) hs a
Gave (Gives b) hs a = (a ≡ b) × (hs ≡ [])
Gave (Cancels e) hs a = ⊥

-- the same: then it gives the transaction up, for this reason
abbrev pub GaveUp : {E A : Type 0} → Prog E A → List Heard → E → Type 0
GaveUp (Asks call k) [] e = ⊥
GaveUp (Asks call k) (h ∷ hs) e = (h.0 ≡ call) × GaveUp (k h.1) hs e
GaveUp (Gives b) hs e = ⊥
GaveUp (Cancels r) hs e = (e ≡ r) × (hs ≡ [])

-- the same: then it asks the call
abbrev pub Wants : {E A : Type 0} → Prog E A → List Heard → Call → Type 0
Wants (Asks call k) [] c = c ≡ call
Wants (Asks call k) (h ∷ hs) c = (h.0 ≡ call) × Wants (k h.1) hs c
Wants (Gives b) hs c = ⊥
Wants (Cancels e) hs c = ⊥

module _ {X : Type 0} (x : Answering X) where
  -- it may be asked
  abbrev pub Ready : X → Type 0
  Ready new = (k : x.Key) × x.stands k new

  -- where it stood so, it stands so now
  abbrev pub Leads : (old new : X) → Type 0
  Leads old new = (k : x.Key) → x.stands k old → x.stands k new

  -- so much was heard in between
  abbrev pub Hears : (old new : X) → (List Heard → Type 0) → Type 0
  Hears old new P = (hs : List Heard) × (x.heard new ≡ x.heard old ++ hs) × P hs

  -- a call was answered, and is the last that was heard; or it was not
  abbrev pub Adds : {E : Type 0} → Call → (old new : X) → Result ShortReply (Halt E) → Type 0
  Adds call old new (Ok h) = Leads old new × (x.heard new ≡ x.heard old ++ (call, h) ∷ [])
  Adds call old new (Err halts.Over) = Leads old new × x.over new
  Adds call old new (Err (halts.Untaken c)) = Leads old new × (x.heard new ≡ x.heard old) × (c ≡ call) × x.refuses new c
  Adds call old new (Err (halts.Cancels e)) = ⊥

  -- what a part of code adds to the history, and does by that
  abbrev pub Goes : {E A : Type 0} → Prog E A → (old new : X) → Result A (Halt E) → Type 0
  Goes p old new (Ok a) = Leads old new × Hears old new (λ hs. Gave p hs a)
  Goes p old new (Err halts.Over) = Leads old new × x.over new
  Goes p old new (Err (halts.Untaken c)) = Leads old new × Hears old new (λ hs. Wants p hs c) × x.refuses new c
  Goes p old new (Err (halts.Cancels e)) = Leads old new × Hears old new (λ hs. GaveUp p hs e)
