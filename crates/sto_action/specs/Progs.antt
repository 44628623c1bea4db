-- What code does, as a tree: it asks a call and goes on with what it hears, gives a value, or gives the transaction up for a reason.
use Rattle.std.specs.Prelude.{◌≡◌, ℕ, zero, suc, Bool, false, if◌then◌else◌, List, [], ◌∷◌, Option, Some, None, Result, Ok, Err, slice_get, IsTrue}
use Rattle.std.specs.Int.{w64}
use Rattle.std.specs.Int.RustNames.{FitsSigned}
use Rattle.sto_model.specs.declared.call.Call.{Call}
use Rattle.sto_model.specs.declared.body.Next.{Next}
use Rattle.sto_model.specs.declared.body.Next.TheVariants.{Ask, Commit, Cancel}
use Rattle.sto_model.specs.declared.shape.Shape.{Shape}
use Rattle.sto_model.specs.Objects.{takes_call}
use Rattle.sto_action.specs.declared.short_reply.ShortReply.{ShortReply}
use Rattle.sto_action.specs.declared.tx.Stop.{Stop}
use Rattle.sto_action.specs.declared.tx.Stop.TheVariants as stops

pub data Prog (E A : Type 0) : Type 0 where
  Asks : Call → (ShortReply → Prog E A) → Prog E A
  Gives : A → Prog E A
  Cancels : E → Prog E A

-- the shape takes the call
abbrev pub is_taken_by : Option Shape → Call → Bool
is_taken_by (Some shape) call = takes_call shape call
is_taken_by None call = false

-- the object of the call takes it, among objects of these shapes
abbrev pub is_taken : List Shape → Call → Bool
is_taken shapes call = is_taken_by (slice_get shapes call.object) call

-- what it does next, once it has heard these, on objects of these shapes, where it may ask so many calls: one that asks more, or a call
-- that its object does not take, gives the transaction up
abbrev pub next_within : {E A : Type 0} → List Shape → ℕ → Prog E A → List ShortReply → Next
next_within shapes n (Gives a) hs = Commit
next_within shapes n (Cancels e) hs = Cancel
next_within shapes zero (Asks call k) hs = Cancel
next_within shapes (suc n) (Asks call k) [] = if is_taken shapes call then Ask call else Cancel
next_within shapes (suc n) (Asks call k) (h ∷ hs) = next_within shapes n (k h) hs

-- over what it heard it gives the value
abbrev pub IsGiven : {E A : Type 0} → Prog E A → List ShortReply → A → Type 0
IsGiven (Asks call k) [] a = ⊥
IsGiven (Asks call k) (h ∷ hs) a = IsGiven (k h) hs a
IsGiven (Gives b) hs a = a ≡ b
IsGiven (Cancels e) hs a = ⊥

-- over what it heard it asks the call
abbrev pub IsAsked : {E A : Type 0} → Prog E A → List ShortReply → Call → Type 0
IsAsked (Asks call k) [] c = c ≡ call
IsAsked (Asks call k) (h ∷ hs) c = IsAsked (k h) hs c
IsAsked (Gives b) hs c = ⊥
IsAsked (Cancels e) hs c = ⊥

-- over what it heard it gives the transaction up, for this reason
abbrev pub IsCancelled : {E A : Type 0} → Prog E A → List ShortReply → E → Type 0
IsCancelled (Asks call k) [] e = ⊥
IsCancelled (Asks call k) (h ∷ hs) e = IsCancelled (k h) hs e
IsCancelled (Gives b) hs e = ⊥
IsCancelled (Cancels r) hs e = e ≡ r

-- what a run over what was heard answers
abbrev pub Runs : {E A : Type 0} → Prog E A → List ShortReply → Result A (Stop E) → Type 0
Runs p hs (Ok a) = IsGiven p hs a
Runs p hs (Err (stops.Asks call)) = IsAsked p hs call
Runs p hs (Err (stops.Cancels e)) = IsCancelled p hs e

-- what a call answers by the first of what is heard, where there is one; else the code stops there
abbrev pub HasAsked : {E R : Type 0} → Call → (ShortReply → R) → (old new : List ShortReply) → Result R (Stop E) → Type 0
HasAsked call answer old new (Ok x) = (h : ShortReply) × (old ≡ h ∷ new) × (x ≡ answer h)
HasAsked call answer old new (Err s) = (old ≡ []) × (s ≡ stops.Asks call)

-- one part of code, and then the part that its value tells
abbrev pub chain : {E A B : Type 0} → Prog E A → (A → Prog E B) → Prog E B
chain (Asks call k) q = Asks call (λ h. chain (k h) q)
chain (Gives a) q = q a
chain (Cancels e) q = Cancels e

-- over what is heard first it gives the value, and the rest is left for what comes after it
abbrev pub Leaves : {E A : Type 0} → Prog E A → (old new : List ShortReply) → A → Type 0
Leaves (Asks call k) [] new a = ⊥
Leaves (Asks call k) (h ∷ hs) new a = Leaves (k h) hs new a
Leaves (Gives b) old new a = (a ≡ b) × (new ≡ old)
Leaves (Cancels e) old new a = ⊥

-- a part of code: it gives the value and leaves the rest, or it stops where the tree stops
abbrev pub Follows : {E A : Type 0} → Prog E A → (old new : List ShortReply) → Result A (Stop E) → Type 0
Follows p old new (Ok a) = Leaves p old new a
Follows p old new (Err s) = Runs p old (Err s)

-- what is done next by what a run answered, where there is room for one more call or not
abbrev pub next_by : {E A : Type 0} → List Shape → Bool → Result A (Stop E) → Next
next_by shapes room (Ok a) = Commit
next_by shapes room (Err (stops.Asks call)) = if room then (if is_taken shapes call then Ask call else Cancel) else Cancel
next_by shapes room (Err (stops.Cancels e)) = Cancel

-- the call has numbers of 64 bits, and its object takes it
pub record IsTakenCall (shapes : List Shape) (call : Call) : Type 0 where
  pub taken : IsTrue (is_taken shapes call)
  pub first : FitsSigned w64 call.a
  pub second : FitsSigned w64 call.b
