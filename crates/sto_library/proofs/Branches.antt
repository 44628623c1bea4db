-- Code run alone that goes on one way or the other, and the numbers of its objects.
use Rattle.std.specs.Prelude.{if◌then◌else◌, IfSome}
use Rattle.std.proofs.Common.{◌≡◌, ℕ, List, Bool, true, false, refl, sym, subst}
use Rattle.sto_model.specs.Objects.{machines_of}
use Rattle.sto_model.specs.Run.{State}
use Rattle.sto_model.specs.declared.shape.Shape.{Shape}
use Rattle.sto_action.specs.Alone.{reason_of}
use Rattle.sto_action.specs.Progs.{Prog, Cancels, chain}
use Rattle.sto_action.specs.declared.handles.BoxId.{BoxId}
use Rattle.sto_action.specs.declared.handles.CounterId.{CounterId}
use Rattle.sto_action.specs.declared.handles.ArrayId.{ArrayId}
use Rattle.sto_action.specs.declared.handles.HashId.{HashId}
use Rattle.sto_action.specs.declared.handles.TreeId.{TreeId}
use Rattle.sto_action.specs.declared.handles.VectorId.{VectorId}
use Rattle.sto_library.proofs.Calls.{Ends}

-- objects by their numbers
abbrev pub box : ℕ → BoxId
box n = record { number = n }

abbrev pub counter : ℕ → CounterId
counter n = record { number = n }

abbrev pub array : ℕ → ArrayId
array n = record { number = n }

abbrev pub hash : ℕ → HashId
hash n = record { number = n }

abbrev pub tree : ℕ → TreeId
tree n = record { number = n }

abbrev pub vector : ℕ → VectorId
vector n = record { number = n }

pub at_one : (P : ℕ → Type 0) {m i : ℕ} → m ≡ i → P i → P m
at_one P e here = subst P (sym e) here

pub at_two : (P : ℕ → ℕ → Type 0) {m n i j : ℕ} → (m ≡ i) × (n ≡ j) → P i j → P m n
at_two P {m} {n} {i} {j} (e, f) here = subst (λ (k : ℕ). P k n) (sym e) (subst (P i) (sym f) here)

pub at_three : (P : ℕ → ℕ → ℕ → Type 0) {l m n i j k : ℕ} → (l ≡ i) × (m ≡ j) × (n ≡ k) → P i j k → P l m n
at_three P {l} {m} {n} {i} {j} {k} (e, f, g) here = subst (λ (o : ℕ). P o m n) (sym e) (at_two (P i) (f, g) here)

-- what follows a call that answers yes or no, where code is given up that is answered no
abbrev pub or_cancel : {E A : Type 0} → E → Prog E A → Bool → Prog E A
or_cancel reason p yes_said = if yes_said then p else Cancels reason

module _ {E A : Type 0} (shapes : List Shape) (Q : A × State → Type 0) where
  -- a state as it is known
  pub on_state : (p : Prog E A) {st now : State} → st ≡ now → Ends shapes Q p now → Ends shapes Q p st
  on_state p same here = subst (Ends shapes Q p) (sym same) here

  -- code that may be given up first
  pub unless : (reason : E) (p : Prog E A) (st : State) (b : Bool) → (b ≡ false → Ends shapes Q p st) → Ends shapes Q (if b then Cancels reason else p) st
  unless reason p st true h = tt
  unless reason p st false h = h refl

  -- the same as the first part of code
  pub unless_then : {B : Type 0} (reason : E) (p : Prog E B) (q : B → Prog E A) (st : State) (b : Bool) → (b ≡ false → Ends shapes Q (chain p q) st) → Ends shapes Q (chain (if b then Cancels reason else p) q) st
  unless_then reason p q st true h = tt
  unless_then reason p q st false h = h refl

  -- code that goes on only where this is so
  pub where_so : (reason : E) (p : Prog E A) (st : State) (b : Bool) → (b ≡ true → Ends shapes Q p st) → Ends shapes Q (if b then p else Cancels reason) st
  where_so reason p st true h = h refl
  where_so reason p st false h = tt

  -- code that goes on one way or the other
  pub either_way : (p q : Prog E A) (st : State) (b : Bool) → (b ≡ true → Ends shapes Q p st) → (b ≡ false → Ends shapes Q q st) → Ends shapes Q (if b then p else q) st
  either_way p q st true h k = h refl
  either_way p q st false h k = k refl

module _ {E A : Type 0} (shapes : List Shape) (Why : E → Type 0) where
  -- run alone on this state, the code gives the transaction up for such a reason, if at all
  abbrev pub IsExcused : Prog E A → State → Type 0
  IsExcused p st = IfSome (reason_of (machines_of shapes) p st) Why

  -- a state as it is known
  pub excused_on : (p : Prog E A) {st now : State} → st ≡ now → IsExcused p now → IsExcused p st
  excused_on p same here = subst (IsExcused p) (sym same) here

  -- code whose first part may be given up first
  pub excused_unless_then : {B : Type 0} (reason : E) (p : Prog E B) (q : B → Prog E A) (st : State) (b : Bool) → (b ≡ true → Why reason) → (b ≡ false → IsExcused (chain p q) st)
      → IsExcused (chain (if b then Cancels reason else p) q) st
  excused_unless_then reason p q st true h k = h refl
  excused_unless_then reason p q st false h k = k refl
