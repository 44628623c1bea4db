-- What one attempt of code leads to that is run over a transaction whose calls come one by one.
use Rattle.std.specs.Prelude.{◌≡◌, ◌≤◌, ◌+◌, ◌^◌, ℕ, Bool, false, List, [], map, Option, Some, None, Result, Ok, Err, IfOk}
use Rattle.sto_part.specs.declared.NoMemory.{NoMemory}
use Rattle.sto_model.specs.declared.call.Call.{Call}
use Rattle.sto_model.specs.declared.shape.Shape.{Shape}
use Rattle.sto_model.specs.PlainReplies.{PlainReply}
use Rattle.sto_type.specs.Meaning.{Meaning}
use Rattle.sto_type.specs.Traits.{OfType}
use Rattle.sto_core.specs.declared.cells.Cells as cells
use Rattle.sto_core.specs.declared.view.View.{View}
use Rattle.sto_history.specs.Added.{Grows}
use Rattle.sto_history.specs.Records.{is_abort}
use Rattle.sto_transaction.specs.Plain.{verdict}
use Rattle.sto_transaction.specs.Resting.{IsAtRest}
use Rattle.sto_interactive.specs.Lives.{IsLive}
use Rattle.sto_interactive.specs.declared.live.Live.{Live}
use Rattle.sto_interactive.specs.declared.live.StepError.{StepError}
use Rattle.sto_interactive.specs.declared.live.StepError.TheVariants as stops
use Rattle.sto_action.specs.Shortened.{short_of}
use Rattle.sto_action.specs.Progs.{Prog, IsTakenCall, is_taken, IsGiven, IsCancelled, IsAsked}
use Rattle.sto_action.specs.declared.short_reply.ShortReply.{ShortReply}
use Rattle.sto_action.specs.declared.cause.AbortCause.{AbortCause}
use Rattle.sto_action.specs.declared.outcome.Attempted.{Attempted}
use Rattle.sto_action.specs.declared.outcome.Attempted.TheVariants.{Said, Aborted}
use Rattle.sto_action.specs.Causes.{IsCauseOf, NamesPart}
use Rattle.sto_action.specs.Atomic.{IsAtomic, HaveAbortedBy, TakesNoEffect, HasSaid}
use Rattle.sto_once.specs.declared.code.Halt.{Halt}
use Rattle.sto_once.specs.declared.code.Halt.TheVariants as halts
use Rattle.sto_once.specs.Once.{Heard, Gave, GaveUp, Wants}
use Rattle.sto_once.specs.Agreeing.{paired, AllTaken}
use Rattle.sto_once.specs.Over.{OverKey, StandsBy}

-- it met an abort
abbrev pub is_aborted : StepError → Bool
is_aborted (stops.Aborted x) = is_abort (verdict x)
is_aborted _ = false

-- by this cause
abbrev pub IsStopCause : Meaning → StepError → AbortCause → Type 0
IsStopCause m (stops.Aborted x) cause = IsCauseOf m (verdict x) cause
IsStopCause m _ cause = ⊥

-- the part that it names, if it names one, is one of the type
abbrev pub StopNamesPart : Meaning → StepError → Type 0
StopNamesPart m (stops.Aborted x) = NamesPart m (verdict x)
StopNamesPart m _ = Unit {0}

abbrev pub key_of : {T C : Type 0} → T → View → C → List Shape → OverKey T C
key_of ty begun start shapes = record { ty = ty; begun = begun; start = start; shapes = shapes }

-- a transaction that has asked nothing, on a type that takes what objects of these shapes take
abbrev pub MayRun : {T C : Type 0} → OfType T → OverKey T C → Live T → View → Type 0
MayRun t k l v = IsLive t k.ty [] [] l k.begun v × ((call : Call) → IsTakenCall k.shapes call → (t.meaning k.ty).takes call)

-- it waits, and its calls, so answered, are such
abbrev pub WaitsSo : {T C : Type 0} → OfType T → OverKey T C → (List Heard → Type 0) → Live T → View → Type 0
WaitsSo t k P l v = (calls : List Call) × (rs : List PlainReply) × IsLive t k.ty calls rs l k.begun v × AllTaken k.shapes calls × P (paired calls (map short_of rs))

module _ {T C : Type 0} (t : OfType T) (c : cells.Ghosts C T) where
  -- how it stands after code that does p
  abbrev pub After : {E A : Type 0} → OverKey T C → Prog E A → Option StepError → Result A (Halt E) → Live T → View → Type 0
  After k p (Some stop) said l v = StandsBy t c k (Some stop) l v
  After k p None (Ok a) l v = WaitsSo t k (λ hs. Gave p hs a) l v
  After k p None (Err halts.Over) l v = ⊥
  After k p None (Err (halts.Untaken call)) l v = WaitsSo t k (λ hs. Wants p hs call) l v × (is_taken k.shapes call ≡ false)
  After k p None (Err (halts.Cancels e)) l v = WaitsSo t k (λ hs. GaveUp p hs e) l v

-- the code, run alone, hears these replies and then says this, however many calls it may ask from 2^32 on
abbrev pub IsAtomicOnce : {E A : Type 0} → Meaning → (v w : View) → List Shape → Prog E A → (List ShortReply → Type 0) → Type 0
IsAtomicOnce m v w shapes p says = (most : ℕ) → 2 ^ 32 ≤ most → IsAtomic m v w shapes most p says

abbrev pub Says : {E A : Type 0} → Meaning → (v w : View) → List Shape → Prog E A → Result (Attempted (Result A (Halt E))) NoMemory → Type 0
Says m v w shapes p (Ok (Said (Ok a))) = IsAtomicOnce m v w shapes p (λ hs. IsGiven p hs a)
Says m v w shapes p (Ok (Said (Err (halts.Cancels e)))) = IsAtomicOnce m v w shapes p (λ hs. IsCancelled p hs e)
Says m v w shapes p (Ok (Said (Err (halts.Untaken call)))) = IsAtomicOnce m v w shapes p (λ hs. IsAsked p hs call)
Says m v w shapes p (Ok (Said (Err halts.Over))) = ⊥
Says m v w shapes p (Ok (Aborted cause)) = HaveAbortedBy m v w 1 cause
Says m v w shapes p (Err error) = TakesNoEffect v w

-- what one attempt led to, from the view v to the view w
pub record HasTriedOnce {E A : Type 0} (m : Meaning) (sizes : List ℕ) (passes : ℕ) (v w : View) (shapes : List Shape) (p : Prog E A) (result : Result (Attempted (Result A (Halt E))) NoMemory) : Type 0 where
  pub rests : IsAtRest m sizes w
  pub draws : v.draws ≤ w.draws + 1
  pub grows : Grows v w
  pub says : Says m v w shapes p result
  pub alone : passes ≡ 1 → IfOk result HasSaid
