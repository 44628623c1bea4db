-- What the calls of a machine and of a transaction ask and tell, over what the traits of the type, of the body and of the pass say.
use Rattle.std.specs.Prelude.{◌≡◌, ℕ, Bool, Option, List, Result, OnOk, OnErr}
use Rattle.sto_part.specs.declared.NoMemory.{NoMemory}
use Rattle.sto_model.specs.Run.{Behaviour}
use Rattle.sto_model.specs.Bodies.{OfBody}
use Rattle.sto_type.specs.Traits.{OfType}
use Rattle.sto_core.specs.declared.cells.Cells as cells
use Rattle.sto_core.specs.declared.view.View.{View}
use Rattle.sto_attempt_log.specs.Answers.{OneEvent}
use Rattle.sto_attempt_log.specs.declared.verdict.Verdict.{Verdict}
use Rattle.sto_attempt_log.specs.declared.verdict.Turn.{Turn}
use Rattle.sto_history.specs.Records.{Record}
use Rattle.sto_transaction.specs.declared.machine.Machine.{Machine}
use Rattle.sto_transaction.specs.declared.machine.FinishedAttempt.{FinishedAttempt}
use Rattle.sto_transaction.specs.declared.transaction.Transaction.{Transaction}
use Rattle.sto_transaction.specs.Machines.{Proceeds, IsAtSeal, IsAtEnd, HasTurned, HasAdvanced, HasStepped, HasFinished, HasEnded, HasStopped, HasSpent, machine_left, left_after, calls_of}
use Rattle.sto_transaction.specs.Ran.{HasRun, HasBroken}

-- t and b are what the traits of the type and of the body say
module _ {T B : Type 0} (t : OfType T) (b : OfBody B) where
  -- an attempt on a type, of a body with the script f, has led from the view `begun` to the view v, and has further events
  abbrev pub IsLedTo : ℕ → T → Behaviour → Machine T B → View → View → Type 0
  IsLedTo passes ty f machine begun v = Proceeds t.meaning t.valid t.sizes b.script b.then b.left b.may_ask passes ty f machine begun v

  -- its body is ready to commit with an update
  abbrev pub IsReadyAt : T → Behaviour → Machine T B → View → View → Type 0
  IsReadyAt ty f machine begun v = IsAtSeal t.meaning t.valid t.sizes b.script b.then b.left b.may_ask ty f machine begun v

  -- it has ended so, and what is left of it was not yet taken
  abbrev pub IsEndedAt : ℕ → T → Behaviour → Machine T B → Verdict → View → View → Type 0
  IsEndedAt passes ty f machine verdict begun w = IsAtEnd t.meaning t.valid t.sizes b.script b.then b.left b.may_ask passes ty f machine verdict begun w

  -- what is left of it is that of such an attempt
  abbrev pub IsEndOf : ℕ → T → Behaviour → FinishedAttempt B → View → View → Type 0
  IsEndOf passes ty f ended begun w = HasEnded t.meaning t.valid t.sizes b.script b.then b.left b.may_ask passes ty f ended begun w

  -- how many events it has left at most, and how many after an answer
  abbrev pub left_of : Machine T B → ℕ
  left_of machine = machine_left t.meaning t.valid t.sizes b.script b.then b.left b.may_ask machine

  abbrev pub left_past : Option (FinishedAttempt B) → Machine T B → ℕ
  left_past end machine = left_after t.meaning t.valid t.sizes b.script b.then b.left b.may_ask end machine

  -- how many calls its body may ask from the beginning, and that they stay as many
  abbrev pub calls_at : Machine T B → ℕ
  calls_at machine = calls_of b.left_at_reset machine

  abbrev pub KeepsCalls : Machine T B → Machine T B → Type 0
  KeepsCalls old new = calls_at new ≡ calls_at old

  -- some attempt is ready, and each that is ready at a view is led to its commit
  abbrev pub MaySeal : Machine T B → Type 0
  MaySeal machine = (ty : T) × (f : Behaviour) × (begun : View) × (v : View) × IsReadyAt ty f machine begun v

  abbrev pub Seals : Machine T B → Machine T B → Type 0
  Seals old new = (passes : ℕ) (ty : T) (f : Behaviour) (begun v : View) → IsReadyAt ty f old begun v → IsLedTo passes ty f new begun v

  -- some attempt has ended with the verdict, and what is left is that of each that has
  abbrev pub MayEnd : Machine T B → Verdict → Type 0
  MayEnd machine verdict = (passes : ℕ) × (ty : T) × (f : Behaviour) × (begun : View) × (w : View) × IsEndedAt passes ty f machine verdict begun w

  abbrev pub Ends : Machine T B → Verdict → FinishedAttempt B → Type 0
  Ends machine verdict ended = (passes : ℕ) (ty : T) (f : Behaviour) (begun w : View) → IsEndedAt passes ty f machine verdict begun w → IsEndOf passes ty f ended begun w

  -- c is what the trait of the pass says
  module _ {C : Type 0} (c : cells.Ghosts C T) where
    -- exactly one event was made
    abbrev pub MakesOne : C → C → Type 0
    MakesOne here there = OneEvent (λ _. Unit {0}) t.valid (c.passes here) (c.view here) (c.view there)

    -- some attempt has led to the view of the pass, and has further events
    abbrev pub MayGoOn : Machine T B → C → Type 0
    MayGoOn machine here = (ty : T) × (f : Behaviour) × (begun : View) × IsLedTo (c.passes here) ty f machine begun (c.view here)

    -- each attempt that has led there is led on: by a turn, with the seal after it, with what is left at the end, and to its end
    abbrev pub Turns : Machine T B → Machine T B → C → C → Result Turn NoMemory → Type 0
    Turns old new here there result =
        (ty : T) (f : Behaviour) (begun : View) → IsLedTo (c.passes here) ty f old begun (c.view here)
        → HasTurned t.meaning t.valid t.sizes b.script b.then b.left b.may_ask (c.passes here) ty f result new begun (c.view there)

    abbrev pub Advances : Machine T B → Machine T B → C → C → Result (Option Verdict) NoMemory → Type 0
    Advances old new here there result =
        (ty : T) (f : Behaviour) (begun : View) → IsLedTo (c.passes here) ty f old begun (c.view here)
        → HasAdvanced t.meaning t.valid t.sizes b.script b.then b.left b.may_ask (c.passes here) ty f result new begun (c.view there)

    abbrev pub Steps : Machine T B → Machine T B → C → C → Result (Option (FinishedAttempt B)) NoMemory → Type 0
    Steps old new here there result =
        (ty : T) (f : Behaviour) (begun : View) → IsLedTo (c.passes here) ty f old begun (c.view here)
        → HasStepped t.meaning t.valid t.sizes b.script b.then b.left b.may_ask (c.passes here) ty f result new begun (c.view there)

    abbrev pub Finishes : Machine T B → C → C → Result (FinishedAttempt B) NoMemory → Type 0
    Finishes old here there result =
        (ty : T) (f : Behaviour) (begun : View) → IsLedTo (c.passes here) ty f old begun (c.view here)
        → HasFinished t.meaning t.valid t.sizes b.script b.then b.left b.may_ask (c.passes here) ty f result begun (c.view there)

    -- each is led on, with no end in between; where memory is wanting it has stopped
    abbrev pub GoesOn : Machine T B → Machine T B → C → C → Result ℕ NoMemory → Type 0
    GoesOn old new here there result =
        (ty : T) (f : Behaviour) (begun : View) → IsLedTo (c.passes here) ty f old begun (c.view here) → OnOk result (IsLedTo (c.passes here) ty f new begun (c.view there))

    abbrev pub Stops : Machine T B → C → C → Result ℕ NoMemory → Type 0
    Stops old here there result =
        (ty : T) (f : Behaviour) (begun : View) → IsLedTo (c.passes here) ty f old begun (c.view here) → OnErr result (HasStopped (t.meaning ty) (t.sizes ty) begun (c.view there))

    -- its pass made at most as many steps as there are fewer events left
    abbrev pub Spends : Machine T B → Machine T B → C → C → Type 0
    Spends old new here there = HasSpent t.meaning t.valid t.sizes b.script b.then b.left b.may_ask b.left_at_reset old new (c.view here) (c.view there)

    -- a transaction has run, and for want of memory it has broken off, with these records before and these later
    abbrev pub RunsThrough : Transaction T B → C → C → List Record → List Record → Bool → Type 0
    RunsThrough x here there before later ended =
        HasRun (t.meaning x.ty.now) (t.sizes x.ty.now) x.tries (c.passes here) (c.view here) (c.view there) (b.script x.body) (x.thread, x.position) before later ended

    abbrev pub Breaks : Transaction T B → C → C → List Record → List Record → Type 0
    Breaks x here there before later =
        HasBroken (t.meaning x.ty.now) (t.sizes x.ty.now) x.tries (c.view here) (c.view there) (b.script x.body) (x.thread, x.position) before later
