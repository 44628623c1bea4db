-- Stages and seats as the code has them: what a step asks and tells, over what the traits of the work and of the pass say.
use Rattle.std.specs.Prelude.{◌≤◌, ◌<◌, ℕ, List, length, Option}
use Rattle.sto_part.specs.Listed.{Listed}
use Rattle.sto_part.specs.declared.naming.Naming as naming
use Rattle.sto_model.specs.PlainReplies.{PlainReply}
use Rattle.sto_core.specs.declared.cells.Cells as cells
use Rattle.sto_core.specs.declared.view.View.{View}
use Rattle.sto_trace.specs.declared.Step.{Step}
use Rattle.sto_run_threads.specs.Orders.{TransactionPlace}
use Rattle.sto_run_threads.specs.Plans.{Plan}
use Rattle.sto_run_steps.specs.Seated.{AreSeated, HaveFewer, IsSeated, IsIn, WithinAt, events_of, events_with}
use Rattle.sto_run_steps.specs.Turning.{HasTurn, TakeTurns, round_turns}
use Rattle.sto_run_steps.specs.Logged.{kept, HasLogged, IsStep}
use Rattle.sto_run_steps.specs.declared.seat.Seat.{Seat}
use Rattle.sto_run_steps.specs.declared.stage.Stage.{Stage}

-- what the trait of the work says, whole, as `W.Attempts` has it in a clause
abbrev pub OfAttempts : Type 0 → Type 0 → Type 1
OfAttempts W M = record {
  plan : W → Plan;
  ready : W → Type 0;
  fits : W → ℕ → TransactionPlace → M → View → View → Type 0;
  left : W → M → ℕ;
  most : W → ℕ;
  heard : W → M → List PlainReply;
}

-- n and a are what the traits of the type and of the work say
module _ {T M W : Type 0} where
  -- the threads are at their seats
  abbrev pub AreOn : {n : naming.Ghosts T} → OfAttempts W M → W → Stage T M n → Type 0
  AreOn a w s = AreSeated (a.plan w) (a.fits w) s.pass.cells.plain s.seats.items

  -- all threads together have fewer events left
  abbrev pub HasFewer : {n : naming.Ghosts T} → OfAttempts W M → W → Stage T M n → Stage T M n → Type 0
  HasFewer a w s later = HaveFewer (a.left w) (a.most w) s.seats.items later.seats.items

  -- these threads had turns, one after the other; and all had, in some rounds
  abbrev pub GoesOn : (n : naming.Ghosts T) → OfAttempts W M → W → List ℕ → Stage T M n → Stage T M n → Type 0
  GoesOn n a w threads s later =
      TakeTurns (a.plan w) (a.fits w) n.valid (a.heard w) threads s.pass.cells.plain s.seats.items (kept s.log) later.pass.cells.plain later.seats.items (kept later.log)

  abbrev pub GoesRound : (n : naming.Ghosts T) → OfAttempts W M → W → Stage T M n → Stage T M n → Type 0
  GoesRound n a w s later = (rounds : ℕ) × GoesOn n a w (round_turns (length s.seats.items) rounds) s later

  -- a thread sits where its pass stands
  abbrev pub SitsAt : {C : Type 0} → OfAttempts W M → cells.Ghosts C T → W → C → ℕ → Seat M → Type 0
  SitsAt a c w here thread s = IsSeated (a.plan w) (a.fits w) (c.passes here) thread (c.view here) s

module _ {M W : Type 0} where
  -- it has fewer events left, and no more
  abbrev pub HasLess : OfAttempts W M → W → Seat M → Seat M → Type 0
  HasLess a w s later = events_of (a.left w) (a.most w) later < events_of (a.left w) (a.most w) s

  abbrev pub HasNoMore : OfAttempts W M → W → Seat M → Seat M → Type 0
  HasNoMore a w s later = events_with (a.left w) (a.most w) s later.trial ≤ events_of (a.left w) (a.most w) s

  -- wherever it sat, an attempt of its next transaction runs
  abbrev pub HasBegun : OfAttempts W M → W → ℕ → Seat M → Seat M → Type 0
  HasBegun a w thread s later =
      (passes : ℕ) (v : View) → IsSeated (a.plan w) (a.fits w) passes thread v s → IsIn (WithinAt (a.plan w) (a.fits w) passes thread s) later.trial v

-- a thread had a turn
abbrev pub TakesTurn : {T M W : Type 0} → (n : naming.Ghosts T) → OfAttempts W M → W → ℕ → Stage T M n → Stage T M n → Type 0
TakesTurn n a w thread s later =
    HasTurn n.valid (a.heard w) thread s.pass.cells.plain s.seats.items (kept s.log) later.pass.cells.plain later.seats.items (kept later.log)

-- a thread made an event on its pass, and where steps are kept, it is the next one
abbrev pub LogsStep : {T M W C : Type 0} → naming.Ghosts T → OfAttempts W M → cells.Ghosts C T → W → ℕ → C → Seat M → Option (Listed Step) → C → Seat M → Option (Listed Step) → Type 0
LogsStep n a c w thread here s log there later next =
    HasLogged (IsStep n.valid (c.passes here) (a.heard w) thread (c.view here) s (c.view there) later) (kept log) (kept next)
