-- What a step of an attempt asks and tells, over what the traits of the type and of the pass say.
use Rattle.std.specs.Prelude.{ℕ, Result, IfOk}
use Rattle.sto_part.specs.declared.NoMemory.{NoMemory}
use Rattle.sto_part.specs.declared.naming.Naming as naming
use Rattle.sto_core.specs.declared.cells.Cells as cells
use Rattle.sto_core.specs.declared.view.View.{View}
use Rattle.sto_run_threads.specs.Orders.{TransactionPlace}
use Rattle.sto_run_threads.specs.Plans.{Plan}
use Rattle.sto_run_steps.specs.Stepped.{HasStepped}
use Rattle.sto_run_steps.specs.Turning.{AnEvent}
use Rattle.sto_run_steps.specs.declared.attempts.Stepped.{Stepped}

-- exactly one event was made on the pass
abbrev pub MakesEvent : {T C : Type 0} → naming.Ghosts T → cells.Ghosts C T → C → C → Type 0
MakesEvent n c here there = AnEvent n.valid (c.passes here) (c.view here) (c.view there)

module _ {C T M : Type 0} (c : cells.Ghosts C T) (fits : ℕ → TransactionPlace → M → View → View → Type 0) (place : TransactionPlace) where
  -- the attempt has led to the view of the pass
  abbrev pub MayStep : M → C → Type 0
  MayStep trial here = (begun : View) × fits (c.passes here) place trial begun (c.view here)

  -- from wherever it began, it is led on, or has ended
  abbrev pub Steps : Plan → (M → ℕ) → M → M → C → C → Result Stepped NoMemory → Type 0
  Steps plan left old new here there result =
      (begun : View) → fits (c.passes here) place old begun (c.view here)
      → IfOk result (HasStepped plan fits left (c.passes here) place (left old) new begun (c.view there))
