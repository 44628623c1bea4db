-- A store and a worker, as contracts see them.
use Rattle.std.specs.Prelude.{ℕ, List}
use Rattle.atomic_table.specs.declared.shared.Seat.{Seat}
use Rattle.sto_model.specs.declared.shape.Shape.{Shape}
use Rattle.sto_model.specs.declared.call.Call.{Call}
use Rattle.sto_type.specs.Traits.{OfType}
use Rattle.sto_core.specs.declared.view.View.{View}
use Rattle.sto_table.specs.declared.stance.Stance.{Stance}
use Rattle.sto_action.specs.Progs.{IsTakenCall}
use Rattle.sto_shared_store.specs.declared.store.Store.{Store as Words}
use Rattle.sto_shared_store.specs.Working.{IsWorker}

-- a store: its objects with their words, their shapes, and what the workers know that rest in it
pub record Stored (T : Type 0) : Type 0 where
  pub words : Words T
  pub shapes : List Shape
  pub views : List View

-- a worker at a store: the store's objects and their shapes, its pass, and how many tickets it has left
pub record Working (T : Type 0) : Type 0 where
  pub words : Words T
  pub shapes : List Shape
  pub seat : Seat (Unit {0}) Stance
  pub left : ℕ

module _ {T : Type 0} (t : OfType T) where
  -- the worker of this seat is one of the store's
  abbrev pub Serves : Words T → Seat (Unit {0}) Stance → Type 0
  Serves words seat = IsWorker (t.meaning words.ty) (t.sizes words.ty) words.shared seat

  -- the objects take the calls that their shapes take
  abbrev pub TakeCalls : Words T → List Shape → Type 0
  TakeCalls words shapes = (call : Call) → IsTakenCall shapes call → (t.meaning words.ty).takes call
