-- What becomes of the workers of a store: they are given out, come back, and are taken in; why one was not given out or given back, and
-- why a store was not closed.
use Rattle.std.specs.Prelude.{◌≡◌, ◌≢◌, ℕ, zero, suc, [], ◌∷◌, ◌++◌, Some, None, IfSome, length, slice_get}
use Rattle.std.specs.Arc.{arc_value}
use Rattle.std.specs.List.{remove}
use Rattle.std.specs.declared.alloc.Global.{Global}
use Rattle.std.specs.declared.sync.Arc.{Arc}
use Rattle.sto_part.specs.declared.naming.Naming as naming
use Rattle.sto_type.specs.Traits.{OfType}
use Rattle.sto_shared_store.specs.declared.worker.CountedRest.{CountedRest}
use Rattle.sto_interactive.specs.declared.session.Session.{Session}
use Rattle.sto_interactive.specs.Steps.{IsUnchanged}
use Rattle.sto_shared_store.specs.declared.given.Hired.{Hired}
use Rattle.sto_shared_store.specs.declared.owned_store.OwnedStore.{OwnedStore}
use Rattle.sto_shared_store.specs.declared.owned_store.HireError.{HireError}
use Rattle.sto_shared_store.specs.declared.owned_store.HireError.TheVariants as hire_error
use Rattle.sto_shared_store.specs.declared.owned_store.OwnedCloseError.{OwnedCloseError}
use Rattle.sto_shared_store.specs.declared.owned_store.OwnedCloseError.TheVariants as open_still
use Rattle.sto_shared_store.specs.declared.owned_worker.OwnedWorker.{OwnedWorker}
use Rattle.sto_shared_store.specs.declared.owned_worker.GiveBackError.{GiveBackError}
use Rattle.sto_shared_store.specs.declared.owned_worker.GiveBackError.TheVariants as out_still
use Rattle.sto_shared_store.specs.Back.{HasComeBack}
use Rattle.sto_shared_store.specs.Owned.{Leads}
use Rattle.sto_interactive.specs.Sessions.{live_of}

module _ {T : Type 0} {n : naming.Ghosts T} (t : OfType T) where
  -- from x to y a store has taken in one of the workers that were out: its slot is gone, and the worker rests behind the others
  pub record HasTakenIn (x y : OwnedStore T n) : Type 0 where
    pub place : ℕ
    pub slot : Arc (Hired T n) Global
    pub worker : CountedRest T n
    pub out : slice_get x.slots.items place ≡ Some slot
    pub back : HasComeBack (t.meaning (arc_value x.store).ty) (t.sizes (arc_value x.store).ty) (arc_value x.store).shared (arc_value slot).worker worker
    pub idle : y.idle.items ≡ x.idle.items ++ worker ∷ []
    pub slots : y.slots.items ≡ remove x.slots.items place
    pub store : y.store ≡ x.store

  -- so many of them, one after the other; nothing else has changed
  abbrev pub HasGathered : ℕ → OwnedStore T n → OwnedStore T n → Type 0
  HasGathered zero x y = (y.idle.items ≡ x.idle.items) × (y.slots.items ≡ x.slots.items) × (y.store ≡ x.store)
  HasGathered (suc many) x y = (z : OwnedStore T n) × HasGathered many x z × HasTakenIn z y

module _ {T : Type 0} {n : naming.Ghosts T} where
  -- the session of this worker, which is in no transaction
  pub record IsOfWorker (worker : CountedRest T n) (x : Session T n) : Type 0 where
    pub rest : x.rest ≡ worker.rest
    pub left : x.left ≡ worker.left
    pub free : live_of x ≡ None

  -- from x to y a store keeps one slot more, which it lends to this worker
  pub record HasLent (hired : Hired T n) (x y : OwnedStore T n) : Type 0 where
    pub slot : Arc (Hired T n) Global
    pub to : arc_value slot ≡ hired
    pub slots : y.slots.items ≡ x.slots.items ++ slot ∷ []

  -- from x to y a store has given out the last worker that rested in it: it is w, and has a slot of the store
  pub record HasGivenOut (x y : OwnedStore T n) (w : OwnedWorker T n) : Type 0 where
    pub hired : Hired T n
    pub idle : x.idle.items ≡ y.idle.items ++ hired.worker ∷ []
    pub lent : HasLent hired x y
    pub slot : arc_value w.slot ≡ hired
    pub session : IfSome w.session (IsOfWorker hired.worker)

  -- none rests in the store, or memory was wanting; the store is as it was
  abbrev pub IsUnhired : HireError → OwnedStore T n → OwnedStore T n → Type 0
  IsUnhired hire_error.NoneLeft x y = (x.idle.items ≡ []) × (y ≡ x)
  IsUnhired hire_error.NoMemory x y = (x.idle.items ≢ []) × (y.idle.items ≡ x.idle.items) × (y.slots ≡ x.slots) × (y.store ≡ x.store)

  -- as many workers rest in it as it was opened for
  abbrev pub AllRest : OwnedStore T n → Type 0
  AllRest x = length x.idle.items ≡ (arc_value x.store).passes

  -- the store comes back as it was, unless memory was wanting: not all its workers rest in it, or all do
  abbrev pub StaysOpen : OwnedStore T n → OwnedCloseError T n → Type 0
  StaysOpen x (open_still.Missing y) = (y ≡ x) × (AllRest x → ⊥)
  StaysOpen x (open_still.Busy y) = (y ≡ x) × AllRest x
  StaysOpen x open_still.NoMemory = Unit {0}

  -- the worker that comes back
  abbrev pub worker_of : GiveBackError T n → OwnedWorker T n
  worker_of (out_still.InTransaction w) = w
  worker_of (out_still.Busy w) = w

  -- it is in no transaction
  abbrev pub IsFreeWorker : OwnedWorker T n → Type 0
  IsFreeWorker x = IfSome x.session (λ s. live_of s ≡ None)

  -- it is as it was: in a transaction, or, where another call is at its slot, in none
  abbrev pub StaysOut : OwnedWorker T n → GiveBackError T n → Type 0
  StaysOut x (out_still.InTransaction y) = (y ≡ x) × IfSome x.session (λ s. live_of s ≢ None)
  StaysOut x (out_still.Busy y) = (y.store ≡ x.store) × (y.slot ≡ x.slot) × Leads IsUnchanged x.session y.session × IsFreeWorker x
