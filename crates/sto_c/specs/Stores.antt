-- What becomes of stores: how they are opened, give workers out and take them back, and are closed.
use Rattle.std.specs.Prelude.{◌≡◌, ◌≢◌, ◌<◌, ◌≤◌, ◌+◌, ◌^◌, ◌⊎◌, ℕ, zero, suc, Result, Ok, Err, Option, Some, None, IfSome, List, [], ◌∷◌, ◌++◌, length, map}
use Rattle.std.specs.Arc.{arc_value}
use Rattle.std.specs.List.{All}
use Rattle.sto_model.specs.declared.shape.Shape.{Shape}
use Rattle.sto_model.specs.Objects.{machines_of}
use Rattle.sto_model.specs.Rows.{Row}
use Rattle.sto_model.specs.Sizes.{rank}
use Rattle.sto_store.specs.declared.objects.Objects.{Objects}
use Rattle.sto_store.specs.contracts.objects.ObjectsNaming.TheImpl.{ghosts as naming_ghosts}
use Rattle.sto_shared_store.specs.declared.store.Store.{Store as StoreState}
use Rattle.sto_shared_store.specs.declared.worker.CountedRest.{CountedRest}
use Rattle.sto_shared_store.specs.declared.plan_error.PlanError.TheVariants as plan_error
use Rattle.sto_shared_store.specs.Plans.{IsReason, AllStand}
use Rattle.sto_history.specs.Done.{HaveHistory}
use Rattle.sto_shared_store.specs.Working.{IsWorker, IsFresh, AreRowsAfter}
use Rattle.sto_interactive.specs.Steps.{IsUnchanged}
use Rattle.sto_shared_store.specs.Owned.{Leads}
use Rattle.sto_shared_store.specs.declared.owned_store.OwnedStore.{OwnedStore}
use Rattle.sto_shared_store.specs.Endings.{HasGathered, HasGivenOut, AllRest, IsFreeWorker}
use Rattle.sto_c.specs.declared.crossing.ShapeIn.{ShapeIn}
use Rattle.sto_c.specs.declared.crossing.RowOut.{RowOut}
use Rattle.sto_c.specs.declared.content.HandleContent.{HandleContent}
use Rattle.sto_c.specs.declared.content.HandleContent.TheVariants.{Nothing, Store, Worker, Closed}
use Rattle.sto_c.specs.declared.content.StoreHandle.{StoreHandle}
use Rattle.sto_c.specs.declared.content.WorkerHandle.{WorkerHandle}
use Rattle.sto_c.specs.declared.status.Status.{Status}
use Rattle.sto_c.specs.declared.status.Status.TheVariants as status
use Rattle.sto_c.specs.Content.{objects}
use Rattle.sto_c.specs.Crossing.{shape_in, rows_out}
use Rattle.sto_interactive.specs.Sessions.{live_of}

-- a handle that held nothing was filled with this, or holds nothing, for this reason; where it held something, nothing changes
abbrev pub Fills : (HandleContent → Type 0) → (Status → Type 0) → HandleContent → Result (Unit {0}) Status → HandleContent → Type 0
Fills P Q Nothing (Ok done) y = P y
Fills P Q Nothing (Err why) y = (y ≡ Nothing) × Q why
Fills P Q x done y = (done ≡ Err status.Taken) × (y ≡ x)

-- the first so many of the shapes hold one number each, as boxes and counters do, and no other does
abbrev pub AreScalars : ℕ → List Shape → Type 0
AreScalars count [] = count ≡ 0
AreScalars zero (shape ∷ shapes) = (2 ≤ rank shape) × AreScalars zero shapes
AreScalars (suc count) (shape ∷ shapes) = (rank shape < 2) × AreScalars count shapes

-- a worker of the store s that was just opened: it has done nothing, knows what the objects held at first, and may draw so many tickets
abbrev pub IsNew : StoreState Objects → CountedRest Objects naming_ghosts → Type 0
IsNew s w = IsFresh (objects.meaning s.ty) (objects.sizes s.ty) s.shared w.rest.seat × (w.left ≡ 2 ^ 40)

-- a store of objects of these shapes, opened for so many workers, who all rest in it and are new
pub record HasShapes (shapes : List ShapeIn) (workers : ℕ) (h : StoreHandle) : Type 0 where
  pub planned : List Shape
  pub all : map shape_in shapes ≡ map Some planned
  pub machines : (objects.meaning (arc_value h.store.store).ty).machines ≡ machines_of planned
  pub count : h.objects.all ≡ length shapes
  pub scalars : AreScalars h.objects.scalars planned
  pub passes : (arc_value h.store.store).shared.table.shared.key.passes ≡ workers
  pub rest : length h.store.idle.items ≡ workers
  pub new : All (IsNew (arc_value h.store.store)) h.store.idle.items
  pub none_out : h.store.slots.items ≡ []

abbrev pub IsStoreOf : List ShapeIn → ℕ → HandleContent → Type 0
IsStoreOf shapes workers (Store h) = HasShapes shapes workers h
IsStoreOf shapes workers _ = ⊥

-- why a shape cannot stand behind these
abbrev pub IsUnfit : Status → List Shape → Option Shape → Type 0
IsUnfit status.BadKind planned shape = shape ≡ None
IsUnfit status.BadOrder planned (Some shape) = IsReason plan_error.OutOfOrder planned shape
IsUnfit status.BadSize planned (Some shape) = IsReason plan_error.NoRoom planned shape
IsUnfit status.TooMany planned (Some shape) = IsReason plan_error.TooMany planned shape
IsUnfit _ planned shape = ⊥

-- one of the shapes cannot stand behind those before it, and is the first such
pub record IsRefused (shapes : List ShapeIn) (why : Status) : Type 0 where
  pub before : List ShapeIn
  pub given : ShapeIn
  pub after : List ShapeIn
  pub planned : List Shape
  pub all : shapes ≡ before ++ given ∷ after
  pub fit : map shape_in before ≡ map Some planned
  pub first : AllStand [] planned
  pub reason : IsUnfit why planned (shape_in given)

-- these are the shapes, each of which can stand behind those before it
abbrev pub ArePlanned : List ShapeIn → List Shape → Type 0
ArePlanned shapes planned = (map shape_in shapes ≡ map Some planned) × AllStand [] planned

-- why objects of these shapes were not planned
abbrev pub IsUnplanned : List ShapeIn → Status → Type 0
IsUnplanned shapes status.NoMemory = Unit {0}
IsUnplanned shapes why = IsRefused shapes why

-- why a store of these shapes was not opened for so many workers; the shapes are looked at first
abbrev pub IsUnopened : List ShapeIn → ℕ → Status → Type 0
IsUnopened shapes workers status.BadWorkers = ((planned : List Shape) × ArePlanned shapes planned) × ((workers ≡ 0) ⊎ (65536 < workers))
IsUnopened shapes workers why = IsUnplanned shapes why

-- the same store, in which at least as many workers rest but so many
abbrev pub IsSameStore : ℕ → StoreHandle → StoreHandle → Type 0
IsSameStore out h k = (k.store.store ≡ h.store.store) × (k.objects ≡ h.objects) × (length h.store.idle.items ≤ length k.store.idle.items + out)

-- the same store: some of the workers that were out came back to it, and nothing else has changed
abbrev pub IsGathered : StoreHandle → StoreHandle → Type 0
IsGathered h k = (k.objects ≡ h.objects) × ((many : ℕ) × HasGathered objects many h.store k.store)

-- a worker was given out of the store: it is of the same store, and was the last that rested there once some had come back
pub record HasHired (h g : StoreHandle) (k : WorkerHandle) : Type 0 where
  pub same : arc_value k.worker.store ≡ arc_value h.store.store
  pub objects_same : k.objects ≡ h.objects
  pub before : StoreHandle
  pub back : IsGathered h before
  pub out : HasGivenOut before.store g.store k.worker

-- the same of what handles hold
abbrev pub IsHiredOf : HandleContent → HandleContent → HandleContent → Type 0
IsHiredOf (Store h) (Store g) (Worker k) = HasHired h g k
IsHiredOf _ _ _ = ⊥

-- why no worker was given out of the store h, which is k then: none rests in it, or memory was wanting
abbrev pub IsUnhiredOf : StoreHandle → Status → StoreHandle → Type 0
IsUnhiredOf h status.NoWorker k = (h.store.idle.items ≡ []) × (k.store.idle.items ≡ [])
IsUnhiredOf h status.NoMemory k = IsSameStore 0 h k
IsUnhiredOf h _ k = ⊥

-- the same of what handles hold
abbrev pub IsUnhired : HandleContent → HandleContent → Status → Type 0
IsUnhired Nothing y why = why ≡ status.Empty
IsUnhired (Store h) (Store k) why = IsUnhiredOf h why k
IsUnhired (Store h) _ why = ⊥
IsUnhired (Worker h) y why = why ≡ status.OtherHandle
IsUnhired (Closed rows) y why = why ≡ status.OtherHandle

-- it is the same store still, in which all rest that did, but one perhaps; what is none is as it was
abbrev pub KeepsStore : HandleContent → HandleContent → Type 0
KeepsStore (Store h) (Store k) = IsSameStore 1 h k
KeepsStore x y = y ≡ x

-- what was held was freed
abbrev pub HasFreed : HandleContent → Result (Unit {0}) Status → HandleContent → Type 0
HasFreed Nothing done y = (done ≡ Err status.Empty) × (y ≡ Nothing)
HasFreed _ done y = (done ≡ Ok tt) × (y ≡ Nothing)

-- a worker, which was in no transaction, was given back to its store, or why it was not: then it is as it was
abbrev pub HasGivenBack : HandleContent → Result (Unit {0}) Status → HandleContent → Type 0
HasGivenBack Nothing done y = (done ≡ Err status.Empty) × (y ≡ Nothing)
HasGivenBack (Worker h) (Ok done) y = (y ≡ Nothing) × IsFreeWorker h.worker
HasGivenBack (Worker h) (Err status.InTransaction) y = (y ≡ Worker h) × IfSome h.worker.session (λ x. live_of x ≢ None)
HasGivenBack (Worker h) (Err status.Busy) (Worker k) = (k.worker.store ≡ h.worker.store) × (k.objects ≡ h.objects)
    × Leads IsUnchanged h.worker.session k.worker.session × IsFreeWorker h.worker
HasGivenBack (Worker h) (Err _) y = ⊥
HasGivenBack x done y = (done ≡ Err status.OtherHandle) × (y ≡ x)

-- these are the rows of the contents after all commits of all workers of a store, and the last state of a serial history of all that
-- they have done: those that rested in it, as they were, and those that were out, who came back to it
pub record AreClosedRows (h : StoreHandle) (rows : List RowOut) : Type 0 where
  pub state : List (List Row)
  pub many : ℕ
  pub last : OwnedStore Objects naming_ghosts
  pub gathered : HasGathered objects many h.store last
  pub own : All (λ (w : CountedRest Objects naming_ghosts). IsWorker (objects.meaning (arc_value last.store).ty) (objects.sizes (arc_value last.store).ty) (arc_value last.store).shared w.rest.seat) last.idle.items
  pub all : length last.idle.items ≡ (arc_value last.store).shared.table.shared.key.passes
  pub leave : AreRowsAfter objects.valid (objects.meaning (arc_value last.store).ty) (map (λ w. w.rest.seat.me.0.view) last.idle.items) state
  pub history : HaveHistory (objects.meaning (arc_value last.store).ty) (map (λ w. w.rest.seat.me.0.view) last.idle.items) state
  pub told : rows ≡ rows_out 0 state

-- a store was closed, or why it was not: fewer workers rest in it than it was opened for, or all do and another call has not let it go
-- yet; where memory was wanting it may be lost
abbrev pub HasClosedStore : StoreHandle → Result (Unit {0}) Status → HandleContent → Type 0
HasClosedStore h (Ok done) (Closed rows) = AreClosedRows h rows.items
HasClosedStore h (Err status.WorkersOut) (Store k) = IsGathered h k × (AllRest k.store → ⊥)
HasClosedStore h (Err status.Busy) (Store k) = IsGathered h k × AllRest k.store
HasClosedStore h (Err status.NoMemory) (Store k) = IsGathered h k
HasClosedStore h (Err status.NoMemory) Nothing = Unit {0}
HasClosedStore h done y = ⊥

abbrev pub HasClosed : HandleContent → Result (Unit {0}) Status → HandleContent → Type 0
HasClosed Nothing done y = (done ≡ Err status.Empty) × (y ≡ Nothing)
HasClosed (Store h) done y = HasClosedStore h done y
HasClosed x done y = (done ≡ Err status.OtherHandle) × (y ≡ x)
