-- What a handle may hold.
use Rattle.std.specs.Prelude.{◌≢◌}
use Rattle.sto_type.specs.Traits.{OfType, of_type}
use Rattle.sto_store.specs.declared.objects.Objects.{Objects}
use Rattle.sto_store.specs.contracts.objects.ObjectsNaming.TheImpl.{ghosts as naming_ghosts}
use Rattle.sto_store.specs.contracts.objects.ObjectsTxType.TheImpl.{ghosts as type_ghosts}
use Rattle.sto_shared_store.specs.Owned.{IsOwnedStore, IsOwnedWorker}
use Rattle.sto_c.specs.declared.content.HandleContent.{HandleContent}
use Rattle.sto_c.specs.declared.content.HandleContent.TheVariants.{Nothing, Store, Worker, Closed}
use Rattle.sto_c.specs.declared.content.StoreHandle.{StoreHandle}
use Rattle.sto_c.specs.declared.content.WorkerHandle.{WorkerHandle}

-- what the traits say of objects
abbrev pub objects : OfType Objects
objects = of_type naming_ghosts type_ghosts

abbrev pub IsStore : StoreHandle → Type 0
IsStore h = IsOwnedStore objects h.store

abbrev pub IsWorker : WorkerHandle → Type 0
IsWorker h = IsOwnedWorker objects h.worker

-- a store whose workers are at rest, a worker of its store, or the rows of a store that was closed
abbrev pub IsHeld : HandleContent → Type 0
IsHeld Nothing = Unit {0}
IsHeld (Store h) = IsStore h
IsHeld (Worker h) = IsWorker h
IsHeld (Closed rows) = Unit {0}

-- it is not nothing
abbrev pub IsFull : HandleContent → Type 0
IsFull x = (x ≢ Nothing) × IsHeld x
