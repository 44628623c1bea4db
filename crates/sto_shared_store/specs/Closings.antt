-- What comes back of a store that was not closed.
use Rattle.std.specs.Prelude.{◌≡◌, ◌≢◌, length}
use Rattle.sto_part.specs.Listed.{Listed}
use Rattle.sto_part.specs.declared.naming.Naming as naming
use Rattle.sto_shared_store.specs.declared.store.Store.{Store}
use Rattle.sto_shared_store.specs.declared.worker.CountedRest.{CountedRest}
use Rattle.sto_shared_store.specs.declared.store_close_error.StoreCloseError.{StoreCloseError}
use Rattle.sto_shared_store.specs.declared.store_close_error.StoreCloseError.TheVariants.{Missing, NoMemory}

-- a worker is missing, and the store and the others come back
abbrev pub ComesBack : {T : Type 0} {n : naming.Ghosts T} → Store T → Listed (CountedRest T n) → StoreCloseError T n → Type 0
ComesBack store workers (Missing s w) = (s ≡ store) × (w ≡ workers) × (length workers.items ≢ store.passes)
ComesBack store workers NoMemory = Unit {0}
