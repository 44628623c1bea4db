-- Why a store was not opened or not closed.
use Rattle.std.specs.Prelude.{◌≡◌, ◌<◌, ◌⊎◌, ℕ}
use Rattle.sto_shared_store.specs.declared.open_error.OpenError.{OpenError}
use Rattle.sto_shared_store.specs.declared.open_error.OpenError.TheVariants.{Workers, NoMemory}

-- why a store was not opened with so many workers
abbrev pub IsCause : OpenError → ℕ → Type 0
IsCause Workers workers = (workers ≡ 0) ⊎ (65536 < workers)
IsCause NoMemory workers = Unit {0}
