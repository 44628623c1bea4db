-- What comes back of a store that was not closed.
use Rattle.std.specs.Prelude.{◌≡◌, ◌≢◌, length}
use Rattle.sto_library.specs.Values.{Stored}
use Rattle.sto_library.specs.declared.store.CloseError.{CloseError}
use Rattle.sto_library.specs.declared.store.CloseError.TheVariants.{Missing, NoMemory}

-- a worker is missing, and the store comes back
abbrev pub ComesBack : {T : Type 0} → Stored T → CloseError T → Type 0
ComesBack s (Missing store) = (store ≡ s) × (length s.views ≢ s.words.passes)
ComesBack s NoMemory = Unit {0}
