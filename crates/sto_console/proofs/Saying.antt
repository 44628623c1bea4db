-- Nothing is said where nothing is written.
use Rattle.std.proofs.Common.{ℕ, List, [], inl, refl, sym, append-nil, Option, None, Some}
use Rattle.sto_console.specs.Told.{Gains}
use Rattle.sto_console.specs.Said.{Says}

gains_nothing : (held : Option (List ℕ)) → Gains held held []
gains_nothing None = tt
gains_nothing (Some xs) = sym (append-nil xs)

pub nothing_said : (held : Option (List ℕ)) (count : ℕ) → Says [] held held count count
nothing_said held count = inl (gains_nothing held, refl)
