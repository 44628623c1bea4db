-- The law of a tree, call by call.
use Rattle.std.specs.Prelude.{ℕ}
use Rattle.sto_model.specs.declared.call.Call.{Call}
use Rattle.sto_type.specs.Known.{Parts}
use Rattle.sto_type.specs.Reading.{Reading}
use Rattle.sto_type.specs.Observing.{IsObservation as IsObservationOf, IsCallLawful as IsLawfulCall}
use Rattle.sto_tree.specs.Meaning.{tree_meaning, reading}

-- what a reading observes is what a reply and its updates rest on
abbrev pub IsObservation : ℕ → Call → Reading → Parts → Type 0
IsObservation leaves call r c = IsObservationOf (tree_meaning leaves) call r c

-- the law of one call on valid contents
abbrev pub IsCallLawful : ℕ → Call → Parts → Type 0
IsCallLawful leaves call c = IsLawfulCall (tree_meaning leaves) call (reading leaves call) c
