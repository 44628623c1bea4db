-- Wrong answers of a record, which its definitions refuse.
use Rattle.std.proofs.Common.{◌<◌, ℕ, pos, [], ◌∷◌, refl, arith}
use Rattle.std.specs.Int.{w64}
use Rattle.std.specs.Int.RustNames.{FitsSigned}
use Rattle.sto_part.specs.declared.change.Change.TheVariants.{Put}
use Rattle.sto_part.specs.declared.pred.Test.TheVariants.{Eq}
use Rattle.sto_model.specs.declared.operation.Operation.TheVariants.{Get, Set}
use Rattle.sto_model.specs.Calls.{call_of}
use Rattle.sto_model.specs.PlainReplies.{Value}
use Rattle.sto_type.specs.Known.{Parts}
use Rattle.sto_type.specs.Meaning.{Meaning, IsUpdated}
use Rattle.sto_type.specs.Telling.{Telling, Read, Tell}
use Rattle.sto_type.specs.OneObject.{IsTold}
use Rattle.sto_type.specs.Words.{word, compared, at_word, is_equal}
use Rattle.sto_record.specs.Recorded.{IsRecord, record_meaning}

-- records of two words
abbrev m : Meaning
m = record_meaning 2 (pos 0)

abbrev zeros : Parts
zeros = (pos 0 ∷ pos 0 ∷ []) ∷ []

abbrev first_one : Parts
first_one = (pos 1 ∷ pos 0 ∷ []) ∷ []

small : (i : ℕ) → i < 2 → FitsSigned w64 (pos i)
small i l = record { sfits = omega (arith, l) }

zeros_valid : IsRecord 2 zeros
zeros_valid = record { widths = refl; fits = ((small 0 (omega arith), (small 0 (omega arith), tt)), tt) }

first_one_valid : IsRecord 2 first_one
first_one_valid = record { widths = refl; fits = ((small 1 (omega arith), (small 0 (omega arith), tt)), tt) }

-- a set of the first word does not change the second
pub set_changes_no_other_word : IsUpdated m (call_of 0 Set (pos 0) (pos 5)) zeros ((0, at_word 2 1 (Put (pos 5))) ∷ []) → ⊥
set_changes_no_other_word u = let e = u.rows in cc

-- a get of the first word that observes the second has not observed enough
abbrev looks_beside : Telling
looks_beside = Read 0 (λ ws. Tell (Value (word ws 0)) (compared 0 1 Eq (word ws 1) ∷ []) [])

pub get_observes_its_word : IsTold m (call_of 0 Get (pos 0) (pos 0)) looks_beside zeros → ⊥
get_observes_its_word t = let e = t.same_told first_one first_one_valid (is_equal first_one 0 1 (pos 0) first_one_valid.fits refl, tt) in cc
