-- What a record of w words means: one part, whose words stand one behind the other.
use Rattle.std.specs.Prelude.{◌≡◌, ℕ, ℤ, pos, Bool, true, false, Option, Some, None, List, [], ◌∷◌, map, length, replicate, IsTrue}
use Rattle.std.specs.Int.{w64}
use Rattle.std.specs.Int.RustNames.{FitsSigned}
use Rattle.sto_part.specs.Parts.{part_of}
use Rattle.sto_part.specs.Changes.{wrapped_sum}
use Rattle.sto_part.specs.declared.change.Change.TheVariants as C
use Rattle.sto_part.specs.declared.pred.Test.TheVariants.{Eq}
use Rattle.sto_item.specs.declared.item.Item.TheVariants.{Seen}
use Rattle.sto_model.specs.declared.call.Call.{Call}
use Rattle.sto_model.specs.declared.operation.Operation.{Operation}
use Rattle.sto_model.specs.declared.operation.Operation.TheVariants.{Get, Set, Add, Scan}
use Rattle.sto_model.specs.Rows.{Row, value_at, with_row}
use Rattle.sto_model.specs.PlainReplies.{Done, Value, Absent, Pairs}
use Rattle.sto_model.specs.Objects.{Effect, effect, value_or_absent}
use Rattle.sto_model.specs.SequentialObjects.{SequentialObject}
use Rattle.sto_type.specs.Known.{Parts, ContentsFit}
use Rattle.sto_type.specs.Meaning.{Meaning}
use Rattle.sto_type.specs.Telling.{Telling, Read, Tell}
use Rattle.sto_type.specs.OneObject.{meaning_of}
use Rattle.sto_type.specs.Numbered.{numbered, index_of}
use Rattle.sto_type.specs.Words.{word, compared, at_word}

-- a set, and an add modulo 2^64, by what stands at the index
abbrev pub set_at : Option ℤ → ℤ → ℤ → List Row → Effect
set_at None i v rows = effect Absent rows
set_at (Some x) i v rows = effect Done (with_row rows i v)

abbrev pub add_at : Option ℤ → ℤ → ℤ → List Row → Effect
add_at None i d rows = effect Absent rows
add_at (Some x) i d rows = effect Done (with_row rows i (wrapped_sum x d))

-- the object as the plain model sees it: scan answers all rows, get i one word, set i v and add i d change one
abbrev pub record_effect : Operation → ℤ → ℤ → List Row → Effect
record_effect Scan a b rows = effect (Pairs rows) rows
record_effect Get i b rows = effect (value_or_absent (value_at rows i)) rows
record_effect Set i v rows = set_at (value_at rows i) i v rows
record_effect Add i d rows = add_at (value_at rows i) i d rows
record_effect o a b rows = effect Absent rows

abbrev pub record_machine : ℕ → ℤ → SequentialObject
record_machine w first =
    record {
      opening = numbered 0 (replicate w first);
      reply = λ operation a b c rows. (record_effect operation a b rows).reply;
      after = λ operation a b c rows. (record_effect operation a b rows).after;
    }

-- which operations a record takes
abbrev pub takes_by : Operation → Bool
takes_by Scan = true
takes_by Get = true
takes_by Set = true
takes_by Add = true
takes_by o = false

-- how a call reads: all words, one, or none
abbrev pub record_telling : ℕ → Operation → Option ℕ → ℤ → Telling
record_telling w Scan i b = Read 0 (λ ws. Tell (Pairs (numbered 0 ws)) (Seen 0 ∷ []) [])
record_telling w Get (Some i) b = Read 0 (λ ws. Tell (Value (word ws i)) (compared 0 i Eq (word ws i) ∷ []) [])
record_telling w Set (Some i) v = Tell Done [] ((0, at_word w i (C.Put v)) ∷ [])
record_telling w Add (Some i) d = Tell Done [] ((0, at_word w i (C.Add d)) ∷ [])
record_telling w o i b = Tell Absent [] []

-- one part of w words of 64 bits
pub record IsRecord (w : ℕ) (c : Parts) : Type 0 where
  pub widths : map length c ≡ w ∷ []
  pub fits : ContentsFit c

-- the same by the sizes, which are the number of words
abbrev pub IsRecordOf : List ℕ → Parts → Type 0
IsRecordOf [] c = ⊥
IsRecordOf (w ∷ sizes) c = IsRecord w c

-- a call that a record takes, with numbers of 64 bits
pub record RecordTakes (call : Call) : Type 0 where
  pub object : call.object ≡ 0
  pub third : call.c ≡ pos 0
  pub taken : IsTrue (takes_by call.operation)
  pub fits : FitsSigned w64 call.a
  pub fits_too : FitsSigned w64 call.b

abbrev pub telling : ℕ → Call → Telling
telling w call = record_telling w call.operation (index_of w call.a) call.b

abbrev pub record_meaning : ℕ → ℤ → Meaning
record_meaning w first = meaning_of (record_machine w first) (w ∷ []) (replicate w first ∷ []) (IsRecord w) (λ c. numbered 0 (part_of c 0)) RecordTakes (telling w)
