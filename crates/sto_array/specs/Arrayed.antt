-- What an array means.
use Rattle.std.specs.Prelude.{◌≡◌, ℕ, zero, suc, ℤ, pos, negsuc, nat_lt, if◌then◌else◌, Option, Some, None, List, [], ◌∷◌, map, length, replicate, slice_index_or, IsTrue}
use Rattle.std.specs.Int.{w64}
use Rattle.std.specs.Int.RustNames.{FitsSigned}
use Rattle.sto_part.specs.declared.change.Change.TheVariants.{Put}
use Rattle.sto_item.specs.declared.item.Item.{Item}
use Rattle.sto_item.specs.declared.item.Item.TheVariants.{Seen}
use Rattle.sto_item.specs.Pending.{Entry}
use Rattle.sto_item.specs.Agreement.{word_of}
use Rattle.sto_model.specs.declared.call.Call.{Call}
use Rattle.sto_model.specs.declared.operation.Operation.{Operation}
use Rattle.sto_model.specs.declared.operation.Operation.TheVariants.{Get, Set, Add}
use Rattle.sto_model.specs.declared.shape.Shape.TheVariants.{Array}
use Rattle.sto_model.specs.Rows.{Row}
use Rattle.sto_model.specs.Objects.{machine_of, takes}
use Rattle.sto_type.specs.Known.{Parts, Known, ContentsFit}
use Rattle.sto_type.specs.Meaning.{Meaning}
use Rattle.sto_counter.specs.Sums.{add_items, add_updates}

-- the part of an index, where it is one of n
abbrev pub place_of : ℕ → ℤ → Option ℕ
place_of n (pos i) = if nat_lt i n then Some i else None
place_of n (negsuc i) = None

-- the part, where it is not known
abbrev pub asked : ℕ → Option (List ℤ) → Option ℕ
asked i None = Some i
asked i (Some ws) = None

-- a get and an add need the part, and a set needs nothing; an index outside needs nothing
abbrev pub array_need : Operation → Option ℕ → Known → Option ℕ
array_need Get (Some i) k = asked i (k i)
array_need Add (Some i) k = asked i (k i)
array_need o i k = None

-- the value that is known
abbrev pub value_known : Option (List ℤ) → ℤ
value_known None = pos 0
value_known (Some ws) = slice_index_or ws 0 (pos 0)

-- a get observes the part, an add as a counter does, and a set nothing
abbrev pub array_items : Operation → Option ℕ → ℤ → Known → List Item
array_items Get (Some i) d k = Seen i ∷ []
array_items Add (Some i) d k = add_items i d (value_known (k i))
array_items o i d k = []

-- a set puts, an add adds where the sum is in range
abbrev pub array_updates : Operation → Option ℕ → ℤ → Parts → List Entry
array_updates Set (Some i) v c = (i, Put v ∷ []) ∷ []
array_updates Add (Some i) d c = add_updates i d (word_of c i 0)
array_updates o i d c = []

-- each part with its number as its key, from i on
abbrev pub array_rows : ℕ → Parts → List Row
array_rows i [] = []
array_rows i (ws ∷ c) = (pos i, slice_index_or ws 0 (pos 0)) ∷ array_rows (suc i) c

-- each of n parts is of the one object
abbrev pub homes_from : ℕ → ℕ → List (ℕ × ℕ)
homes_from i zero = []
homes_from i (suc n) = (0, i) ∷ homes_from (suc i) n

-- n parts of one word of 64 bits
pub record IsArray (n : ℕ) (c : Parts) : Type 0 where
  pub widths : map length c ≡ replicate n 1
  pub fits : ContentsFit c

-- the same by the sizes, which are the number of parts
abbrev pub IsArrayOf : List ℕ → Parts → Type 0
IsArrayOf [] c = ⊥
IsArrayOf (n ∷ sizes) c = IsArray n c

-- a call that an array takes, with numbers of 64 bits
pub record ArrayTakes (call : Call) : Type 0 where
  pub object : call.object ≡ 0
  pub third : call.c ≡ pos 0
  pub taken : IsTrue (takes (Array 0 (pos 0)) call.operation call.a)
  pub fits : FitsSigned w64 call.a
  pub fits_too : FitsSigned w64 call.b

abbrev pub array_meaning : ℕ → ℤ → Meaning
array_meaning n first = record {
  machines = machine_of (Array n first) ∷ [];
  widths = replicate n 1;
  homes = homes_from 0 n;
  opened = replicate n (first ∷ []);
  valid = IsArray n;
  rows = λ c. array_rows 0 c ∷ [];
  takes = ArrayTakes;
  need = λ call k. array_need call.operation (place_of n call.a) k;
  items = λ call k. array_items call.operation (place_of n call.a) call.b k;
  updates = λ call c. array_updates call.operation (place_of n call.a) call.b c;
}
