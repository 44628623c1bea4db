-- What a vector means. Part 0 is the size, and part 1 + i the word of place i.
use Rattle.std.specs.Prelude.{◌≡◌, ◌≤◌, ℕ, zero, suc, ℤ, pos, negsuc, nat_lt, if◌then◌else◌, Option, Some, None, unwrap_or, List, [], ◌∷◌, map, length, take, replicate, slice_index_or, IsTrue}
use Rattle.std.specs.Option.{option_map}
use Rattle.std.specs.Int.{w64}
use Rattle.std.specs.Int.RustNames.{FitsSigned}
use Rattle.sto_part.specs.declared.change.Change.TheVariants.{Put, Add}
use Rattle.sto_part.specs.declared.pred.Test.{Test}
use Rattle.sto_part.specs.declared.pred.Test.TheVariants.{Eq, Le, Gt, Ge}
use Rattle.sto_item.specs.declared.item.Item.{Item}
use Rattle.sto_item.specs.declared.item.Item.TheVariants.{Seen, Holds}
use Rattle.sto_item.specs.Pending.{Entry}
use Rattle.sto_item.specs.Agreement.{word_of}
use Rattle.sto_model.specs.declared.call.Call.{Call}
use Rattle.sto_model.specs.declared.operation.Operation.{Operation}
use Rattle.sto_model.specs.declared.operation.Operation.TheVariants.{Get, Test as TestWord, Len, Push, Pop}
use Rattle.sto_model.specs.declared.shape.Shape.TheVariants.{Vector}
use Rattle.sto_model.specs.Rows.{Row}
use Rattle.sto_model.specs.Operations.{test_of}
use Rattle.sto_model.specs.Objects.{machine_of, takes}
use Rattle.sto_type.specs.Known.{Parts, Known, ContentsFit, word_known}
use Rattle.sto_type.specs.Meaning.{Meaning}
use Rattle.sto_counter.specs.Sums.{word_pred_of}
use Rattle.sto_counter.specs.Counted.{test_items}
use Rattle.sto_array.specs.Arrayed.{place_of, asked, array_rows, homes_from}

-- the size that a word says
abbrev pub size_of : ℤ → ℕ
size_of (pos n) = n
size_of (negsuc n) = 0

-- the size, where its part is known
abbrev pub size_known : Known → Option ℕ
size_known k = option_map size_of (word_known (k 0))

-- with this size a get of a place below it needs the place, and a pop the last one; the others need no place
abbrev pub place_need : Operation → Option ℕ → Known → ℕ → Option ℕ
place_need Get (Some i) k n = if nat_lt i n then asked (suc i) (k (suc i)) else None
place_need Pop q k (suc n) = asked (suc n) (k (suc n))
place_need o q k n = None

-- the size is needed first
abbrev pub after_size : Option ℕ → (ℕ → Option ℕ) → Option ℕ
after_size None need = Some 0
after_size (Some n) need = need n

-- a get of an index that is no place needs nothing
abbrev pub vector_need : Operation → Option ℕ → Known → Option ℕ
vector_need Get None k = None
vector_need o q k = after_size (size_known k) (place_need o q k)

-- that the size compares with a number
abbrev pub size_holds : Test → ℕ → Item
size_holds test n = Holds (word_pred_of 0 test (pos n))

-- what a get of place i observes with this size
abbrev pub get_items : ℕ → ℕ → List Item
get_items i n = if nat_lt i n then size_holds Gt i ∷ Seen (suc i) ∷ [] else size_holds Le i ∷ []

-- what a push observes with room for so many and this size
abbrev pub push_items : ℕ → ℕ → List Item
push_items capacity n = if nat_lt n capacity then size_holds Eq n ∷ [] else size_holds Ge capacity ∷ []

-- what a pop observes with this size
abbrev pub pop_items : ℕ → List Item
pop_items zero = size_holds Le 0 ∷ []
pop_items (suc n) = size_holds Eq (suc n) ∷ Seen (suc n) ∷ []

-- what a call observes with this size; a test does as a counter of that number
abbrev pub vector_items : ℕ → Operation → Option ℕ → ℤ → ℤ → ℕ → List Item
vector_items capacity Get (Some i) a b n = get_items i n
vector_items capacity TestWord q cmp k n = test_items (test_of cmp) k (pos n)
vector_items capacity Len q a b n = Seen 0 ∷ []
vector_items capacity Push q a b n = push_items capacity n
vector_items capacity Pop q a b n = pop_items n
vector_items capacity o q a b n = []

-- a push of v with this size adds to the size and puts v behind the last place
abbrev pub push_updates : ℕ → ℤ → ℕ → List Entry
push_updates capacity v n = if nat_lt n capacity then (0, Add (pos 1) ∷ []) ∷ (suc n, Put v ∷ []) ∷ [] else []

-- a pop takes from the size; the place keeps its word
abbrev pub pop_updates : ℕ → List Entry
pop_updates zero = []
pop_updates (suc n) = (0, Add (negsuc 0) ∷ []) ∷ []

abbrev pub vector_updates : ℕ → Operation → ℤ → ℕ → List Entry
vector_updates capacity Push v n = push_updates capacity v n
vector_updates capacity Pop v n = pop_updates n
vector_updates capacity o v n = []

-- the places below the size, each with its number as its key
abbrev pub vector_rows : Parts → List Row
vector_rows [] = []
vector_rows (size ∷ places) = array_rows 0 (take (size_of (slice_index_or size 0 (pos 0))) places)

-- a size from 0 to the capacity
abbrev pub IsSize : ℕ → ℤ → Type 0
IsSize capacity (pos n) = n ≤ capacity
IsSize capacity (negsuc n) = ⊥

-- the size and as many places as the capacity, each of one word of 64 bits
pub record IsVector (capacity : ℕ) (c : Parts) : Type 0 where
  pub widths : map length c ≡ replicate (suc capacity) 1
  pub fits : ContentsFit c
  pub sized : IsSize capacity (word_of c 0 0)

-- the same by the sizes, which are the capacity
abbrev pub IsVectorOf : List ℕ → Parts → Type 0
IsVectorOf [] c = ⊥
IsVectorOf (capacity ∷ sizes) c = IsVector capacity c

-- a call that a vector takes, with numbers of 64 bits
pub record VectorTakes (call : Call) : Type 0 where
  pub object : call.object ≡ 0
  pub third : call.c ≡ pos 0
  pub taken : IsTrue (takes (Vector 0) call.operation call.a)
  pub fits : FitsSigned w64 call.a
  pub fits_too : FitsSigned w64 call.b

abbrev pub vector_meaning : ℕ → Meaning
vector_meaning capacity = record {
  machines = machine_of (Vector capacity) ∷ [];
  widths = replicate (suc capacity) 1;
  homes = homes_from 0 (suc capacity);
  opened = replicate (suc capacity) (pos 0 ∷ []);
  valid = IsVector capacity;
  rows = λ c. vector_rows c ∷ [];
  takes = VectorTakes;
  need = λ call k. vector_need call.operation (place_of capacity call.a) k;
  items = λ call k. vector_items capacity call.operation (place_of capacity call.a) call.a call.b (unwrap_or (size_known k) 0);
  updates = λ call c. vector_updates capacity call.operation call.a (size_of (word_of c 0 0));
}
