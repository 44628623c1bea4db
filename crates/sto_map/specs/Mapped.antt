-- What a map means: its parts, its rows, which contents are valid, and how its calls read.
use Rattle.std.specs.Prelude.{◌≡◌, ◌<◌, ◌≤◌, ◌+◌, ◌^◌, ℕ, zero, suc, ℤ, pos, negsuc, nat_lt, nat_le, int_lt, Bool, true, false, ◌&&◌, if◌then◌else◌, Option, Some, None, List, [], ◌∷◌, ◌++◌, map, length, replicate, IsTrue}
use Rattle.std.specs.Ordering.{int_eq}
use Rattle.std.specs.Int.{w64}
use Rattle.std.specs.Int.RustNames.{FitsSigned}
use Rattle.sto_part.specs.Parts.{part_of}
use Rattle.sto_part.specs.Changes.{wrapped_sum}
use Rattle.sto_part.specs.declared.change.Change.{Change}
use Rattle.sto_part.specs.declared.change.Change.TheVariants as C
use Rattle.sto_item.specs.declared.item.Item.{Item}
use Rattle.sto_item.specs.declared.item.Item.TheVariants.{Seen}
use Rattle.sto_item.specs.Pending.{Entry}
use Rattle.sto_model.specs.declared.call.Call.{Call}
use Rattle.sto_model.specs.declared.operation.Operation.{Operation}
use Rattle.sto_model.specs.declared.operation.Operation.TheVariants.{Get, Set, Add, Put, Has, Remove}
use Rattle.sto_model.specs.Rows.{Row, value_at, has_key, with_row}
use Rattle.sto_model.specs.PlainReplies.{Done, Value, Flag, Absent, Full}
use Rattle.sto_model.specs.Objects.{Effect, effect, value_or_absent, put_effect, remove_effect}
use Rattle.sto_model.specs.SequentialObjects.{SequentialObject}
use Rattle.sto_type.specs.Known.{Parts, ContentsFit}
use Rattle.sto_type.specs.Meaning.{Meaning}
use Rattle.sto_type.specs.Telling.{Telling, Read, Tell}
use Rattle.sto_type.specs.OneObject.{meaning_of}
use Rattle.sto_type.specs.Words.{word, compared}
use Rattle.sto_part.specs.declared.pred.Test.TheVariants.{Lt, Ge}
use Rattle.sto_container.specs.Places.{next, offset, is_live, natural}
use Rattle.sto_map.specs.Counts.{total, one}

-- the sizes of a map: how many keys it may hold, how many places and stripes of room it has, and the home and the stripe of a key
pub record Sizes : Type 0 where
  pub keys : ℕ
  pub places : ℕ
  pub stripes : ℕ
  pub home : ℤ → ℕ
  pub stripe : ℤ → ℕ

-- each home is a place, and there are places enough
pub record AreSizes (z : Sizes) : Type 0 where
  pub enough : z.keys ≤ z.places
  pub homes : (k : ℤ) → z.home k < z.places
  pub rooms : (k : ℤ) → z.stripe k < z.stripes
  pub small : z.keys < 2 ^ 32

-- the parts: a room for each stripe; then for each place its key part, its over and its value
abbrev pub key_part : Sizes → ℕ → ℕ
key_part z p = z.stripes + p

abbrev pub over_part : Sizes → ℕ → ℕ
over_part z p = z.stripes + (z.places + p)

abbrev pub value_part : Sizes → ℕ → ℕ
value_part z p = z.stripes + (z.places + (z.places + p))

abbrev pub map_widths : Sizes → List ℕ
map_widths z = replicate z.stripes 1 ++ (replicate z.places 2 ++ (replicate z.places 1 ++ replicate z.places 1))

-- the key of a key part, and whether the part holds a key
abbrev pub key_of : List ℤ → ℤ
key_of ws = word ws 1

abbrev pub holds : ℤ → List ℤ → Bool
holds k ws = is_live ws && int_eq (key_of ws) k

-- place q stands before place p on the way of k
abbrev pub before : Sizes → ℤ → ℕ → ℕ → Bool
before z k q p = nat_lt (offset z.places (z.home k) q) (offset z.places (z.home k) p)

-- the key at place p passed over place q
abbrev pub passes : Sizes → Parts → ℕ → ℕ → ℕ
passes z c q p = one (is_live (part_of c (key_part z p)) && before z (key_of (part_of c (key_part z p))) q p)

abbrev pub count : Sizes → Parts → ℕ
count z c = total z.places (λ p. one (is_live (part_of c (key_part z p))))

-- the room of all stripes
abbrev pub rooms : Sizes → Parts → ℕ
rooms z c = total z.stripes (λ s. natural (word (part_of c s) 0))

abbrev pub IsNatural : ℤ → Type 0
IsNatural (pos n) = Unit {0}
IsNatural (negsuc n) = ⊥

-- no key is live twice; each over is the number of keys that passed over the place; rooms and keys sum to the number of keys that may be held
pub record IsMap (z : Sizes) (c : Parts) : Type 0 where
  pub widths : map length c ≡ map_widths z
  pub fits : ContentsFit c
  pub bits : (p : ℕ) → p < z.places → word (part_of c (key_part z p)) 0 ≡ pos (one (is_live (part_of c (key_part z p))))
  pub once : (p q : ℕ) (k : ℤ) → p < z.places → q < z.places → holds k (part_of c (key_part z p)) ≡ true → holds k (part_of c (key_part z q)) ≡ true → p ≡ q
  pub overs : (q : ℕ) → q < z.places → word (part_of c (over_part z q)) 0 ≡ pos (total z.places (passes z c q))
  pub natural_rooms : (s : ℕ) → s < z.stripes → IsNatural (word (part_of c s) 0)
  pub counted : rooms z c + count z c ≡ z.keys

-- the rows of the first n places
abbrev pub placed : Sizes → Parts → ℕ → List Row
placed z c zero = []
placed z c (suc n) =
    if is_live (part_of c (key_part z n)) then with_row (placed z c n) (key_of (part_of c (key_part z n))) (word (part_of c (value_part z n)) 0) else placed z c n

abbrev pub map_rows : Sizes → Parts → List Row
map_rows z c = placed z c z.places

-- the object as the plain model sees it
abbrev pub set_at : Option ℤ → ℤ → ℤ → List Row → Effect
set_at None k v rows = effect Absent rows
set_at (Some x) k v rows = effect Done (with_row rows k v)

abbrev pub add_at : Option ℤ → ℤ → ℤ → List Row → Effect
add_at None k d rows = effect Absent rows
add_at (Some x) k d rows = effect Done (with_row rows k (wrapped_sum x d))

abbrev pub map_effect : ℕ → Operation → ℤ → ℤ → List Row → Effect
map_effect n Get k b rows = effect (value_or_absent (value_at rows k)) rows
map_effect n Has k b rows = effect (Flag (has_key rows k)) rows
map_effect n Set k v rows = set_at (value_at rows k) k v rows
map_effect n Add k d rows = add_at (value_at rows k) k d rows
map_effect n Put k v rows = put_effect (nat_le n (length rows)) k v rows
map_effect n Remove k b rows = remove_effect k rows
map_effect n o a b rows = effect Absent rows

abbrev pub map_machine : ℕ → SequentialObject
map_machine n =
    record {
      opening = [];
      reply = λ operation a b c rows. (map_effect n operation a b rows).reply;
      after = λ operation a b c rows. (map_effect n operation a b rows).after;
    }

abbrev pub takes_by : Operation → Bool
takes_by Get = true
takes_by Has = true
takes_by Set = true
takes_by Add = true
takes_by Remove = true
takes_by Put = true
takes_by o = false

-- along the way of k from place p on, so many places at most: found at the place that holds k; absent with what was seen where an over is 0, or where all were met
module _ (z : Sizes) (k : ℤ) (found : ℕ → Telling) (absent : List Item → Telling) where
  abbrev pub look : ℕ → ℕ → List Item → Telling
  look zero p seen = absent seen
  look (suc left) p seen =
      Read (key_part z p)
      (λ ws. if holds k ws then found p else
      Read (over_part z p)
      (λ os. if int_eq (word os 0) (pos 0) then absent (seen ++ Seen (key_part z p) ∷ Seen (over_part z p) ∷ []) else look left (next z.places p) (seen ++ Seen (key_part z p) ∷ [])))

  abbrev pub look_all : Telling
  look_all = look z.places (z.home k) []

-- what is told where the key is found, and where it is absent
abbrev pub get_found : Sizes → ℕ → Telling
get_found z p = Read (value_part z p) (λ vs. Tell (Value (word vs 0)) (Seen (key_part z p) ∷ Seen (value_part z p) ∷ []) [])

abbrev pub has_found : Sizes → ℕ → Telling
has_found z p = Tell (Flag true) (Seen (key_part z p) ∷ []) []

abbrev pub change_found : Sizes → Change → ℕ → Telling
change_found z change p = Tell Done (Seen (key_part z p) ∷ []) ((value_part z p, change ∷ []) ∷ [])

-- the changes of the overs before place p on the way of k, from place q on
abbrev pub overs_from : Sizes → ℤ → ℕ → ℤ → ℕ → ℕ → List Entry
overs_from z k p d q zero = []
overs_from z k p d q (suc n) = if before z k q p then (over_part z q, C.Add d ∷ []) ∷ overs_from z k p d (suc q) n else overs_from z k p d (suc q) n

-- the key at place p goes: its stripe has room for one more, its place is no longer live, and one key less passed over the places before
abbrev pub removed : Sizes → ℤ → ℕ → List Entry
removed z k p = (z.stripe k, C.Add (pos 1) ∷ []) ∷ (key_part z p, C.Put (pos 0) ∷ C.Keep ∷ []) ∷ overs_from z k p (negsuc 0) 0 z.places

abbrev pub remove_found : Sizes → ℤ → ℕ → Telling
remove_found z k p = Tell (Flag true) (Seen (key_part z p) ∷ []) (removed z k p)

-- the new key's updates
abbrev pub added : Sizes → ℤ → ℤ → ℕ → ℕ → List Entry
added z k x s p = (s, C.Add (negsuc 0) ∷ []) ∷ (key_part z p, C.Put (pos 1) ∷ C.Put k ∷ []) ∷ (overs_from z k p (pos 1) 0 z.places ++ (value_part z p, C.Put x ∷ []) ∷ [])

module _ (z : Sizes) (k x : ℤ) where
  -- the first place on the way that is not live
  abbrev pub place_walk : ℕ → ℕ → ℕ → List Item → Telling
  place_walk s zero p seen = Tell Absent seen []
  place_walk s (suc left) p seen =
      Read (key_part z p) (λ ws. if is_live ws then place_walk s left (next z.places p) (seen ++ Seen (key_part z p) ∷ []) else Tell Done (seen ++ Seen (key_part z p) ∷ []) (added z k x s p))

  abbrev pub place_from_home : ℕ → List Item → Telling
  place_from_home s seen = place_walk s z.places (z.home k) seen

  -- the first stripe on with room
  abbrev pub room_walk : ℕ → ℕ → List Item → Telling
  room_walk zero s seen = Tell Full seen []
  room_walk (suc left) s seen =
      Read s (λ ws. if int_lt (word ws 0) (pos 1) then room_walk left (next z.stripes s) (seen ++ compared s 0 Lt (pos 1) ∷ []) else place_from_home s (seen ++ compared s 0 Ge (pos 1) ∷ []))

  abbrev pub put_absent : List Item → Telling
  put_absent seen = room_walk z.stripes (z.stripe k) seen

abbrev pub map_telling : Sizes → Operation → ℤ → ℤ → Telling
map_telling z Get k b = look_all z k (get_found z) (λ seen. Tell Absent seen [])
map_telling z Has k b = look_all z k (has_found z) (λ seen. Tell (Flag false) seen [])
map_telling z Set k v = look_all z k (change_found z (C.Put v)) (λ seen. Tell Absent seen [])
map_telling z Add k d = look_all z k (change_found z (C.Add d)) (λ seen. Tell Absent seen [])
map_telling z Remove k b = look_all z k (remove_found z k) (λ seen. Tell (Flag false) seen [])
map_telling z Put k x = look_all z k (change_found z (C.Put x)) (put_absent z k x)
map_telling z o a b = Tell Absent [] []

-- a call that a map takes, with numbers of 64 bits
pub record MapTakes (call : Call) : Type 0 where
  pub object : call.object ≡ 0
  pub third : call.c ≡ pos 0
  pub taken : IsTrue (takes_by call.operation)
  pub fits : FitsSigned w64 call.a
  pub fits_too : FitsSigned w64 call.b

abbrev pub telling : Sizes → Call → Telling
telling z call = map_telling z call.operation call.a call.b

abbrev pub map_meaning : Sizes → Parts → Meaning
map_meaning z opened = meaning_of (map_machine z.keys) (map_widths z) opened (IsMap z) (map_rows z) MapTakes (telling z)
