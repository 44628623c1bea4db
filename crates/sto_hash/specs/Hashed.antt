-- What a hash table means. It has so many buckets, each a block of so many places.
use Rattle.std.specs.Prelude.{◌≡◌, ◌<◌, ◌+◌, ◌*◌, ℕ, zero, suc, ℤ, pos, negsuc, true, if◌then◌else◌, Option, Some, None, List, [], ◌∷◌, ◌++◌, map, length, replicate, count_by, IsTrue}
use Rattle.std.specs.Int.{w64}
use Rattle.std.specs.Int.RustNames.{FitsSigned}
use Rattle.sto_part.specs.Parts.{part_of, zeros}
use Rattle.sto_part.specs.declared.change.Change.TheVariants.{Keep, Put as PutWord}
use Rattle.sto_part.specs.declared.pred.Pred.{Pred}
use Rattle.sto_part.specs.declared.pred.Test.TheVariants.{Eq}
use Rattle.sto_item.specs.declared.item.Item.{Item}
use Rattle.sto_item.specs.declared.item.Item.TheVariants.{Seen, Holds}
use Rattle.sto_item.specs.Pending.{Entry}
use Rattle.sto_item.specs.Agreement.{word_of}
use Rattle.sto_model.specs.declared.call.Call.{Call}
use Rattle.sto_model.specs.declared.operation.Operation.{Operation}
use Rattle.sto_model.specs.declared.operation.Operation.TheVariants.{Get, Put, Remove, Has, Len}
use Rattle.sto_model.specs.declared.shape.Shape.TheVariants.{Hash}
use Rattle.sto_model.specs.Rows.{Row, with_row, bucket_of}
use Rattle.sto_model.specs.PlainReplies.{PlainReply, Done, Full}
use Rattle.sto_model.specs.Objects.{machine_of, takes}
use Rattle.sto_type.specs.Known.{Parts, Known, ContentsFit}
use Rattle.sto_type.specs.Meaning.{Meaning}
use Rattle.sto_block.specs.Blocks.{Place, places_of, is_present, find, free, AreApart}
use Rattle.sto_block.specs.Replaced.{place_changes}

-- the number of a key's bucket
abbrev pub number_of : ℤ → ℕ
number_of (pos n) = n
number_of (negsuc n) = 0

abbrev pub bucket_number : ℕ → ℤ → ℕ
bucket_number buckets k = number_of (bucket_of buckets k)

-- the key part of a bucket, and of a key; the value part of its place i
abbrev pub bucket_part : ℕ → ℕ → ℕ
bucket_part places b = b * (1 + places)

abbrev pub key_part : ℕ → ℕ → ℤ → ℕ
key_part buckets places k = bucket_part places (bucket_number buckets k)

abbrev pub value_part : ℕ → ℕ → ℕ
value_part p i = p + 1 + i

-- the widths of a bucket's parts, and of those of n buckets
abbrev pub bucket_widths : ℕ → List ℕ
bucket_widths places = 2 * places ∷ replicate places 1

abbrev pub hash_widths : ℕ → ℕ → List ℕ
hash_widths zero places = []
hash_widths (suc n) places = bucket_widths places ++ hash_widths n places

-- each of n parts is of the one object
abbrev pub homes_from : ℕ → ℕ → List (ℕ × ℕ)
homes_from i zero = []
homes_from i (suc n) = (0, i) ∷ homes_from (suc i) n

-- the pairs of places whose values stand from part q on
abbrev pub place_pairs : Parts → ℕ → List Place → List Row
place_pairs c q [] = []
place_pairs c q (s ∷ ss) = if is_present s then (s.1, word_of c q 0) ∷ place_pairs c (suc q) ss else place_pairs c (suc q) ss

-- those of the block whose key part is p
abbrev pub block_pairs : Parts → ℕ → List Row
block_pairs c p = place_pairs c (p + 1) (places_of (part_of c p))

-- those of n buckets from the bucket b on
abbrev pub pairs_from : ℕ → Parts → ℕ → ℕ → List Row
pairs_from places c b zero = []
pairs_from places c b (suc n) = block_pairs c (bucket_part places b) ++ pairs_from places c (suc b) n

-- pairs in rising key order; of two with one key the first counts
abbrev pub rows_of : List Row → List Row
rows_of [] = []
rows_of (r ∷ rs) = with_row (rows_of rs) r.0 r.1

-- each present key has the bucket b
abbrev pub AreOfBucket : ℕ → ℕ → List Place → Type 0
AreOfBucket buckets b [] = Unit {0}
AreOfBucket buckets b (s ∷ ss) = (is_present s ≡ true → bucket_of buckets s.1 ≡ pos b) × AreOfBucket buckets b ss

-- the places of the bucket b: each present word is 0 or 1, no key is present twice, and the keys are of this bucket
pub record IsBucket (buckets b : ℕ) (ss : List Place) : Type 0 where
  pub apart : AreApart ss
  pub own : AreOfBucket buckets b ss

-- valid contents
pub record IsHash (buckets places : ℕ) (c : Parts) : Type 0 where
  pub widths : map length c ≡ hash_widths buckets places
  pub fits : ContentsFit c
  pub each : (b : ℕ) → b < buckets → IsBucket buckets b (places_of (part_of c (bucket_part places b)))

-- a call that a hash table takes, with numbers of 64 bits
pub record HashTakes (buckets : ℕ) (call : Call) : Type 0 where
  pub object : call.object ≡ 0
  pub third : call.c ≡ pos 0
  pub taken : IsTrue (takes (Hash buckets 0) call.operation call.a)
  pub fits : FitsSigned w64 call.a
  pub fits_too : FitsSigned w64 call.b

-- the words of a part that is known
abbrev pub words_known : Option (List ℤ) → List ℤ
words_known None = []
words_known (Some ws) = ws

-- the part, where it is not known
abbrev pub asked : ℕ → Option (List ℤ) → Option ℕ
asked p None = Some p
asked p (Some ws) = None

-- the part p where it is not known, else the rest
abbrev pub asked_or : ℕ → Option (List ℤ) → Option ℕ → Option ℕ
asked_or p None rest = Some p
asked_or p (Some ws) rest = rest

-- the first key part of n buckets from b on that is not known
abbrev pub first_asked : ℕ → Known → ℕ → ℕ → Option ℕ
first_asked places k b zero = None
first_asked places k b (suc n) = asked_or (bucket_part places b) (k (bucket_part places b)) (first_asked places k (suc b) n)

-- the value part of a place that was found, where it is not known
abbrev pub value_asked : ℕ → Option ℕ → Known → Option ℕ
value_asked p None k = None
value_asked p (Some i) k = asked (value_part p i) (k (value_part p i))

-- a get needs the key part, and then the value part of a key that is there
abbrev pub get_asked : ℕ → ℤ → Option (List ℤ) → Known → Option ℕ
get_asked p key None k = Some p
get_asked p key (Some ws) k = value_asked p (find ws key) k

-- put, remove and has need the key part; len needs all key parts
abbrev pub hash_need : ℕ → ℕ → Operation → ℤ → Known → Option ℕ
hash_need buckets places Get key k = get_asked (key_part buckets places key) key (k (key_part buckets places key)) k
hash_need buckets places Put key k = asked (key_part buckets places key) (k (key_part buckets places key))
hash_need buckets places Remove key k = asked (key_part buckets places key) (k (key_part buckets places key))
hash_need buckets places Has key k = asked (key_part buckets places key) (k (key_part buckets places key))
hash_need buckets places Len key k = first_asked places k 0 buckets
hash_need buckets places o key k = None

-- the word w of the part p is x
abbrev pub word_is : ℕ → ℕ → ℤ → Pred
word_is p w x = record { part = p; word = w; shift = pos 0; test = Eq; bound = x }

-- place i of the block whose key part is p is present and has the key k
abbrev pub here : ℕ → ℕ → ℤ → List Item
here p i k = Holds (word_is p (2 * i) (pos 1)) ∷ Holds (word_is p (2 * i + 1) k) ∷ []

-- a key that is there observes its place; one that is not, the whole key part
abbrev pub find_items : ℕ → ℤ → Option ℕ → List Item
find_items p k (Some i) = here p i k
find_items p k None = Seen p ∷ []

-- a get of a key that is there observes the value part too
abbrev pub get_items : ℕ → ℤ → Option ℕ → List Item
get_items p k (Some i) = here p i k ++ Seen (value_part p i) ∷ []
get_items p k None = Seen p ∷ []

-- each key part of n buckets from b on
abbrev pub all_seen : ℕ → ℕ → ℕ → List Item
all_seen places b zero = []
all_seen places b (suc n) = Seen (bucket_part places b) ∷ all_seen places (suc b) n

abbrev pub found_known : ℕ → ℕ → ℤ → Known → Option ℕ
found_known buckets places key k = find (words_known (k (key_part buckets places key))) key

abbrev pub hash_items : ℕ → ℕ → Operation → ℤ → Known → List Item
hash_items buckets places Get key k = get_items (key_part buckets places key) key (found_known buckets places key k)
hash_items buckets places Put key k = find_items (key_part buckets places key) key (found_known buckets places key k)
hash_items buckets places Remove key k = find_items (key_part buckets places key) key (found_known buckets places key k)
hash_items buckets places Has key k = find_items (key_part buckets places key) key (found_known buckets places key k)
hash_items buckets places Len key k = all_seen places 0 buckets
hash_items buckets places o key k = []

-- a put over a key puts its value; one of a new key takes the lowest free place, if there is one
abbrev pub new_updates : ℕ → ℕ → ℤ → ℤ → Option ℕ → List Entry
new_updates places p k v None = []
new_updates places p k v (Some i) = (p, place_changes places i (PutWord (pos 1)) (PutWord k)) ∷ (value_part p i, PutWord v ∷ []) ∷ []

abbrev pub put_updates : ℕ → ℕ → ℤ → ℤ → Option ℕ → Option ℕ → List Entry
put_updates places p k v (Some i) room = (value_part p i, PutWord v ∷ []) ∷ []
put_updates places p k v None room = new_updates places p k v room

-- a put answers that there is no room where the key is not there and no place is free
abbrev pub put_told : Option ℕ → Option ℕ → PlainReply
put_told (Some i) room = Done
put_told None (Some i) = Done
put_told None None = Full

-- a remove of a key that is there makes its place one that is not present
abbrev pub remove_updates : ℕ → ℕ → Option ℕ → List Entry
remove_updates places p (Some i) = (p, place_changes places i (PutWord (pos 0)) Keep) ∷ []
remove_updates places p None = []

abbrev pub keys_of : ℕ → ℕ → ℤ → Parts → List ℤ
keys_of buckets places key c = part_of c (key_part buckets places key)

abbrev pub hash_updates : ℕ → ℕ → Operation → ℤ → ℤ → Parts → List Entry
hash_updates buckets places Put key v c =
    put_updates places (key_part buckets places key) key v (find (keys_of buckets places key c) key) (free (keys_of buckets places key c))
hash_updates buckets places Remove key v c = remove_updates places (key_part buckets places key) (find (keys_of buckets places key c) key)
hash_updates buckets places o key v c = []

-- how many keys are present in n key parts from the bucket b on, where these are known
abbrev pub known_total : ℕ → Known → ℕ → ℕ → ℕ
known_total places k b zero = 0
known_total places k b (suc n) = count_by is_present (places_of (words_known (k (bucket_part places b)))) + known_total places k (suc b) n

-- the contents are valid for the sizes: how many buckets, and how many places in each
abbrev pub IsHashOf : List ℕ → Parts → Type 0
IsHashOf [] c = ⊥
IsHashOf (buckets ∷ []) c = ⊥
IsHashOf (buckets ∷ places ∷ sizes) c = IsHash buckets places c

-- the pairs put into rows, the last first
abbrev pub rows_onto : List Row → List Row → List Row
rows_onto [] rows = rows
rows_onto (r ∷ rs) rows = with_row (rows_onto rs rows) r.0 r.1

abbrev pub hash_meaning : ℕ → ℕ → Meaning
hash_meaning buckets places = record {
  machines = machine_of (Hash buckets places) ∷ [];
  widths = hash_widths buckets places;
  homes = homes_from 0 (buckets * (1 + places));
  opened = zeros (hash_widths buckets places);
  valid = IsHash buckets places;
  rows = λ c. rows_of (pairs_from places c 0 buckets) ∷ [];
  takes = HashTakes buckets;
  need = λ call k. hash_need buckets places call.operation call.a k;
  items = λ call k. hash_items buckets places call.operation call.a k;
  updates = λ call c. hash_updates buckets places call.operation call.a call.b c;
}
