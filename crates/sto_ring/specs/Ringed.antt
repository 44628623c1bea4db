-- What a ring of n places means. Part 0 is the head, part 1 the tail, and part 2 + i place i: whether it is live, and its value.
use Rattle.std.specs.Prelude.{◌≡◌, ◌<◌, ◌≤◌, ◌+◌, ℕ, zero, suc, ℤ, pos, nat_lt, nat_le, nat_eq, Bool, true, false, if◌then◌else◌, Option, Some, None, List, [], ◌∷◌, map, length, replicate, IsTrue}
use Rattle.std.specs.Int.{w64}
use Rattle.std.specs.Int.RustNames.{FitsSigned}
use Rattle.sto_part.specs.Parts.{part_of}
use Rattle.sto_part.specs.declared.change.Change.TheVariants as C
use Rattle.sto_part.specs.declared.pred.Test.TheVariants.{Eq}
use Rattle.sto_item.specs.declared.item.Item.{Item}
use Rattle.sto_item.specs.declared.item.Item.TheVariants.{Seen}
use Rattle.sto_item.specs.Agreement.{word_of}
use Rattle.sto_model.specs.declared.call.Call.{Call}
use Rattle.sto_model.specs.declared.operation.Operation.{Operation}
use Rattle.sto_model.specs.declared.operation.Operation.TheVariants.{Get, Has, Len, Push, Pop}
use Rattle.sto_model.specs.Rows.{Row}
use Rattle.sto_model.specs.PlainReplies.{PlainReply, Done, Value, Flag, Absent, Full}
use Rattle.sto_model.specs.Objects.{Effect, effect, push_effect}
use Rattle.sto_model.specs.SequentialObjects.{SequentialObject}
use Rattle.sto_type.specs.Known.{Parts, ContentsFit}
use Rattle.sto_type.specs.Meaning.{Meaning}
use Rattle.sto_type.specs.Plans.{Plan, Say}
use Rattle.sto_type.specs.Telling.{Telling, Read, Tell}
use Rattle.sto_type.specs.OneObject.{meaning_of}
use Rattle.sto_type.specs.Numbered.{numbered, values_of}
use Rattle.sto_type.specs.Words.{word, compared}
use Rattle.sto_container.specs.Places.{wrapped, next, offset, is_live, natural}
use Rattle.sto_ring.specs.LivePlaces.{size_by}

-- the object as the plain model sees it: the keys are 0 and up, and a pop takes the row 0, so that all others come one nearer
abbrev pub front_of : List Row → PlainReply
front_of [] = Absent
front_of (r ∷ rows) = Value r.1

abbrev pub pop_front : List Row → Effect
pop_front [] = effect Absent []
pop_front (r ∷ rows) = effect (Value r.1) (numbered 0 (values_of rows))

abbrev pub ring_effect : ℕ → Operation → ℤ → ℤ → List Row → Effect
ring_effect n Push v b rows = push_effect (nat_le n (length rows)) v rows
ring_effect n Pop a b rows = pop_front rows
ring_effect n Get a b rows = effect (front_of rows) rows
ring_effect n Has a b rows = effect (Flag (nat_lt 0 (length rows))) rows
ring_effect n Len a b rows = effect (Value (pos (length rows))) rows
ring_effect n o a b rows = effect Absent rows

abbrev pub ring_machine : ℕ → SequentialObject
ring_machine n =
    record {
      opening = [];
      reply = λ operation a b c rows. (ring_effect n operation a b rows).reply;
      after = λ operation a b c rows. (ring_effect n operation a b rows).after;
    }

-- which operations a ring takes: get is front, has is some
abbrev pub takes_by : Operation → Bool
takes_by Push = true
takes_by Pop = true
takes_by Get = true
takes_by Has = true
takes_by Len = true
takes_by o = false

-- 0 or 1
abbrev pub bit : Bool → ℤ
bit true = pos 1
bit false = pos 0

-- the part of a place
abbrev pub place_part : ℕ → ℕ
place_part i = suc (suc i)

-- the values of so many places from place h on
abbrev pub along : ℕ → Parts → ℕ → ℕ → List ℤ
along n c h zero = []
along n c h (suc s) = word (part_of c (place_part h)) 1 ∷ along n c (next n h) s

-- head, tail, size and rows of contents
abbrev pub head_of : Parts → ℕ
head_of c = natural (word_of c 0 0)

abbrev pub tail_of : Parts → ℕ
tail_of c = natural (word_of c 1 0)

abbrev pub size_of : ℕ → Parts → ℕ
size_of n c = size_by n (head_of c) (tail_of c) (is_live (part_of c (place_part (head_of c))))

abbrev pub ring_rows : ℕ → Parts → List Row
ring_rows n c = numbered 0 (along n c (head_of c) (size_of n c))

-- for some size from 0 to n the tail stands so far behind the head, and the live places are those from the head to the tail
pub record IsRing (n : ℕ) (c : Parts) : Type 0 where
  pub widths : map length c ≡ 1 ∷ 1 ∷ replicate n 2
  pub fits : ContentsFit c
  pub first : ℕ
  pub size : ℕ
  pub below : first < n
  pub few : size ≤ n
  pub head : word_of c 0 0 ≡ pos first
  pub tail : word_of c 1 0 ≡ pos (wrapped n (first + size))
  pub lives : (i : ℕ) → i < n → word (part_of c (place_part i)) 0 ≡ bit (nat_lt (offset n first i) size)

-- the same by the sizes, which are the number of places
abbrev pub IsRingOf : List ℕ → Parts → Type 0
IsRingOf [] c = ⊥
IsRingOf (n ∷ sizes) c = IsRing n c

-- a push reads the tail and its place: where that is live there is no room
abbrev pub push_told : ℕ → ℤ → ℕ → Bool → Telling
push_told n v t true = Tell Full (compared 1 0 Eq (pos t) ∷ compared (place_part t) 0 Eq (pos 1) ∷ []) []
push_told n v t false =
    Tell Done (compared 1 0 Eq (pos t) ∷ compared (place_part t) 0 Eq (pos 0) ∷ [])
    ((1, C.Put (pos (next n t)) ∷ []) ∷ (place_part t, C.Put (pos 1) ∷ C.Put v ∷ []) ∷ [])

-- a pop reads the head and its place: where that is not live there is no value
abbrev pub pop_told : ℕ → ℕ → List ℤ → Bool → Telling
pop_told n h ws true =
    Tell (Value (word ws 1)) (compared 0 0 Eq (pos h) ∷ Seen (place_part h) ∷ [])
    ((0, C.Put (pos (next n h)) ∷ []) ∷ (place_part h, C.Put (pos 0) ∷ C.Keep ∷ []) ∷ [])
pop_told n h ws false = Tell Absent (compared 0 0 Eq (pos h) ∷ compared (place_part h) 0 Eq (pos 0) ∷ []) []

abbrev pub front_told : ℕ → List ℤ → Bool → Telling
front_told h ws true = Tell (Value (word ws 1)) (compared 0 0 Eq (pos h) ∷ Seen (place_part h) ∷ []) []
front_told h ws false = Tell Absent (compared 0 0 Eq (pos h) ∷ compared (place_part h) 0 Eq (pos 0) ∷ []) []

abbrev pub some_told : ℕ → Bool → Telling
some_told h live = Tell (Flag live) (compared 0 0 Eq (pos h) ∷ compared (place_part h) 0 Eq (bit live) ∷ []) []

-- a len reads both, and where they are equal the place too
abbrev pub len_told : ℕ → ℕ → ℕ → Bool → Telling
len_told n h t true =
    Read (place_part h)
    (λ ws. Tell (Value (pos (if is_live ws then n else 0))) (compared 0 0 Eq (pos h) ∷ compared 1 0 Eq (pos t) ∷ compared (place_part h) 0 Eq (bit (is_live ws)) ∷ []) [])
len_told n h t false = Tell (Value (pos (offset n h t))) (compared 0 0 Eq (pos h) ∷ compared 1 0 Eq (pos t) ∷ []) []

-- read an end, and the place that it names
abbrev pub at_end : ℕ → (ℕ → List ℤ → Telling) → Telling
at_end p f = Read p (λ es. Read (place_part (natural (word es 0))) (λ ws. f (natural (word es 0)) ws))

abbrev pub ring_telling : ℕ → Operation → ℤ → Telling
ring_telling n Push v = at_end 1 (λ t ws. push_told n v t (is_live ws))
ring_telling n Pop a = at_end 0 (λ h ws. pop_told n h ws (is_live ws))
ring_telling n Get a = at_end 0 (λ h ws. front_told h ws (is_live ws))
ring_telling n Has a = at_end 0 (λ h ws. some_told h (is_live ws))
ring_telling n Len a = Read 0 (λ hs. Read 1 (λ ts. len_told n (natural (word hs 0)) (natural (word ts 0)) (nat_eq (natural (word hs 0)) (natural (word ts 0)))))
ring_telling n o a = Tell Absent [] []

-- what a len says: the size, by both ends, and where it was read by whether the place of the head is live
abbrev pub len_items : ℕ → ℕ → Option Bool → List Item
len_items h t None = compared 0 0 Eq (pos h) ∷ compared 1 0 Eq (pos t) ∷ []
len_items h t (Some live) = compared 0 0 Eq (pos h) ∷ compared 1 0 Eq (pos t) ∷ compared (place_part h) 0 Eq (bit live) ∷ []

abbrev pub len_said : ℕ → ℕ → ℕ → Option Bool → Plan
len_said size h t live = Say (Value (pos size)) (len_items h t live) []

-- a call that a ring takes, with numbers of 64 bits
pub record RingTakes (call : Call) : Type 0 where
  pub object : call.object ≡ 0
  pub third : call.c ≡ pos 0
  pub taken : IsTrue (takes_by call.operation)
  pub fits : FitsSigned w64 call.a
  pub fits_too : FitsSigned w64 call.b

abbrev pub telling : ℕ → Call → Telling
telling n call = ring_telling n call.operation call.a

abbrev pub ring_widths : ℕ → List ℕ
ring_widths n = 1 ∷ 1 ∷ replicate n 2

abbrev pub ring_opened : ℕ → Parts
ring_opened n = (pos 0 ∷ []) ∷ (pos 0 ∷ []) ∷ replicate n (pos 0 ∷ pos 0 ∷ [])

abbrev pub ring_meaning : ℕ → Meaning
ring_meaning n = meaning_of (ring_machine n) (ring_widths n) (ring_opened n) (IsRing n) (ring_rows n) RingTakes (telling n)
