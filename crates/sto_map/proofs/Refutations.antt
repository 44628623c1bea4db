-- Wrong answers of a map, which its definitions refuse.
use Rattle.std.proofs.Common.{◌≡◌, ◌<◌, ℕ, zero, suc, ℤ, pos, nat_le, Bool, true, false, not, ◌&&◌, if◌then◌else◌, List, [], ◌∷◌, length, refl, arith, ap, sym, ◌∙◌}
use Rattle.std.proofs.lemmas.Bool.Decides.{nat_tests}
use Rattle.std.specs.Int.{w64}
use Rattle.std.specs.Int.RustNames.{FitsSigned}
use Rattle.sto_part.specs.Parts.{part_of}
use Rattle.sto_part.specs.declared.change.Change.TheVariants.{Put, Add, Keep}
use Rattle.sto_model.specs.declared.operation.Operation.TheVariants as O
use Rattle.sto_model.specs.Calls.{call_of}
use Rattle.sto_model.specs.Rows.{Row, has_key, with_row}
use Rattle.sto_model.specs.PlainReplies.{Done, Full, Absent}
use Rattle.sto_model.specs.Objects.{effect, put_effect}
use Rattle.sto_model.specs.SequentialObjects.{reply_to}
use Rattle.sto_type.specs.Known.{Parts}
use Rattle.sto_type.specs.Meaning.{Meaning, IsUpdated}
use Rattle.sto_type.specs.Telling.{Telling, Tell}
use Rattle.sto_type.specs.OneObject.{IsTold}
use Rattle.sto_type.specs.Words.{word}
use Rattle.sto_container.specs.Places.{is_live}
use Rattle.sto_map.specs.Counts.{total, one}
use Rattle.sto_map.specs.Mapped.{Sizes, IsMap, IsNatural, key_part, over_part, passes, look_all, get_found, map_meaning}

-- a put is not answered that the map is full where one key fewer than it may hold is held, or fewer still
module _ (z : Sizes) (opened : Parts) (rows : List Row) (k v : ℤ) (room : length rows < z.keys) where
  not_full : nat_le z.keys (length rows) ≡ false
  not_full = grind (arith, nat_tests)

  by_key : (b : Bool) → (if not b && false then effect Full rows else effect Done (with_row rows k v)).reply ≡ Done
  by_key true = refl
  by_key false = refl

  done : reply_to (map_meaning z opened).machines (call_of 0 O.Put k v) (rows ∷ []) ≡ Done
  done = ap (λ b. (put_effect b k v rows).reply) not_full ∙ by_key (has_key rows k)

  pub not_full_with_room : reply_to (map_meaning z opened).machines (call_of 0 O.Put k v) (rows ∷ []) ≡ Full → ⊥
  not_full_with_room e = other (sym done ∙ e)
    where
      other : Done ≡ Full → ⊥
      other f = cc

-- maps of one place: its room, its key part, its over and its value
abbrev one_place : Sizes
one_place = record { keys = 1; places = 1; stripes = 1; home = λ k. 0; stripe = λ k. 0 }

abbrev empty : Parts
empty = (pos 1 ∷ []) ∷ (pos 0 ∷ pos 0 ∷ []) ∷ (pos 0 ∷ []) ∷ (pos 0 ∷ []) ∷ []

abbrev held : Parts
held = (pos 0 ∷ []) ∷ (pos 1 ∷ pos 7 ∷ []) ∷ (pos 0 ∷ []) ∷ (pos 5 ∷ []) ∷ []

abbrev m : Meaning
m = map_meaning one_place empty

number_fits : (i : ℕ) → i < 8 → FitsSigned w64 (pos i)
number_fits i l = record { sfits = omega (arith, l) }

held_bits : (p : ℕ) → p < 1 → word (part_of held (key_part one_place p)) 0 ≡ pos (one (is_live (part_of held (key_part one_place p))))
held_bits zero l = refl
held_bits (suc p) l = absurd (omega (arith, l))

held_overs : (q : ℕ) → q < 1 → word (part_of held (over_part one_place q)) 0 ≡ pos (total 1 (passes one_place held q))
held_overs zero l = refl
held_overs (suc q) l = absurd (omega (arith, l))

held_rooms : (s : ℕ) → s < 1 → IsNatural (word (part_of held s) 0)
held_rooms zero l = tt
held_rooms (suc s) l = absurd (omega (arith, l))

held_valid : IsMap one_place held
held_valid = record {
  widths = refl;
  fits = ((number_fits 0 (omega arith), tt), ((number_fits 1 (omega arith), (number_fits 7 (omega arith), tt)), ((number_fits 0 (omega arith), tt), ((number_fits 5 (omega arith), tt), tt))));
  bits = held_bits;
  once = λ p q k l d f g. omega (arith, l, d);
  overs = held_overs;
  natural_rooms = held_rooms;
  counted = refl;
}

-- a get of an absent key that observes nothing
abbrev looks_without_items : ℤ → Telling
looks_without_items k = look_all one_place k (get_found one_place) (λ seen. Tell Absent [] [])

pub absent_key_is_observed : IsTold m (call_of 0 O.Get (pos 7) (pos 0)) (looks_without_items (pos 7)) empty → ⊥
absent_key_is_observed t = let e = t.same_told held held_valid tt in cc

-- two keys of one home: the second passed over the place of the first
abbrev two_places : Sizes
two_places = record { keys = 2; places = 2; stripes = 1; home = λ k. 0; stripe = λ k. 0 }

abbrev both_held : Parts
both_held = (pos 0 ∷ []) ∷ (pos 1 ∷ pos 7 ∷ []) ∷ (pos 1 ∷ pos 8 ∷ []) ∷ (pos 1 ∷ []) ∷ (pos 0 ∷ []) ∷ (pos 5 ∷ []) ∷ (pos 6 ∷ []) ∷ []

-- a remove of the second that leaves the over of the first place as it is
pub remove_counts_down : (opened : Parts) → IsUpdated (map_meaning two_places opened) (call_of 0 O.Remove (pos 8) (pos 0)) both_held ((0, Add (pos 1) ∷ []) ∷ (2, Put (pos 0) ∷ Keep ∷ []) ∷ []) → ⊥
remove_counts_down opened u = let e = u.valid.overs 0 (omega arith) in cc
