-- Wrong answers of a ring, which its definitions refuse.
use Rattle.std.proofs.Common.{◌≡◌, ◌<◌, ℕ, zero, suc, ℤ, pos, nat_lt, nat_le, false, if◌then◌else◌, List, [], ◌∷◌, length, refl, arith, ap, sym, ◌∙◌}
use Rattle.std.proofs.lemmas.Bool.Decides.{nat_tests}
use Rattle.std.specs.Int.{w64}
use Rattle.std.specs.Int.RustNames.{FitsSigned}
use Rattle.sto_part.specs.Parts.{part_of}
use Rattle.sto_part.specs.declared.change.Change.TheVariants.{Put}
use Rattle.sto_part.specs.declared.pred.Test.TheVariants.{Eq}
use Rattle.sto_model.specs.declared.call.Call.{Call}
use Rattle.sto_model.specs.declared.operation.Operation.TheVariants.{Push, Pop}
use Rattle.sto_model.specs.Calls.{call_of}
use Rattle.sto_model.specs.Rows.{Row}
use Rattle.sto_model.specs.PlainReplies.{Done, Full}
use Rattle.sto_model.specs.Objects.{push_effect}
use Rattle.sto_model.specs.SequentialObjects.{reply_to}
use Rattle.sto_type.specs.Known.{Parts}
use Rattle.sto_type.specs.Meaning.{Meaning, IsUpdated}
use Rattle.sto_type.specs.Telling.{Telling, Tell}
use Rattle.sto_type.specs.OneObject.{IsTold}
use Rattle.sto_type.specs.Words.{word, compared, is_equal}
use Rattle.sto_container.specs.Places.{next, offset, is_live}
use Rattle.sto_ring.specs.Ringed.{at_end, bit, place_part, IsRing, ring_meaning}

abbrev push : ℤ → Call
push v = call_of 0 Push v (pos 0)

abbrev pop : Call
pop = call_of 0 Pop (pos 0) (pos 0)

-- a push is not answered that the ring is full where one value fewer than places are held, or fewer still
module _ (n : ℕ) (rows : List Row) (v : ℤ) (room : length rows < n) where
  not_full : nat_le n (length rows) ≡ false
  not_full = grind (arith, nat_tests)

  done : reply_to (ring_meaning n).machines (push v) (rows ∷ []) ≡ Done
  done = ap (λ b. (push_effect b v rows).reply) not_full

  pub not_full_with_room : reply_to (ring_meaning n).machines (push v) (rows ∷ []) ≡ Full → ⊥
  not_full_with_room e = other (sym done ∙ e)
    where
      other : Done ≡ Full → ⊥
      other f = cc

-- rings of one place: head and tail name it, and it is live or not
abbrev m : Meaning
m = ring_meaning 1

abbrev empty : Parts
empty = (pos 0 ∷ []) ∷ (pos 0 ∷ []) ∷ (pos 0 ∷ pos 0 ∷ []) ∷ []

abbrev full : Parts
full = (pos 0 ∷ []) ∷ (pos 0 ∷ []) ∷ (pos 1 ∷ pos 0 ∷ []) ∷ []

zero_fits : FitsSigned w64 (pos 0)
zero_fits = record { sfits = omega arith }

one_fits : FitsSigned w64 (pos 1)
one_fits = record { sfits = omega arith }

full_lives : (i : ℕ) → i < 1 → word (part_of full (place_part i)) 0 ≡ bit (nat_lt (offset 1 0 i) 1)
full_lives zero l = refl
full_lives (suc i) l = absurd (omega (arith, l))

full_valid : IsRing 1 full
full_valid = record {
  widths = refl;
  fits = ((zero_fits, tt), ((zero_fits, tt), ((one_fits, (zero_fits, tt)), tt)));
  first = 0;
  size = 1;
  below = omega arith;
  few = omega arith;
  head = refl;
  tail = refl;
  lives = full_lives;
}

-- a push that reads its place, and observes the tail alone
abbrev looks_at_the_tail : ℤ → Telling
looks_at_the_tail v =
    at_end 1
    (λ t ws. if is_live ws then Tell Full (compared 1 0 Eq (pos t) ∷ []) [] else Tell Done (compared 1 0 Eq (pos t) ∷ [])
    ((1, Put (pos (next 1 t)) ∷ []) ∷ (place_part t, Put (pos 1) ∷ Put v ∷ []) ∷ []))

pub push_observes_its_place : (v : ℤ) → IsTold m (push v) (looks_at_the_tail v) empty → ⊥
push_observes_its_place v t = let e = t.same_told full full_valid (is_equal full 1 0 (pos 0) full_valid.fits refl, tt) in cc

-- a pop that moves the head on and leaves its place live
pub pop_frees_its_place : IsUpdated m pop full ((0, Put (pos 0) ∷ []) ∷ []) → ⊥
pop_frees_its_place u = let e = u.rows in cc
