-- A push and a pop read no part that both read, where there is a value and there is room.
use Rattle.std.specs.Prelude.{◌≡◌, ◌<◌, ◌+◌, ◌⊎◌, ℕ, ℤ}
use Rattle.std.proofs.Common.{sym, ◌∙◌, arith, inl, inr}
use Rattle.sto_part.specs.Parts.{part_of}
use Rattle.sto_model.specs.declared.operation.Operation.TheVariants.{Push, Pop}
use Rattle.sto_type.specs.Known.{Parts}
use Rattle.sto_type.specs.Reading.{IsRead}
use Rattle.sto_type.specs.Telling.{reading_of}
use Rattle.sto_container.specs.Places.{wrapped, is_live}
use Rattle.sto_ring.specs.LivePlaces.{ends_apart}
use Rattle.sto_ring.specs.Ringed.{place_part, head_of, tail_of, ring_telling, IsRing}
use Rattle.sto_ring.specs.RingedRows.{head_is, tail_is}
use Rattle.sto_ring.specs.RingedLaw.{no_push, no_pop}

module _ (n : ℕ) (c : Parts) (q : ℕ) where
  -- a push reads the tail and the place that it names
  pub push_reads : (v : ℤ) → IsRead (reading_of (ring_telling n Push v)) c q → (q ≡ 1) ⊎ (q ≡ place_part (tail_of c))
  push_reads v (inl e) = inl (sym e)
  push_reads v (inr (inl e)) = inr (sym e)
  push_reads v (inr (inr r)) = absurd (no_push n (tail_of c) v (is_live (part_of c (place_part (tail_of c)))) c q r)

  -- a pop reads the head and the place that it names
  pub pop_reads : (a : ℤ) → IsRead (reading_of (ring_telling n Pop a)) c q → (q ≡ 0) ⊎ (q ≡ place_part (head_of c))
  pop_reads a (inl e) = inl (sym e)
  pop_reads a (inr (inl e)) = inr (sym e)
  pop_reads a (inr (inr r)) = absurd (no_pop n (head_of c) (part_of c (place_part (head_of c))) (is_live (part_of c (place_part (head_of c)))) c q r)

  pub push_and_pop_apart :
      (valid : IsRing n c) → 0 < valid.size → valid.size < n → (v a : ℤ) → IsRead (reading_of (ring_telling n Push v)) c q → IsRead (reading_of (ring_telling n Pop a)) c q → ⊥
  push_and_pop_apart valid some room v a pushed popped =
      let differ : wrapped n (valid.first + valid.size) ≡ valid.first → ⊥ = ends_apart n valid.first valid.size valid.below some room in
      let head : head_of c ≡ valid.first = head_is n c valid in
      let tail : tail_of c ≡ wrapped n (valid.first + valid.size) = tail_is n c valid in
      elim (push_reads v pushed) [
        | inl one ↦ elim (pop_reads a popped) [ inl zero ↦ omega (arith, one, zero) | inr place ↦ omega (arith, one, place) ]
        | inr last ↦ elim (pop_reads a popped) [
          | inl zero ↦ omega (arith, last, zero)
          | inr place ↦
              let same : tail_of c ≡ head_of c = omega (arith, last, place) in
              differ (sym tail ∙ same ∙ head)
        ]
      ]
