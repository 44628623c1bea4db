-- What is known of the ends of a ring, and the answers on it.
use Rattle.std.proofs.Common.{◌≡◌, ◌<◌, ◌+◌, ◌^◌, ℕ, ℤ, pos, Some, List, length, slice_index_or, ap, sym, ◌∙◌, subst, arith}
use Rattle.std.proofs.lemmas.List.{length-map}
use Rattle.sto_model.specs.declared.call.Call.{Call}
use Rattle.sto_model.specs.declared.operation.Operation.{Operation}
use Rattle.sto_type.specs.Known.{Parts, Known, IsPartOf, word_known}
use Rattle.sto_type.specs.Plans.{Ask, IsPlan, planned}
use Rattle.sto_type.specs.declared.answer.Answer.{Answer}
use Rattle.sto_type.proofs.FirstWords.{known_word}
use Rattle.sto_type.specs.Telling.{Telling, plan_of}
use Rattle.sto_type.specs.OneObjectLaw.{planned_as}
use Rattle.sto_type.specs.Words.{word}
use Rattle.sto_container.specs.Places.{wrapped, wrapped_below}
use Rattle.sto_ring.specs.Ringed.{at_end, ring_machine, ring_widths, ring_opened, ring_rows, ring_telling, telling, IsRing, RingTakes, ring_meaning}
use Rattle.sto_ring.specs.RingedLaw.{ring_type}

module _ (n : ℕ) (k : Known) (d : Parts) (v : IsRing n d) (part : IsPartOf k d) where
  long : 1 < length d
  long = omega (arith, length-map d length, ap length v.widths)

  pub head_known : (ws : List ℤ) → k 0 ≡ Some ws → (i : ℕ) × (word ws 0 ≡ pos i) × (i < n)
  head_known ws e = (v.first, sym (ap (λ xs. word xs 0) (part.same 0 ws (omega (arith, long)) e)) ∙ v.head, v.below)

  pub tail_known : (ws : List ℤ) → k 1 ≡ Some ws → (i : ℕ) × (word ws 0 ≡ pos i) × (i < n)
  tail_known ws e =
      (wrapped n (v.first + v.size), sym (ap (λ xs. word xs 0) (part.same 1 ws long e)) ∙ v.tail, wrapped_below n v.first v.size v.below v.few)

  pub head_number : (x : ℤ) → word_known (k 0) ≡ Some x → (i : ℕ) × (x ≡ pos i) × (i < n)
  head_number x e =
      let w : (ws : List ℤ) × (k 0 ≡ Some ws) × (slice_index_or ws 0 (pos 0) ≡ x) = known_word (k 0) x e in
      let h : (i : ℕ) × (word w.0 0 ≡ pos i) × (i < n) = head_known w.0 w.1 in
      (h.0, sym w.2 ∙ h.1, h.2)

  pub tail_number : (x : ℤ) → word_known (k 1) ≡ Some x → (i : ℕ) × (x ≡ pos i) × (i < n)
  tail_number x e =
      let w : (ws : List ℤ) × (k 1 ≡ Some ws) × (slice_index_or ws 0 (pos 0) ≡ x) = known_word (k 1) x e in
      let h : (i : ℕ) × (word w.0 0 ≡ pos i) × (i < n) = tail_known w.0 w.1 in
      (h.0, sym w.2 ∙ h.1, h.2)

-- a call that reads an end
module _ (n : ℕ) (k : Known) (operation : Operation) (a : ℤ) (o : Operation) (e : operation ≡ o) (p : ℕ) (f : ℕ → List ℤ → Telling) (same : ring_telling n o a ≡ at_end p f) where
  pub asks : (q : ℕ) → ((g : ℕ → List ℤ → Telling) → plan_of (at_end p g) k ≡ Ask q) → Ask q ≡ plan_of (ring_telling n operation a) k
  asks q h = sym (ap (λ x. plan_of (ring_telling n x a) k) e ∙ ap (λ r. plan_of r k) same ∙ h f)

  pub says :
      (answer : Answer) (x : ℕ) (ws : List ℤ) → ((g : ℕ → List ℤ → Telling) → plan_of (at_end p g) k ≡ plan_of (g x ws) k) → ((j : Known) → planned answer ≡ plan_of (f x ws) j)
      → planned answer ≡ plan_of (ring_telling n operation a) k
  says answer x ws found said = said k ∙ sym (ap (λ x. plan_of (ring_telling n x a) k) e ∙ ap (λ r. plan_of r k) same ∙ found f)

-- the answer is what the meaning says
pub answered :
    (n : ℕ) (small : n + 2 < 2 ^ 32) (some : 0 < n) (call : Call) (k : Known) (d : Parts) (t : RingTakes call) (v : IsRing n d) (part : IsPartOf k d) (answer : Answer)
    → planned answer ≡ plan_of (ring_telling n call.operation call.a) k → IsPlan (ring_meaning n) call k (planned answer)
answered n small some call k d t v part answer h =
    subst (IsPlan (ring_meaning n) call k) (sym h) (planned_as (ring_machine n) (ring_widths n) (ring_opened n) (IsRing n) (ring_rows n) RingTakes (telling n) (ring_type n small some) call k d t v part)
