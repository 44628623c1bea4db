-- The size that is known, and the answers on it.
use Rattle.std.proofs.Common.{◌≡◌, ◌<◌, ◌+◌, ◌^◌, ℕ, ℤ, pos, Some, None, List, [], ◌∷◌, length, slice_index_or, ap, sym, ◌∙◌, subst, arith}
use Rattle.std.specs.Option.{option_map}
use Rattle.sto_model.specs.declared.call.Call.{Call}
use Rattle.sto_type.specs.Known.{Parts, Known, IsPartOf, word_known}
use Rattle.sto_type.specs.Plans.{IsPlan, planned}
use Rattle.sto_type.specs.declared.answer.Answer.{Answer}
use Rattle.sto_type.proofs.FirstWords.{known_word}
use Rattle.sto_array.specs.Arrayed.{place_of}
use Rattle.sto_vector.specs.Vectored.{size_of, IsSize, IsVector, VectorTakes, vector_meaning}
use Rattle.sto_vector.specs.VectoredPlans.{first_plan, vector_plan, first_is, plan_is}

there : (capacity : ℕ) (d : Parts) → IsVector capacity d → 0 < length d
there capacity [] v = let z = v.widths in cc
there capacity (x ∷ d) v = omega arith

-- a size that is known is one
pub known_size : (capacity : ℕ) (k : Known) (d : Parts) (x : ℤ) → IsVector capacity d → IsPartOf k d → word_known (k 0) ≡ Some x → IsSize capacity x
known_size capacity k d x v part e =
    let w : (ws : List ℤ) × (k 0 ≡ Some ws) × (slice_index_or ws 0 (pos 0) ≡ x) = known_word (k 0) x e in
    subst (IsSize capacity) (ap (λ (l : List ℤ). slice_index_or l 0 (pos 0)) (part.same 0 w.0 (there capacity d v) w.1) ∙ w.2) v.sized

module _ (capacity : ℕ) (few : 1 + capacity < 2 ^ 32) (call : Call) (k : Known) (t : VectorTakes call) (answer : Answer) where
  pub first_planned : word_known (k 0) ≡ None → planned answer ≡ first_plan call.operation (place_of capacity call.a) → IsPlan (vector_meaning capacity) call k (planned answer)
  first_planned e p = subst (IsPlan (vector_meaning capacity) call k) (sym p) (first_is capacity few k (ap (option_map size_of) e) call t)

  pub then_planned :
      (n : ℕ) (x : ℤ) → word_known (k 0) ≡ Some x → pos n ≡ x
      → planned answer ≡ vector_plan capacity call.operation (place_of capacity call.a) call.a call.b n (λ p. word_known (k p))
      → IsPlan (vector_meaning capacity) call k (planned answer)
  then_planned n x e is p = subst (IsPlan (vector_meaning capacity) call k) (sym p) (plan_is capacity few k n (ap (option_map size_of) (e ∙ ap Some (sym is))) call t)
