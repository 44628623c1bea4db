-- The answers of a record on what is known.
use Rattle.std.proofs.Common.{◌≡◌, ◌<◌, ℕ, zero, suc, ℤ, Option, Some, None, List, [], ◌∷◌, length, take, drop, slice_get, map, refl, ap, sym, ◌∙◌, subst, arith}
use Rattle.std.specs.Int.{w64}
use Rattle.std.specs.Int.RustNames.{FitsSigned}
use Rattle.sto_part.specs.Parts.{part_of}
use Rattle.sto_model.specs.declared.call.Call.{Call}
use Rattle.sto_model.specs.declared.operation.Operation.{Operation}
use Rattle.sto_model.specs.declared.operation.Operation.TheVariants.{Get, Set, Add, Scan}
use Rattle.sto_type.specs.Known.{Parts, Known, IsPartOf}
use Rattle.sto_type.specs.Plans.{IsPlan, planned}
use Rattle.sto_type.specs.declared.answer.Answer.{Answer}
use Rattle.sto_type.specs.Telling.{plan_of}
use Rattle.sto_type.specs.OneObjectLaw.{planned_as}
use Rattle.sto_type.specs.Numbered.{numbered, index_of}
use Rattle.sto_record.specs.Recorded.{record_machine, record_telling, telling, IsRecord, RecordTakes, record_meaning}
use Rattle.sto_record.specs.RecordedLaw.{record_type}

-- only the one part counts
plan_first : (w : ℕ) (o : Operation) (i : Option ℕ) (b : ℤ) (k : Known) → plan_of (record_telling w o i b) (λ p. k 0) ≡ plan_of (record_telling w o i b) k
plan_first w Scan i b k = refl
plan_first w Get (Some i) b k = refl
plan_first w Get None b k = refl
plan_first w Set (Some i) b k = refl
plan_first w Set None b k = refl
plan_first w Add (Some i) b k = refl
plan_first w Add None b k = refl
plan_first w o i b k = refl

pub answered : (w : ℕ) (first : ℤ) (f : FitsSigned w64 first) (call : Call) (k : Known) (d : Parts) (t : RecordTakes call) (v : IsRecord w d) (part : IsPartOf k d) (words : Option (List ℤ)) (answer : Answer)
    → k 0 ≡ words → planned answer ≡ plan_of (record_telling w call.operation (index_of w call.a) call.b) (λ p. words)
    → IsPlan (record_meaning w first) call k (planned answer)
answered w first f call k d t v part words answer e h =
    let same : planned answer ≡ plan_of (telling w call) k =
    h ∙ ap (λ o. plan_of (record_telling w call.operation (index_of w call.a) call.b) (λ p. o)) (sym e) ∙ plan_first w call.operation (index_of w call.a) call.b k in
    subst (IsPlan (record_meaning w first) call k) (sym same)
    (planned_as (record_machine w first) (w ∷ []) (record_meaning w first).opened (IsRecord w) (λ c. numbered 0 (part_of c 0)) RecordTakes (telling w) (record_type w first f) call k d t v part)

heads : (x y : ℕ) (xs ys : List ℕ) → x ∷ xs ≡ y ∷ ys → (x ≡ y) × (xs ≡ ys)
heads x y xs ys e = (cc, cc)

-- the part is as wide as the record
pub wide : (w : ℕ) (d : Parts) → IsRecord w d → (0 < length d) × (length (part_of d 0) ≡ w)
wide w [] v = let e = v.widths in cc
wide w (ws ∷ d) v = (omega arith, (heads (length ws) w (map length d) [] v.widths).0)

pub known_wide : (w : ℕ) (k : Known) (d : Parts) (ws : List ℤ) → IsRecord w d → IsPartOf k d → k 0 ≡ Some ws → length ws ≡ w
known_wide w k d ws v part e = ap length (sym (part.same 0 ws (wide w d v).0 e)) ∙ (wide w d v).1

-- the part of a record among others
first_of : (first : ℕ) (c : Parts) (ws : List ℤ) → slice_get c first ≡ Some ws → part_of (take 1 (drop first c)) 0 ≡ ws
first_of zero [] ws e = cc
first_of (suc first) [] ws e = cc
first_of zero (x ∷ c) ws e = cc
first_of (suc first) (x ∷ c) ws e = first_of first c ws e

there : (first : ℕ) (c : Parts) → 0 < length (take 1 (drop first c)) → first < length c
there zero [] l = l
there (suc first) [] l = absurd (omega (arith, l))
there zero (x ∷ c) l = omega arith
there (suc first) (x ∷ c) l = let r : first < length c = there first c l in omega (arith, r)

module _ (w first : ℕ) (c : Parts) (v : IsRecord w (take 1 (drop first c))) where
  pub in_range : first < length c
  in_range = there first c (wide w (take 1 (drop first c)) v).0

  pub part_wide : (ws : List ℤ) → slice_get c first ≡ Some ws → length ws ≡ w
  part_wide ws e = ap length (sym (first_of first c ws e)) ∙ (wide w (take 1 (drop first c)) v).1

  pub rows_are : (ws : List ℤ) → slice_get c first ≡ Some ws → numbered 0 ws ≡ numbered 0 (part_of (take 1 (drop first c)) 0)
  rows_are ws e = ap (numbered 0) (sym (first_of first c ws e))
