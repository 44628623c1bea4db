-- What fit shapes mean is lawful, where their first values are of 64 bits.
use Rattle.std.specs.Prelude.{map, nat_eq}
use Rattle.std.specs.Int.{w64}
use Rattle.std.specs.Int.RustNames.{FitsSigned}
use Rattle.std.specs.List.{All}
use Rattle.std.proofs.Common.{◌≡◌, ◌≤◌, ℕ, pos, List, [], ◌∷◌, refl, ap, arith, Bool, true, false, cond}
use Rattle.std.proofs.lemmas.List.Elements.{All-nil, All-cons, All-head, All-tail}
use Rattle.sto_model.specs.declared.shape.Shape.{Shape}
use Rattle.sto_model.specs.declared.shape.Shape.TheVariants.{Single, Counter, Array, Hash, Tree, Vector}
use Rattle.sto_part.specs.Codes.{IsSignedCode}
use Rattle.sto_type.specs.Meaning.{IsLawful}
use Rattle.sto_type.specs.Joined.{all_joined}
use Rattle.sto_type.specs.JoinedLaw.{all_lawful}
use Rattle.sto_box.specs.BoxedLaw.{box_lawful, box_opened}
use Rattle.sto_counter.specs.CountedLaw.{counter_lawful}
use Rattle.sto_array.specs.ArrayedLaw.{array_lawful}
use Rattle.sto_hash.specs.HashedLaw.{hash_lawful}
use Rattle.sto_tree.specs.Lawful.{tree_is_lawful}
use Rattle.sto_vector.specs.VectoredLaw.{vector_lawful}
use Rattle.sto_model.specs.Sizes.{rank}
use Rattle.sto_store.specs.Stores.{of_kind, mean_of, means, means_of, IsFit, AreFit}
use Rattle.sto_store.proofs.Built.{means_lawful, kind_lawful}

-- the value that a shape opens with is of 64 bits
abbrev pub OpensFit : Shape → Type 0
OpensFit (Single value) = FitsSigned w64 value
OpensFit (Counter value) = FitsSigned w64 value
OpensFit (Array len value) = FitsSigned w64 value
OpensFit (Hash buckets places) = Unit {0}
OpensFit (Tree leaves) = Unit {0}
OpensFit (Vector capacity) = Unit {0}

-- a shape that an object can have
abbrev IsGood : Shape → Type 0
IsGood s = IsFit s × OpensFit s

mean_lawful : (s : Shape) → IsGood s → IsLawful (mean_of s)
mean_lawful (Single v) h =
    let bounds : (1 ≤ 1) × (1 ≤ 2) = (omega arith, omega arith) in
    box_lawful 1 IsSignedCode (v ∷ []) bounds (box_opened 1 IsSignedCode v (pos 0) bounds h.1 (record { sfits = omega arith }) ∣ tt ∣₁)
mean_lawful (Counter v) h = counter_lawful v h.1
mean_lawful (Array len v) h = array_lawful len v h.1
mean_lawful (Hash buckets places) h = hash_lawful buckets places h.0.0
mean_lawful (Tree leaves) h = tree_is_lawful leaves h.0.0 h.0.1
mean_lawful (Vector capacity) h = vector_lawful capacity h.0

good : (ss : List Shape) → AreFit ss → All OpensFit ss → All IsGood ss
good [] f o = All-nil IsGood
good (s ∷ ss) f o = All-cons IsGood s ss (f.0, All-head OpensFit s ss o) (good ss f.1 (All-tail OpensFit s ss o))

good_kind : (r : ℕ) (ss : List Shape) → All IsGood ss → All IsGood (of_kind r ss)
good_kind r [] h = All-nil IsGood
good_kind r (s ∷ ss) h = by (nat_eq (rank s) r) (good_kind r ss (All-tail IsGood s ss h))
  where
    by : (b : Bool) → All IsGood (of_kind r ss) → All IsGood (cond b (s ∷ of_kind r ss) (of_kind r ss))
    by true more = All-cons IsGood s (of_kind r ss) (All-head IsGood s ss h) more
    by false more = more

-- each with what makes it good
abbrev with_reasons : (ss : List Shape) → All IsGood ss → List ((s : Shape) × IsGood s)
with_reasons [] h = []
with_reasons (s ∷ ss) h = (s, All-head IsGood s ss h) ∷ with_reasons ss (All-tail IsGood s ss h)

without_reasons : (ss : List Shape) (h : All IsGood ss) → map (λ x. x.0) (with_reasons ss h) ≡ ss
without_reasons [] h = refl
without_reasons (s ∷ ss) h = ap (λ l. s ∷ l) (without_reasons ss (All-tail IsGood s ss h))

module _ (ss : List Shape) (fit : AreFit ss) (opens : All OpensFit ss) where
  kind : (r : ℕ) → IsLawful (all_joined (means_of r ss))
  kind r =
      let reasons : All IsGood (of_kind r ss) = good_kind r ss (good ss fit opens) in
      kind_lawful r ss (λ x. x.0) (with_reasons (of_kind r ss) reasons) (without_reasons (of_kind r ss) reasons)
      (all_lawful (λ x. mean_of x.0) (λ x. mean_lawful x.0 x.1) (with_reasons (of_kind r ss) reasons))

  pub fit_lawful : IsLawful (means ss)
  fit_lawful = means_lawful ss (kind 0) (kind 1) (kind 2) (kind 3) (kind 4) (kind 5)
