-- The parts that calls may touch stay so, and are in range.
use Rattle.std.proofs.Common.{◌<◌, ℕ, List, [], ◌∷◌, ◌++◌, length, ap, arith, inl, inr}
use Rattle.std.proofs.lemmas.List.{length-map}
use Rattle.sto_model.specs.declared.body.Next.TheVariants.{Ask, Commit, Cancel}
use Rattle.sto_model.specs.declared.body.Next.{Next}
use Rattle.sto_model.specs.PlainReplies.{PlainReply}
use Rattle.sto_model.specs.Run.{Behaviour}
use Rattle.sto_type.specs.Known.{Parts}
use Rattle.sto_type.specs.Meaning.{Meaning, IsLawful}
use Rattle.sto_type.specs.Touching.{NextTouches, HasTouched}
use Rattle.sto_type.proofs.Touching.{touched_owned}

-- the next call may touch the part
pub touched_next : (m : Meaning) (f : Behaviour) (rs : List PlainReply) (p : ℕ) → NextTouches m (f rs) p → HasTouched m f rs p
touched_next m f [] p h = h
touched_next m f (r ∷ rs) p h = inr (touched_next m (λ xs. f (r ∷ xs)) rs p h)

-- with one more reply
pub touched_more : (m : Meaning) (f : Behaviour) (rs : List PlainReply) (r : PlainReply) (p : ℕ) → HasTouched m f rs p → HasTouched m f (rs ++ r ∷ []) p
touched_more m f [] r p h = inl h
touched_more m f (x ∷ rs) r p h = elim h [
  | inl first ↦ inl first
  | inr rest ↦ inr (touched_more m (λ xs. f (x ∷ xs)) rs r p rest)
]

-- they are in range
next_range : (m : Meaning) (law : IsLawful m) (n : Next) (p : ℕ) → NextTouches m n p → p < length m.homes
next_range m law (Ask call) p h = (touched_owned m law p call h).in_range
next_range m law Commit p h = absurd h
next_range m law Cancel p h = absurd h

pub touched_range : (m : Meaning) (law : IsLawful m) (f : Behaviour) (rs : List PlainReply) (p : ℕ) → HasTouched m f rs p → p < length m.homes
touched_range m law f [] p h = next_range m law (f []) p h
touched_range m law f (r ∷ rs) p h = elim h [
  | inl first ↦ next_range m law (f []) p first
  | inr rest ↦ touched_range m law (λ xs. f (r ∷ xs)) rs p rest
]

-- so valid contents have them
pub touched_there : (m : Meaning) (law : IsLawful m) (f : Behaviour) (rs : List PlainReply) (p : ℕ) (d : Parts) → m.valid d → HasTouched m f rs p → p < length d
touched_there m law f rs p d v h = omega (arith, touched_range m law f rs p h, law.homes, ap length (law.widths d v), length-map d length)
