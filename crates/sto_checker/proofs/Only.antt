-- A report has one answer.
use Rattle.std.proofs.Common.{◌≡◌, ◌⊎◌, ℕ, zero, suc, ◌<◌, ◌≤◌, List, length, refl, sym, ap, ◌∙◌, arith, inl, inr}
use Rattle.sto_lang.specs.Scripts.{File}
use Rattle.sto_checker.specs.declared.found.Found.{Found}
use Rattle.sto_checker.specs.declared.found.Found.TheVariants.{Lawful, Not}
use Rattle.sto_checker.specs.Answer.{IsRightAt, AreRight, IsWhole, GoesWrong, IsAnswer}

order_of : (a b : ℕ) → (a < b) ⊎ (a ≡ b) ⊎ (b < a)
order_of zero zero = inr (inl refl)
order_of zero (suc b) = inl (omega arith)
order_of (suc a) zero = inr (inr (omega arith))
order_of (suc a) (suc b) = by (order_of a b)
  where
    by : (a < b) ⊎ (a ≡ b) ⊎ (b < a) → (suc a < suc b) ⊎ (suc a ≡ suc b) ⊎ (suc b < suc a)
    by (inl l) = inl (omega (arith, l))
    by (inr (inl e)) = inr (inl (ap suc e))
    by (inr (inr l)) = inr (inr (omega (arith, l)))

module _ (file : File) (tries : ℕ) (lines : List (List ℕ)) where
  inside : (place : ℕ) → GoesWrong file tries lines place → place ≤ length lines
  inside place (inl h) = let l = h.0 in omega (arith, l)
  inside place (inr h) = let e = h.0 in omega (arith, e)

  not_lawful : (place : ℕ) → AreRight file tries lines (length lines) → IsWhole file lines → GoesWrong file tries lines place → ⊥
  not_lawful place right whole (inl h) = h.1 (right place h.0)
  not_lawful place right whole (inr h) = h.1 whole

  not_later : (one other : ℕ) → one < other → GoesWrong file tries lines one → AreRight file tries lines other → GoesWrong file tries lines other → ⊥
  not_later one other l (inl h) right wrong = h.1 (right one l)
  not_later one other l (inr h) right wrong = let e = h.0 in let k = inside other wrong in absurd (omega (arith, l, e, k))

  pub one_answer : (one other : Found) → IsAnswer file tries lines one → IsAnswer file tries lines other → one ≡ other
  one_answer Lawful Lawful h k = refl
  one_answer Lawful (Not n) h k = absurd (not_lawful k.0 h.0 h.1 k.3)
  one_answer (Not n) Lawful h k = absurd (not_lawful h.0 k.0 k.1 h.3)
  one_answer (Not n) (Not m) h k = by (order_of h.0 k.0)
    where
      by : (h.0 < k.0) ⊎ (h.0 ≡ k.0) ⊎ (k.0 < h.0) → Not n ≡ Not m
      by (inl l) = absurd (not_later h.0 k.0 l h.3 k.2 k.3)
      by (inr (inl e)) = ap Not (h.1 ∙ ap suc e ∙ sym k.1)
      by (inr (inr l)) = absurd (not_later k.0 h.0 l k.3 h.2 h.3)
