-- What a call says into a buffer, where the type's parts are all that there are.
use Rattle.std.proofs.Common.{◌≡◌, ◌+◌, ℕ, sym, ◌∙◌, subst, arith}
use Rattle.sto_model.specs.declared.call.Call.{Call}
use Rattle.sto_type.specs.Known.{Known, beyond}
use Rattle.sto_type.specs.Meaning.{Meaning}
use Rattle.sto_type.specs.Plans.{Plan, IsPlan}
use Rattle.sto_type.specs.Saying.{IsSaidFrom}
use Rattle.sto_type.proofs.Unmoved.{plan_unmoved}

-- what is known from the first part on is all that is known
pub beyond_none : (k : Known) → beyond 0 k ≡ k
beyond_none k = let same : (q : ℕ) → 0 + q ≡ q = λ q. omega arith in λ i q. k (same q i)

-- what is said from the first part on is as planned
pub said_planned : (m : Meaning) (call : Call) (k : Known) (p : Plan) → IsSaidFrom m 0 call k p → IsPlan m call k p
said_planned m call k p s = subst (IsPlan m call k) (sym (s.moved ∙ plan_unmoved s.own)) (subst (λ (j : Known). IsPlan m call j s.own) (beyond_none k) s.is)
