-- Attempts keep their pace, one after the other.
use Rattle.std.proofs.Common.{◌≡◌, ◌≤◌, ◌+◌, ◌*◌, ℕ, ap, ◌∙◌, subst, arith}
use Rattle.std.proofs.Math.Nat.{add-mul}
use Rattle.sto_core.specs.declared.view.View.{View}
use Rattle.sto_type.specs.Meaning.{Meaning}
use Rattle.sto_transaction.specs.Pace.{most_steps, KeepsPace}

pub pace_none : (most : ℕ) (v : View) → KeepsPace most v v
pace_none most v = omega arith

-- one start more, and the steps after it
pace_next : (most : ℕ) (v u w : View) → KeepsPace most v u → w.steps ≤ u.steps + most → w.starts ≡ u.starts + 1 → KeepsPace most v w
pace_next most v u w before steps starts =
    let same : w.starts * most ≡ u.starts * most + 1 * most = ap (λ (k : ℕ). k * most) starts ∙ add-mul u.starts 1 most in
    omega (arith, before, steps, same)

pub pace_through : (most : ℕ) (v u w : View) → KeepsPace most v u → KeepsPace most u w → KeepsPace most v w
pace_through most v u w before later = omega (arith, before, later)

-- one attempt more, of a body that may ask as many calls as the first one
pub pace_on : (m : Meaning) (first calls : ℕ) (v u w : View) → calls ≡ first → KeepsPace (most_steps m first) v u → w.steps ≤ u.steps + most_steps m calls → w.starts ≡ u.starts + 1
    → KeepsPace (most_steps m first) v w
pace_on m first calls v u w same before steps starts =
    pace_next (most_steps m first) v u w before (subst (λ (k : ℕ). w.steps ≤ u.steps + most_steps m k) same steps) starts
