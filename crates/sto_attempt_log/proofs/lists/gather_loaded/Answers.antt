use Rattle.std.proofs.Common.{arith, ℕ, List, sym, subst}
use Rattle.std.proofs.lemmas.Grind.{common_steps}
use Rattle.sto_core.specs.Allowed.{Rises}
use Rattle.sto_attempt_log.proofs.Gathering.{with_maybe-rises}
use Rattle.sto_attempt_log.proofs.lists.gather_loaded.Goals as goal

pub loop-item-preserved : goal.loop-item-preserved
loop-item-preserved g c =
    (grind (arith, common_steps, c.loop-item.invariant.0), subst (λ (l : List ℕ). Rises l) (sym c.in_ok-add_maybe.ensures) (with_maybe-rises _ _ c.loop-item.invariant.1))
