use Rattle.std.proofs.Common.{◌∙◌, ap, sym, subst, ℕ, List, []}
use Rattle.sto_core.specs.Allowed.{Rises}
use Rattle.sto_attempt_log.proofs.Gathering.{gathered-rises}
use Rattle.sto_attempt_log.specs.Gathering.{gathered, seen_part, other_part}
use Rattle.sto_attempt_log.proofs.lists.gather_parts.Goals as goal

pub gather_loaded-requires : goal.gather_loaded-requires
gather_loaded-requires g c = subst (λ (l : List ℕ). Rises l) (sym (c.as_slice.ensures.items ∙ c.in_ok-gather_seen.ensures)) (gathered-rises seen_part [] c.items-items.result.now tt)

pub returns-clause-seen : goal.returns-clause-seen
returns-clause-seen g c = c.in_ok-gather_seen.ensures ∙ ap (gathered seen_part []) c.items-items.ensures.items

pub returns-clause-loaded : goal.returns-clause-loaded
returns-clause-loaded g c = c.in_ok-gather_loaded.ensures ∙ ap (gathered (other_part c.as_slice.result.now) []) c.items-items.ensures.items ∙ ap (λ l. gathered (other_part l) [] c.args.set.now.items) c.as_slice.ensures.items

pub returns-clause-rising : goal.returns-clause-rising
returns-clause-rising g c = (
  subst (λ (l : List ℕ). Rises l) (sym c.in_ok-gather_seen.ensures) (gathered-rises seen_part [] c.items-items.result.now tt),
  subst (λ (l : List ℕ). Rises l) (sym c.in_ok-gather_loaded.ensures) (gathered-rises (other_part c.as_slice.result.now) [] c.items-items.result.now tt),
)
