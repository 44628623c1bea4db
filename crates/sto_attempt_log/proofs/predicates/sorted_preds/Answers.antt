use Rattle.std.proofs.Common.{ap, ◌∙◌, rules}
use Rattle.std.specs.List.{list_all}
use Rattle.std.proofs.lemmas.List.Sorted.{IsNonDecreasingBy-from_sort_by_key}
use Rattle.sto_part.specs.declared.pred.Pred.{Pred}
use Rattle.sto_attempt_log.proofs.Preds.{list_all_moved}
use Rattle.sto_attempt_log.proofs.predicates.sorted_preds.Goals as goal

pub returns-clause-rising : goal.returns-clause-rising
returns-clause-rising c = IsNonDecreasingBy-from_sort_by_key (λ (q : Pred). q.part) _ c.in_ok-sort_by_key.ensures.sorted (λ a r q k. search rules)

pub returns-clause-same : goal.returns-clause-same
returns-clause-same c = λ f. list_all_moved f _ _ c.sort_by_key.ensures.permutation ∙ ap (list_all f) c.in_ok-found.ensures
