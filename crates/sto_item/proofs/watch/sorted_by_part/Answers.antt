use Rattle.std.proofs.Common.{rules}
use Rattle.std.proofs.lemmas.List.Sorted.{answers_always, IsNonDecreasingBy-from_sort_by_key}
use Rattle.sto_item.specs.Observed.{part_of_item}
use Rattle.sto_item.proofs.watch.sorted_by_part.Goals as goal

pub returns-clause-rising : goal.returns-clause-rising
returns-clause-rising c = IsNonDecreasingBy-from_sort_by_key part_of_item _ c.in_ok-sort_by_key.ensures.sorted (λ a r q k. search rules)

pub returns-clause-stable : goal.returns-clause-stable
returns-clause-stable c = rw (← c.in_ok-sorted.ensures.items) (c.sort_by_key.ensures.stable part_of_item (answers_always _ _ _ (λ f a r g h. search rules)))

pub returns-clause-same : goal.returns-clause-same
returns-clause-same c = rw (← c.in_ok-sorted.ensures.items) c.sort_by_key.ensures.permutation
