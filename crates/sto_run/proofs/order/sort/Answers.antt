use Rattle.std.proofs.Common.{rules}
use Rattle.std.proofs.lemmas.List.Sorted.{answers_always, IsPermutation-map}
use Rattle.sto_transaction.specs.Plain.{plain}
use Rattle.sto_run.proofs.Sorted.{comes, comes_order, sorted_records}
use Rattle.sto_run.proofs.order.sort.Goals as goal

pub returns-clause-order : goal.returns-clause-order
returns-clause-order c = sorted_records _ (c.in_ok-sort_by.ensures.sorted comes comes_order (answers_always _ _ _ (λ f a r g h. search rules)))

pub returns-clause-same : goal.returns-clause-same
returns-clause-same c = IsPermutation-map plain _ _ c.sort_by.ensures.permutation
