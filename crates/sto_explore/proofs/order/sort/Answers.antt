use Rattle.std.proofs.Common.{rules}
use Rattle.std.specs.Ordering.{is_lt, nat_cmp}
use Rattle.std.specs.Cmp.Lexicographic.{slice_cmp}
use Rattle.std.proofs.lemmas.Cmp.{nat_list_cmp_total}
use Rattle.std.proofs.lemmas.List.MinMax.{ranks_by}
use Rattle.std.proofs.lemmas.List.Sorted.{answers_always}
use Rattle.sto_explore.specs.Outcomes.{rank_of}
use Rattle.sto_explore.specs.declared.outcome.Outcome.{Outcome}
use Rattle.sto_explore.proofs.order.sort.Goals as goal

pub returns-in-Ok-clause-order : goal.returns-in-Ok-clause-order
returns-in-Ok-clause-order c =
    c.in-Ok.ensures.sorted (λ (x : Outcome) (y : Outcome). is_lt (slice_cmp nat_cmp (rank_of x.legs.items) (rank_of y.legs.items)))
    (ranks_by nat_list_cmp_total (λ (o : Outcome). rank_of o.legs.items)) (answers_always _ _ _ (λ f a r g h. search rules))
