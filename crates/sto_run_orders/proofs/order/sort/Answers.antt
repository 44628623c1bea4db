use Rattle.std.proofs.Common.{rules}
use Rattle.std.specs.Ordering.{is_lt, nat_cmp}
use Rattle.std.specs.Cmp.Lexicographic.{slice_cmp}
use Rattle.std.proofs.lemmas.Cmp.{nat_list_cmp_total}
use Rattle.std.proofs.lemmas.List.MinMax.{ranks_by}
use Rattle.std.proofs.lemmas.List.Sorted.{answers_always}
use Rattle.sto_run_orders.specs.Reports.{entries_in, rank_of}
use Rattle.sto_run_orders.specs.declared.report.OrderReport.{OrderReport}
use Rattle.sto_run_orders.proofs.order.sort.Goals as goal

pub returns-in-Ok-clause-order : goal.returns-in-Ok-clause-order
returns-in-Ok-clause-order c =
    c.in-Ok.ensures.sorted (λ (x : OrderReport) (y : OrderReport). is_lt (slice_cmp nat_cmp (rank_of (entries_in x.schedule)) (rank_of (entries_in y.schedule))))
    (ranks_by nat_list_cmp_total (λ (o : OrderReport). rank_of (entries_in o.schedule))) (answers_always _ _ _ (λ f a r g h. search rules))
