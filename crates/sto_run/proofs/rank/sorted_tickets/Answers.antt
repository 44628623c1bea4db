use Rattle.std.proofs.Common.{ℕ, ap, ◌∙◌, rules, length, arith}
use Rattle.std.proofs.lemmas.List.Sorted.{IsNonDecreasingBy-from_sort, length_permutation}
use Rattle.sto_run.specs.Tickets.{up_to}
use Rattle.sto_run.proofs.Counted.{tickets_counted, up_to_ordered, few_tickets}
use Rattle.sto_run.proofs.rank.sorted_tickets.Goals as goal

pub returns-clause-rising : goal.returns-clause-rising
returns-clause-rising c = IsNonDecreasingBy-from_sort (λ (t : ℕ). t) _ c.in_ok-sort.ensures.sorted

pub returns-clause-counts : goal.returns-clause-counts
returns-clause-counts c = λ n.
    up_to_ordered n _ _ c.sort.ensures.permutation ∙ ap (up_to n) c.in_ok-found.ensures ∙ tickets_counted n c.args.records.now

pub returns-clause-few : goal.returns-clause-few
returns-clause-few c =
    let a = length_permutation _ _ c.sort.ensures.permutation in let b = ap length c.in_ok-found.ensures in let k = few_tickets c.args.records.now in omega (arith, a, b, k)
