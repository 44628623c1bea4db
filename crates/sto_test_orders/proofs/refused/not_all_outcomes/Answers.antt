use Rattle.std.proofs.Common.{◌≡◌, ℕ, refl, arith}
use Rattle.std.proofs.lemmas.List.Elements.{All-head}
use Rattle.sto_checker.specs.Runs.{thread_order}
use Rattle.sto_checker.proofs.OneMore.{thread_order-is_order}
use Rattle.sto_orders.specs.Outcomes.{IsOrderOutcome}
use Rattle.sto_test_orders.proofs.refused.not_all_outcomes.Goals as goal

pub returns-clause-left_out : goal.returns-clause-left_out
returns-clause-left_out c = λ by f outcomes order whole none are.
    let h = are.complete order whole in none h.at h.outcome h.stands h.same

pub returns-clause-nothing : goal.returns-clause-nothing
returns-clause-nothing c = λ by f are.
    let h = are.complete (thread_order f) (thread_order-is_order f) in
    let none = h.stands in absurd cc

pub returns-clause-twice : goal.returns-clause-twice
returns-clause-twice c = λ by f o outcomes are.
    let e : 0 ≡ 1 = are.distinct 0 1 o o refl refl refl in absurd (omega (arith, e))

pub returns-clause-same : goal.returns-clause-same
returns-clause-same c = λ by f o p outcomes same are.
    let e : 0 ≡ 1 = are.distinct 0 1 o p refl refl same in absurd (omega (arith, e))

pub returns-clause-no_order : goal.returns-clause-no_order
returns-clause-no_order c = λ by f o outcomes wrong are. wrong (All-head (IsOrderOutcome f) o outcomes are.each).order

pub returns-clause-other_lines : goal.returns-clause-other_lines
returns-clause-other_lines c = λ by f o outcomes wrong are. wrong (All-head (IsOrderOutcome f) o outcomes are.each).entries

pub returns-clause-other_state : goal.returns-clause-other_state
returns-clause-other_state c = λ by f o outcomes wrong are. wrong (All-head (IsOrderOutcome f) o outcomes are.each).final
