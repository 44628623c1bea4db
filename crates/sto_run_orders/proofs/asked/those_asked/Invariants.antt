use Rattle.std.specs.Prelude.{filter}
use Rattle.std.proofs.Common.{◌≡◌}
use Rattle.sto_question.specs.Questions.{is_true_of}
use Rattle.sto_question.specs.Views.{question as view}
use Rattle.sto_run_orders.proofs.asked.those_asked.Given as goal

abbrev pub invariant-loop-report : goal.invariant-loop-report
invariant-loop-report l = l.kept.items ≡ filter (λ r. is_true_of (view l.question) r.state.items) l.yielded
