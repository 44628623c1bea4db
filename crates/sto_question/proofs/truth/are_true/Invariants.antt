use Rattle.std.proofs.Common.{◌≡◌, drop, map}
use Rattle.sto_question.specs.Questions.{is_true_of}
use Rattle.sto_question.specs.Views.{comparison}
use Rattle.sto_question.proofs.truth.are_true.Given as goal

abbrev pub invariant-loop-comparison : goal.invariant-loop-comparison
invariant-loop-comparison l = is_true_of (map comparison (drop l.comparison-index l.comparisons)) l.state.items ≡ is_true_of (map comparison l.comparisons) l.state.items
