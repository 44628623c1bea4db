use Rattle.std.proofs.Common.{◌≡◌, drop}
use Rattle.sto_question.specs.Questions.{sum_from, sum_in}
use Rattle.sto_question.proofs.truth.sum_in.Given as goal

abbrev pub invariant-loop-term : goal.invariant-loop-term
invariant-loop-term l = sum_from l.state.items l.sum (drop l.term-index l.terms) ≡ sum_in l.state.items l.terms
