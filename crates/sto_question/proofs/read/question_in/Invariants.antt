use Rattle.std.proofs.Common.{◌≡◌, [], length, map, None}
use Rattle.sto_syntax.specs.Lines.{words_of}
use Rattle.sto_lang.specs.Views.{declaration}
use Rattle.sto_question.specs.Questions.{begun, question_from}
use Rattle.sto_question.specs.Readings.{draft}
use Rattle.sto_question.proofs.read.question_in.Given as goal

abbrev pub invariant-loop-word : goal.invariant-loop-word
invariant-loop-word l =
    question_from (map declaration l.decls) (draft l.draft) (words_of l.rest) ≡ question_from (map declaration l.decls) (begun [] None) (words_of l.text)

abbrev pub decreases-loop-word : goal.decreases-loop-word
decreases-loop-word l = length l.rest
