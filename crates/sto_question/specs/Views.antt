-- What the code holds, as the definition sees it.
use Rattle.std.specs.Prelude.{List, map}
use Rattle.sto_question.specs.declared.question.Comparison as code
use Rattle.sto_question.specs.declared.question.Question as whole
use Rattle.sto_question.specs.Questions.{Comparison, Question}

abbrev pub comparison : code.Comparison → Comparison
comparison c = record { left = c.left.items; test = c.test; right = c.right.items }

abbrev pub question : whole.Question → Question
question q = map comparison q.comparisons.items
