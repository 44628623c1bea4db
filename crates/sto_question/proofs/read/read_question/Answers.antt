use Rattle.std.proofs.Common.{◌≡◌, List, [], None, Ok, IfOk, IfErr, map, subst}
use Rattle.sto_syntax.specs.Lines.{words_of}
use Rattle.sto_lang.specs.declared.file.Decl.{Decl}
use Rattle.sto_lang.specs.Views.{declaration}
use Rattle.sto_question.specs.Questions.{begun, question_from}
use Rattle.sto_question.specs.Readings.{IsFault}
use Rattle.sto_question.specs.Views.{question as view_of}
use Rattle.sto_question.proofs.read.read_question.Goals as goal

pub returns-clause-question : goal.returns-clause-question
returns-clause-question c =
    subst (λ (ds : List Decl). IfOk c.question_in.result (λ q. question_from (map declaration ds) (begun [] None) (words_of c.args.words.now) ≡ Ok (view_of q)))
    c.as_slice.ensures.items c.question_in.ensures.question

pub returns-clause-cause : goal.returns-clause-cause
returns-clause-cause c =
    subst (λ (ds : List Decl). IfErr c.question_in.result (IsFault (question_from (map declaration ds) (begun [] None) (words_of c.args.words.now))))
    c.as_slice.ensures.items c.question_in.ensures.cause
