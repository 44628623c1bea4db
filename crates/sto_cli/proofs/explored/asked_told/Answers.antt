use Rattle.std.proofs.Common.{◌≡◌, ℕ, List, Bool, Some}
use Rattle.std.proofs.lemmas.Result.{IfErr-weaker}
use Rattle.sto_lang.specs.Scripts.{File}
use Rattle.sto_lang.specs.Views.{file as view}
use Rattle.sto_question.specs.Views.{question as question_of}
use Rattle.sto_run_orders.specs.declared.asked.Asking.{Asking}
use Rattle.sto_run_orders.specs.declared.asked.Asking.TheVariants as asking
use Rattle.sto_run_orders.specs.declared.report.OrderReport.{OrderReport}
use Rattle.sto_cli.specs.declared.told.Answer.{Answer}
use Rattle.sto_cli.specs.Orders.{asked_by, TellsAsked, IsTold}
use Rattle.sto_cli.proofs.Refusals.{no_question}
use Rattle.sto_cli.proofs.explored.asked_told.Goals as goal

told_by : (json : Bool) (file : File) (asking : Asking) (words : List ℕ) (reports : List OrderReport) (answer : Answer) (text : List ℕ)
    → TellsAsked json file asking words reports answer text → IsTold json file (Some (asked_by asking words)) reports answer text
told_by json file asking.Where words reports answer text h = h
told_by json file asking.Never words reports answer text h = h

pub returns-clause-fault : goal.returns-clause-fault
returns-clause-fault c = c.refusal.ensures c.args.by (Some (asked_by c.args.asking c.args.words.now)) (view c.args.file.now) c.in-Err.ensures.cause
