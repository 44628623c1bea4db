-- What `explore` prints of a script, and why it refuses one.
use Rattle.std.specs.Prelude.{◌≡◌, ◌≤◌, ℕ, List, [], ◌∷◌, length, Bool, Option, None, Some, Ok, Err}
use Rattle.sto_lang.specs.Files.{file_of}
use Rattle.sto_lang.specs.Scripts.{File}
use Rattle.sto_report_spec.specs.Lawful.{IsLawfulIn}
use Rattle.sto_run.specs.Forms.{form_for}
use Rattle.sto_run.specs.Meanings.{updating_by}
use Rattle.sto_run.specs.Stores.{means}
use Rattle.sto_args.specs.declared.command.By.{By}
use Rattle.sto_args.specs.declared.command.By.TheVariants as given
use Rattle.sto_args.specs.declared.command.Asked.{Asked}
use Rattle.sto_args.specs.declared.command.Asked.TheVariants.{Where, Never}
use Rattle.sto_orders.specs.declared.same_by.SameBy.{SameBy}
use Rattle.sto_orders.specs.declared.same_by.SameBy.TheVariants as compare
use Rattle.sto_orders.specs.declared.limit.OrdersError.TheVariants as refusals
use Rattle.sto_orders.specs.Causes.{least_told, IsCause}
use Rattle.sto_run_orders.specs.declared.report.OrderReport.{OrderReport}
use Rattle.sto_run_orders.specs.Reports.{AreOrderReports, IsAmong}
use Rattle.sto_run_orders.specs.Texts.{reports_in, asked_in}
use Rattle.sto_run_orders.specs.Asked.{asked_of}
use Rattle.sto_run_orders.specs.declared.asked.Asking.{Asking}
use Rattle.sto_run_orders.specs.declared.asked.Asking.TheVariants as asking
use Rattle.sto_question.specs.declared.fault.QuestionFault.{QuestionFault}
use Rattle.sto_question.specs.Questions as questions
use Rattle.sto_cli.specs.declared.told.Answer.{Answer}
use Rattle.sto_cli.specs.declared.told.Answer.TheVariants.{Done, Found}
use Rattle.sto_console.specs.declared.refusal.StateCount.{StateCount}
use Rattle.sto_console.specs.declared.refusal.StateCount.TheVariants.{AtLeast, MoreThan}
use Rattle.sto_console.specs.declared.refusal.InputFault.{InputFault}
use Rattle.sto_console.specs.declared.refusal.InputFault.TheVariants.{Script, NoReport, LongTrace, LongRun, ManySchedules, ManyStates, Schedule, Question}

-- what outcomes are told apart by
abbrev pub same_by : By → SameBy
same_by given.State = compare.State
same_by given.Answers = compare.Answers
same_by given.Order = compare.Order

-- an outcome was found that must never be
abbrev pub answer_for : Asking → List OrderReport → Answer
answer_for asking.Where kept = Done
answer_for asking.Never [] = Done
answer_for asking.Never (report ∷ kept) = Found

-- the words are a question for the file. The text tells those of the outcomes of which it is true, and no other, and how many they are
pub record TellsAsked (json : Bool) (file : File) (asking : Asking) (words : List ℕ) (reports : List OrderReport) (answer : Answer) (text : List ℕ) : Type 0 where
  pub question : questions.Question
  pub reads : questions.question_of file words ≡ Ok question
  pub answered : answer ≡ answer_for asking (asked_of (form_for json) file question reports)
  pub told : text ≡ asked_in json asking (length reports) file (asked_of (form_for json) file question reports)

-- what is asked, by the words of a question
abbrev pub asked_by : Asking → List ℕ → Asked
asked_by asking.Where words = Where words
asked_by asking.Never words = Never words

-- what is told of all outcomes, and how it is answered: all of them, where nothing is asked
abbrev pub IsTold : Bool → File → Option Asked → List OrderReport → Answer → List ℕ → Type 0
IsTold json file None reports answer text = (answer ≡ Done) × (text ≡ reports_in json file reports)
IsTold json file (Some (Where words)) reports answer text = TellsAsked json file asking.Where words reports answer text
IsTold json file (Some (Never words)) reports answer text = TellsAsked json file asking.Never words reports answer text

-- the text tells what all orders of the file's transactions lead to, each outcome once, or those that are asked for: by the report of a run that
-- leads there, which `step` prints with the schedule beside it. An outcome without a schedule would have its report alone. Whatever a lawful
-- report tells, by any schedule, tries and threads, one of these tells. The threads' numbers of transactions, each with one more, have no larger
-- product than nodes were asked for
pub record TellsOrders (by : SameBy) (states : ℕ) (json : Bool) (asked : Option Asked) (file : File) (answer : Answer) (text : List ℕ) : Type 0 where
  pub allowed : least_told file.threads ≤ states
  pub reports : List OrderReport
  pub of_file : AreOrderReports by (form_for json) file 64 reports
  pub complete : (tries : ℕ) (report : List ℕ) → IsLawfulIn (form_for json) (updating_by means) file tries report → IsAmong by (form_for json) file reports report
  pub told : IsTold json file asked reports answer text

-- the bytes are a script, and this is told of its orders
abbrev pub IsExplored : SameBy → ℕ → Bool → Option Asked → List ℕ → Answer → List ℕ → Type 0
IsExplored by states json asked bytes answer text = (file : File) × (file_of bytes ≡ Ok file) × TellsOrders by states json asked file answer text

-- the words that ask are no question for the file, for this fault
abbrev pub IsQuestionFault : Option Asked → File → QuestionFault → Type 0
IsQuestionFault None file fault = ⊥
IsQuestionFault (Some (Where words)) file fault = questions.question_of file words ≡ Err fault
IsQuestionFault (Some (Never words)) file fault = questions.question_of file words ≡ Err fault

-- the orders of the file need so many nodes, and that is more than there may be
abbrev pub IsStateCount : SameBy → File → ℕ → StateCount → Type 0
IsStateCount by file states (AtLeast least) = IsCause by file states (refusals.AtLeast least)
IsStateCount by file states (MoreThan most) = (most ≡ states) × IsCause by file states refusals.TooMany

-- words are no question for the file, for this fault
abbrev pub IsNoQuestion : List ℕ → File → InputFault → Type 0
IsNoQuestion words file (Question fault) = questions.question_of file words ≡ Err fault
IsNoQuestion words file (ManyStates count) = ⊥
IsNoQuestion words file (Script fault) = ⊥
IsNoQuestion words file NoReport = ⊥
IsNoQuestion words file LongTrace = ⊥
IsNoQuestion words file LongRun = ⊥
IsNoQuestion words file (ManySchedules counts) = ⊥
IsNoQuestion words file (Schedule kind) = ⊥

-- what is asked of the orders of the file is not told for this fault
abbrev pub IsUntold : SameBy → ℕ → Option Asked → File → InputFault → Type 0
IsUntold by states asked file (ManyStates count) = IsStateCount by file states count
IsUntold by states asked file (Question fault) = IsQuestionFault asked file fault
IsUntold by states asked file (Script fault) = ⊥
IsUntold by states asked file NoReport = ⊥
IsUntold by states asked file LongTrace = ⊥
IsUntold by states asked file LongRun = ⊥
IsUntold by states asked file (ManySchedules counts) = ⊥
IsUntold by states asked file (Schedule kind) = ⊥

-- the bytes are no script, for this fault, or one of which what is asked is not told
abbrev pub IsOrdersFault : SameBy → ℕ → Option Asked → List ℕ → InputFault → Type 0
IsOrdersFault by states asked bytes (Script fault) = file_of bytes ≡ Err fault
IsOrdersFault by states asked bytes (ManyStates count) = (file : File) × (file_of bytes ≡ Ok file) × IsUntold by states asked file (ManyStates count)
IsOrdersFault by states asked bytes (Question fault) = (file : File) × (file_of bytes ≡ Ok file) × IsUntold by states asked file (Question fault)
IsOrdersFault by states asked bytes NoReport = ⊥
IsOrdersFault by states asked bytes LongTrace = ⊥
IsOrdersFault by states asked bytes LongRun = ⊥
IsOrdersFault by states asked bytes (ManySchedules counts) = ⊥
IsOrdersFault by states asked bytes (Schedule kind) = ⊥
