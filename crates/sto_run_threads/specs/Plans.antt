-- What is to be run, and what words are opened for it.
use Rattle.std.specs.Prelude.{◌≡◌, ◌≤◌, ℕ, ◌+◌, ◌*◌, ◌^◌, List, length}
use Rattle.sto_lang.specs.Scripts.{File}
use Rattle.sto_type.specs.Meaning.{Meaning}
use Rattle.sto_type.specs.Traits.{OfType}
use Rattle.sto_core.specs.declared.view.View.{View}
use Rattle.sto_core.specs.History.{Contents, Validity}
use Rattle.sto_report_spec.specs.Orders.{count_in}
use Rattle.sto_transaction.specs.Pace.{most_steps}
use Rattle.sto_transaction.specs.Resting.{IsAtRest}
use Rattle.sto_run_threads.specs.Counts.{scripts_from, heaviest}

-- a file, what the type of its objects means, the sizes of that type, and how many attempts of a transaction may be aborted
pub record Plan : Type 1 where
  pub meaning : Meaning
  pub sizes : List ℕ
  pub file : File
  pub tries : ℕ

-- the plan of a file and so many tries, on objects of a type. t is what the trait of the type says
abbrev pub plan_of : {T : Type 0} → OfType T → T → File → ℕ → Plan
plan_of t ty file tries = record { meaning = t.meaning ty; sizes = t.sizes ty; file = file; tries = tries }

-- how many script threads the file has, and how many transactions a thread
abbrev pub thread_count : Plan → ℕ
thread_count plan = length plan.file.threads

abbrev pub transaction_count : Plan → ℕ → ℕ
transaction_count plan thread = count_in plan.file.threads thread

-- a ticket for each try of each transaction
abbrev pub draws_of : Plan → ℕ
draws_of plan = plan.tries * scripts_from plan.file.threads 0

-- the most steps of an attempt of one of its transactions
abbrev pub pace_of : Plan → ℕ
pace_of plan = most_steps plan.meaning (heaviest plan.file.threads)

-- a pass with this view took at most so many steps for each attempt that it began
abbrev pub IsPaced : Plan → View → Type 0
IsPaced plan v = v.steps ≤ v.starts * pace_of plan

-- words of these sizes and contents are those that the plan opens, and each of their passes may draw twice what all transactions may
pub record Opens (plan : Plan) (valid : Validity) (sizes : List ℕ) (opening : Contents) : Type 0 where
  pub sized : sizes ≡ plan.sizes
  pub opened : opening ≡ plan.meaning.opened
  pub lawful : valid sizes opening
  pub few : draws_of plan + draws_of plan ≤ 2 ^ 40

-- a pass with this view is at rest
abbrev pub Rests : Plan → View → Type 0
Rests plan v = IsAtRest plan.meaning plan.sizes v

-- it is, and may draw so many tickets
pub record MayDraw (plan : Plan) (many : ℕ) (v : View) : Type 0 where
  pub rests : Rests plan v
  pub draws : many ≤ v.draws
