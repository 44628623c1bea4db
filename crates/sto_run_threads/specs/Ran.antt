-- One transaction of a file: its body, and a run of it.
use Rattle.std.specs.Prelude.{◌≡◌, ◌≤◌, ℕ, List, Bool, Some}
use Rattle.sto_model.specs.declared.call.Call.{Call}
use Rattle.sto_model.specs.Run.{Behaviour}
use Rattle.sto_lang.specs.Scripts.{Script, File}
use Rattle.sto_script.specs.Meaning.{meaning_of}
use Rattle.sto_script.specs.Asks.{Asks}
use Rattle.sto_core.specs.declared.view.View.{View}
use Rattle.sto_report_spec.specs.Orders.{TransactionPlace, transaction_at}
use Rattle.sto_history.specs.Records.{Record}
use Rattle.sto_transaction.specs.Pace.{KeepsPace}
use Rattle.sto_transaction.specs.Ran.{HasRun, HasBroken}
use Rattle.sto_run_threads.specs.Plans.{Plan, pace_of}

-- the file has a transaction at the place
pub record IsTransaction (file : File) (place : TransactionPlace) : Type 0 where
  pub script : Script
  pub there : transaction_at file place ≡ Some script

-- a body does what that transaction says, and asks only its calls, at most so many as it weighs
pub record IsBodyAt (file : File) (place : TransactionPlace) (steps : Behaviour) (calls : ℕ) (MayAsk : Call → Type 0) : Type 0 where
  pub script : Script
  pub there : transaction_at file place ≡ Some script
  pub does : steps ≡ meaning_of script
  pub asks : (call : Call) → MayAsk call → Asks script.body call
  pub few : calls ≤ script.weight

-- from the view v to the view w, on words with so many passes, that transaction was run with the tries of the plan. It has ended, or is
-- handed back
pub record HasRunAt (plan : Plan) (passes : ℕ) (v w : View) (place : TransactionPlace) (before later : List Record) (ended : Bool) : Type 0 where
  pub script : Script
  pub there : transaction_at plan.file place ≡ Some script
  pub ran : HasRun plan.meaning plan.sizes plan.tries passes v w (meaning_of script) place before later ended
  -- each of its attempts took at most so many steps
  pub pace : KeepsPace (pace_of plan) v w

-- memory was wanting in a run of that transaction
pub record HasBrokenAt (plan : Plan) (v w : View) (place : TransactionPlace) (before later : List Record) : Type 0 where
  pub script : Script
  pub there : transaction_at plan.file place ≡ Some script
  pub broken : HasBroken plan.meaning plan.sizes plan.tries v w (meaning_of script) place before later
