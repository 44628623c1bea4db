-- Attempts of the transactions of a file.
use Rattle.std.specs.Prelude.{◌≡◌, ◌≤◌, ◌+◌, ℕ, List, [], map, Some}
use Rattle.sto_model.specs.PlainReplies.{PlainReply, plain_reply}
use Rattle.sto_lang.specs.Scripts.{Script, File}
use Rattle.sto_script.specs.Meaning.{meaning_of}
use Rattle.sto_script.specs.Bodies.{then_of, script_of, left_of, MayAskOf}
use Rattle.sto_script.specs.declared.body.ScriptBody.{ScriptBody}
use Rattle.sto_type.specs.Traits.{OfType}
use Rattle.sto_core.specs.declared.view.View.{View}
use Rattle.sto_run_threads.specs.Orders.{TransactionPlace, transaction_at}
use Rattle.sto_transaction.specs.declared.machine.Machine.{Machine}
use Rattle.sto_transaction.specs.declared.machine.Machine.TheVariants.{Running, Committing, Over}
use Rattle.sto_transaction.specs.Pace.{most_steps}
use Rattle.sto_transaction.specs.Machines.{Proceeds, machine_left}
use Rattle.sto_run_threads.specs.Counts.{heaviest}

-- how many events an attempt has left at most
abbrev pub script_left : {T : Type 0} → OfType T → Machine T ScriptBody → ℕ
script_left t trial = machine_left t.meaning t.valid t.sizes script_of then_of left_of MayAskOf trial

-- what its calls have been answered so far
abbrev pub heard_by : {T : Type 0} → Machine T ScriptBody → List PlainReply
heard_by (Running a) = map plain_reply a.log.table.replies.items
heard_by (Committing r) = map plain_reply r.log.table.replies.items
heard_by Over = []

-- on words with so many passes, the attempt is one of the transaction of the file at a place, on a type, and has led from the view
-- `begun` to the view v
pub record ProceedsAt {T : Type 0} (t : OfType T) (file : File) (ty : T) (passes : ℕ) (place : TransactionPlace) (trial : Machine T ScriptBody) (begun v : View) : Type 0 where
  pub script : Script
  pub there : transaction_at file place ≡ Some script
  pub proceeds : Proceeds t.meaning t.valid t.sizes script_of then_of left_of MayAskOf passes ty (meaning_of script) trial begun v
  -- the steps so far and those that are left are no more than an attempt may take
  pub pace : v.steps + script_left t trial ≤ begun.steps + most_steps (t.meaning ty) (heaviest file.threads)
