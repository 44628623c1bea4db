-- Where a step has led an attempt.
use Rattle.std.specs.Prelude.{◌≡◌, ◌≤◌, ◌<◌, ◌+◌, ℕ, map, false, Some}
use Rattle.sto_model.specs.PlainReplies.{plain_reply}
use Rattle.sto_lang.specs.Scripts.{Script}
use Rattle.sto_script.specs.Meaning.{meaning_of}
use Rattle.sto_core.specs.declared.view.View.{View}
use Rattle.sto_run_threads.specs.Orders.{TransactionPlace, transaction_at}
use Rattle.sto_history.specs.Records.{Record, is_abort}
use Rattle.sto_history.specs.Tried.{HasTried}
use Rattle.sto_transaction.specs.Plain.{verdict}
use Rattle.sto_run_steps.specs.declared.attempts.Stepped.{Stepped}
use Rattle.sto_run_steps.specs.declared.attempts.Stepped.TheVariants.{More, Ended}
use Rattle.sto_run_threads.specs.Plans.{Plan, Rests, pace_of}

-- on words with so many passes, an attempt of the transaction at a place has led from the view v to the view w, which is at rest, and
-- this is its record. It took at most so many steps as one may, and where there is one pass it is not aborted
pub record HasMadeOne (plan : Plan) (passes : ℕ) (place : TransactionPlace) (v w : View) (r : Record) : Type 0 where
  pub script : Script
  pub there : transaction_at plan.file place ≡ Some script
  pub tried : HasTried plan.meaning v w (meaning_of script) place r
  pub rests : Rests plan w
  pub steps : w.steps ≤ v.steps + pace_of plan
  pub alone : passes ≡ 1 → is_abort r.verdict ≡ false

-- a step of an attempt that had so many events left: the attempt goes on with fewer, or it has made a record
abbrev pub HasStepped : {M : Type 0} → Plan → (ℕ → TransactionPlace → M → View → View → Type 0) → (M → ℕ) → (passes : ℕ) → TransactionPlace → (before : ℕ) → M → (v w : View) → Stepped → Type 0
HasStepped plan fits left passes place before trial v w More = fits passes place trial v w × (left trial < before)
HasStepped plan fits left passes place before trial v w (Ended replies x) =
    HasMadeOne plan passes place v w (record { place = place; replies = map plain_reply replies.items; verdict = verdict x }) × (0 < before)
