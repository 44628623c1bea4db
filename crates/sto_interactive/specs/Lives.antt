-- A transaction whose calls come one by one, on its pass: between two of them, and after each of its own calls.
use Rattle.std.specs.Prelude.{◌≡◌, ℕ, true, List, [], ◌∷◌, ◌++◌, length, map, Result, Ok, Err}
use Rattle.sto_model.specs.declared.call.Call.{Call}
use Rattle.sto_model.specs.declared.run.End.TheVariants.{Commit, Cancel}
use Rattle.sto_model.specs.PlainReplies.{PlainReply, plain_reply}
use Rattle.sto_type.specs.Traits.{OfType}
use Rattle.sto_core.specs.declared.view.View.{View}
use Rattle.sto_attempt_log.specs.Answers.{IsPrefix}
use Rattle.sto_attempt_log.specs.declared.verdict.Verdict.TheVariants.{Cancelled}
use Rattle.sto_history.specs.Records.{is_abort}
use Rattle.sto_attempt.specs.Attempts.{heard}
use Rattle.sto_transaction.specs.Plain.{verdict}
use Rattle.sto_transaction.specs.Resting.{IsAtRest}
use Rattle.sto_transaction.specs.Machines.{HasStopped, HasEnded}
use Rattle.sto_transaction.specs.declared.machine.FinishedAttempt.{FinishedAttempt}
use Rattle.sto_interactive.specs.declared.asked_calls.AskedCalls.{AskedCalls}
use Rattle.sto_interactive.specs.declared.live.Live.{Live}
use Rattle.sto_interactive.specs.declared.live.StepError.{StepError}
use Rattle.sto_interactive.specs.declared.live.StepError.TheVariants.{Aborted, Untaken, NoMemory}
use Rattle.sto_interactive.specs.Scripts.{script_of}
use Rattle.sto_interactive.specs.Bodies.{next_of, script_in, left_of, MayAskOf, asked}
use Rattle.sto_interactive.specs.Waiting.{IsWaiting, EndsSo}

-- t is what the trait of the type says
module _ {T : Type 0} (t : OfType T) where
  -- these calls were asked, and answered so; it has led from the view `begun` of its pass to the view v
  pub record IsLive (ty : T) (calls : List Call) (rs : List PlainReply) (l : Live T) (begun v : View) : Type 0 where
    pub rests : IsAtRest (t.meaning ty) (t.sizes ty) begun
    pub same_type : l.ty.now ≡ ty
    pub waiting : IsWaiting t asked ty (script_of calls Commit) l.attempt begun v
    pub replies : heard l.attempt ≡ rs
    pub all : length rs ≡ length calls

  -- a call was answered: it and its reply come last. On all valid contents that have the claims of the pass, the calls, run one after
  -- the other, answer exactly these replies
  pub record IsAnswered (ty : T) (calls : List Call) (rs : List PlainReply) (call : Call) (new : Live T) (begun w : View) : Type 0 where
    pub reply : PlainReply
    pub live : IsLive ty (calls ++ call ∷ []) (rs ++ reply ∷ []) new begun w
    pub answers : IsPrefix (t.meaning ty) (script_of (calls ++ call ∷ []) Commit) w new.attempt.at (rs ++ reply ∷ [])

  -- what a call leads to
  abbrev pub HasAsked : ℕ → T → List Call → List PlainReply → Call → Result (Unit {0}) StepError → (old new : Live T) (begun v w : View) → Type 0
  HasAsked passes ty calls rs call (Ok answered) old new begun v w = IsAnswered ty calls rs call new begun w
  HasAsked passes ty calls rs call (Err (Aborted x)) old new begun v w =
      (is_abort (verdict x) ≡ true) × EndsSo t asked passes ty (script_of (calls ++ call ∷ []) Commit) new.attempt x begun w
  HasAsked passes ty calls rs call (Err Untaken) old new begun v w = (new ≡ old) × (w ≡ v) × ((t.meaning ty).takes call → ⊥)
  HasAsked passes ty calls rs call (Err NoMemory) old new begun v w = HasStopped (t.meaning ty) (t.sizes ty) begun w

  -- it has ended with a commit or its abort: its record tells of these calls and of exactly these replies
  pub record HasCommitted (passes : ℕ) (ty : T) (calls : List Call) (rs : List PlainReply) (e : FinishedAttempt AskedCalls) (begun w : View) : Type 0 where
    pub ended : HasEnded t.meaning t.valid t.sizes script_in next_of left_of MayAskOf passes ty (script_of calls Commit) e begun w
    pub replies : map plain_reply e.replies.items ≡ rs

  -- it was cancelled, and its record tells so
  pub record HasCancelled (passes : ℕ) (ty : T) (calls : List Call) (rs : List PlainReply) (e : FinishedAttempt AskedCalls) (begun w : View) : Type 0 where
    pub at : ℕ
    pub verdict : e.verdict ≡ Cancelled at
    pub ended : HasEnded t.meaning t.valid t.sizes script_in next_of left_of MayAskOf passes ty (script_of calls Cancel) e begun w
    pub replies : map plain_reply e.replies.items ≡ rs
