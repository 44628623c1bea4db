-- What the calls of a session lead to: from the session x to the session y, or from a view of its pass.
use Rattle.std.specs.Prelude.{◌≡◌, ◌≢◌, ◌+◌, ℕ, true, List, [], ◌∷◌, ◌++◌, None, Result, Ok, Err}
use Rattle.sto_part.specs.declared.naming.Naming as naming
use Rattle.sto_model.specs.declared.call.Call.{Call}
use Rattle.sto_model.specs.declared.run.End.TheVariants.{Commit}
use Rattle.sto_model.specs.PlainReplies.{PlainReply}
use Rattle.sto_type.specs.Traits.{OfType}
use Rattle.sto_core.specs.declared.view.View.{View}
use Rattle.sto_table.specs.declared.shared.Shared.{Shared}
use Rattle.sto_attempt_log.specs.Answers.{IsPrefix}
use Rattle.sto_attempt_log.specs.declared.verdict.Verdict.{Verdict}
use Rattle.sto_attempt_log.specs.declared.verdict.Verdict.TheVariants.{Wrote, Read, Cancelled, Locked, Changed}
use Rattle.sto_history.specs.Records.{is_abort}
use Rattle.sto_transaction.specs.Plain.{verdict}
use Rattle.sto_transaction.specs.Machines.{HasStopped, HasEnded}
use Rattle.sto_transaction.specs.declared.machine.FinishedAttempt.{FinishedAttempt}
use Rattle.sto_interactive.specs.declared.asked_calls.AskedCalls.{AskedCalls}
use Rattle.sto_interactive.specs.Scripts.{script_of}
use Rattle.sto_interactive.specs.Bodies.{next_of, script_in, left_of, MayAskOf}
use Rattle.sto_interactive.specs.Lives.{HasCommitted, HasCancelled}
use Rattle.sto_interactive.specs.declared.session.Session.{Session}
use Rattle.sto_interactive.specs.declared.starting.BeginError.{BeginError}
use Rattle.sto_interactive.specs.declared.starting.BeginError.TheVariants as begin_error
use Rattle.sto_interactive.specs.declared.asking.AskError.{AskError}
use Rattle.sto_interactive.specs.declared.asking.AskError.TheVariants as ask_error
use Rattle.sto_interactive.specs.declared.ending.CommitError.{CommitError}
use Rattle.sto_interactive.specs.declared.ending.CommitError.TheVariants as commit_error
use Rattle.sto_interactive.specs.Sessions.{live_of, view_of, IsFree, IsAsking}

-- the place in the order of a transaction that ended so: its ticket, or the number as of which it read
abbrev pub place_of : Verdict → Result ℕ CommitError
place_of (Wrote ticket) = Ok ticket
place_of (Read at) = Ok at
place_of (Cancelled at) = Ok at
place_of (Locked at part) = Err commit_error.Aborted
place_of (Changed at part ticket) = Err commit_error.Aborted

-- the pass, the tickets left and the transaction are as before
abbrev pub IsUnchanged : {T : Type 0} {n : naming.Ghosts T} → Session T n → Session T n → Type 0
IsUnchanged x y = (y.rest ≡ x.rest) × (y.left ≡ x.left) × (live_of y ≡ live_of x)

abbrev pub passes_of : {T : Type 0} → Shared T → ℕ
passes_of s = s.table.shared.key.passes

-- t is what the trait of the type says
module _ {T : Type 0} {n : naming.Ghosts T} (t : OfType T) (ty : T) (s : Shared T) where
  -- memory was wanting: the session is free, and nothing was drawn
  pub record HasFailed (begun : View) (y : Session T n) : Type 0 where
    pub free : IsFree t ty s y
    pub stopped : HasStopped (t.meaning ty) (t.sizes ty) begun (view_of y)

  -- a transaction was to begin on a pass that was at rest
  abbrev pub HasStarted : View → ℕ → Result (Unit {0}) BeginError → Session T n → Type 0
  HasStarted begun left (Ok started) y = IsAsking t ty s [] [] y begun × (y.left ≡ left)
  HasStarted begun left (Err begin_error.InTransaction) y = ⊥
  HasStarted begun left (Err begin_error.Worn) y = ⊥
  HasStarted begun left (Err begin_error.NoMemory) y = HasFailed begun y × (y.left ≡ left)

  -- one ticket less is left where it was begun, and where memory was wanting
  abbrev pub HasBegun : Session T n → Result (Unit {0}) BeginError → Session T n → Type 0
  HasBegun x (Ok started) y = (live_of x ≡ None) × IsAsking t ty s [] [] y (view_of x) × (y.left + 1 ≡ x.left)
  HasBegun x (Err begin_error.InTransaction) y = (live_of x ≢ None) × IsUnchanged x y
  HasBegun x (Err begin_error.Worn) y = (live_of x ≡ None) × (x.left ≡ 0) × IsUnchanged x y
  HasBegun x (Err begin_error.NoMemory) y = (live_of x ≡ None) × HasFailed (view_of x) y × (y.left + 1 ≡ x.left)

  -- a call was answered: it and its reply come last. On all valid contents that have the claims of the pass as of a number of the clock,
  -- the calls, run one after the other, answer exactly these replies
  pub record IsAnswered (calls : List Call) (rs : List PlainReply) (call : Call) (y : Session T n) (begun : View) : Type 0 where
    pub reply : PlainReply
    pub at : ℕ
    pub asking : IsAsking t ty s (calls ++ call ∷ []) (rs ++ reply ∷ []) y begun
    pub answers : IsPrefix (t.meaning ty) (script_of (calls ++ call ∷ []) Commit) (view_of y) at (rs ++ reply ∷ [])

  -- it met an abort: nothing of the transaction took effect, and what is left of it tells so
  pub record WasAborted (calls : List Call) (y : Session T n) (begun : View) : Type 0 where
    pub free : IsFree t ty s y
    pub ended : FinishedAttempt AskedCalls
    pub abort : is_abort (verdict ended.verdict) ≡ true
    pub told : HasEnded t.meaning t.valid t.sizes script_in next_of left_of MayAskOf (passes_of s) ty (script_of calls Commit) ended begun (view_of y)

  -- where these calls had been asked
  abbrev pub HasAskedAfter : List Call → List PlainReply → View → Call → Result (Unit {0}) AskError → Session T n → Type 0
  HasAskedAfter calls rs begun call (Ok answered) y = IsAnswered calls rs call y begun
  HasAskedAfter calls rs begun call (Err ask_error.NoTransaction) y = ⊥
  HasAskedAfter calls rs begun call (Err ask_error.Untaken) y = IsAsking t ty s calls rs y begun × ((t.meaning ty).takes call → ⊥)
  HasAskedAfter calls rs begun call (Err ask_error.Aborted) y = WasAborted (calls ++ call ∷ []) y begun
  HasAskedAfter calls rs begun call (Err ask_error.NoMemory) y = HasFailed begun y

  pub record HasAsked (x : Session T n) (call : Call) (result : Result (Unit {0}) AskError) (y : Session T n) : Type 0 where
    pub free : live_of x ≡ None → (result ≡ Err ask_error.NoTransaction) × IsUnchanged x y
    pub asking : (calls : List Call) (rs : List PlainReply) (begun : View) → IsAsking t ty s calls rs x begun → HasAskedAfter calls rs begun call result y
    pub left : y.left ≡ x.left

  -- its record tells of these calls and of exactly these replies, and it stands in the order at this place
  pub record HasTakenPlace (calls : List Call) (rs : List PlainReply) (place : ℕ) (y : Session T n) (begun : View) : Type 0 where
    pub free : IsFree t ty s y
    pub ended : FinishedAttempt AskedCalls
    pub told : HasCommitted t (passes_of s) ty calls rs ended begun (view_of y)
    pub stands : place_of ended.verdict ≡ Ok place

  abbrev pub HasCommittedAfter : List Call → List PlainReply → View → Result ℕ CommitError → Session T n → Type 0
  HasCommittedAfter calls rs begun (Ok place) y = HasTakenPlace calls rs place y begun
  HasCommittedAfter calls rs begun (Err commit_error.NoTransaction) y = ⊥
  HasCommittedAfter calls rs begun (Err commit_error.Aborted) y = WasAborted calls y begun
  HasCommittedAfter calls rs begun (Err commit_error.NoMemory) y = HasFailed begun y

  -- it was given up, and its record tells so: it has read as of this place in the order
  pub record WasGivenUp (calls : List Call) (rs : List PlainReply) (place : ℕ) (y : Session T n) (begun : View) : Type 0 where
    pub free : IsFree t ty s y
    pub ended : FinishedAttempt AskedCalls
    pub told : HasCancelled t (passes_of s) ty calls rs ended begun (view_of y)
    pub stands : ended.verdict ≡ Cancelled place

  abbrev pub HasCancelledAfter : List Call → List PlainReply → View → Result ℕ CommitError → Session T n → Type 0
  HasCancelledAfter calls rs begun (Ok place) y = WasGivenUp calls rs place y begun
  HasCancelledAfter calls rs begun (Err commit_error.NoTransaction) y = ⊥
  HasCancelledAfter calls rs begun (Err commit_error.Aborted) y = ⊥
  HasCancelledAfter calls rs begun (Err commit_error.NoMemory) y = HasFailed begun y

  pub record HasEndedBy (x : Session T n) (result : Result ℕ CommitError) (y : Session T n) (ends : List Call → List PlainReply → View → Result ℕ CommitError → Session T n → Type 0) : Type 0 where
    pub free : live_of x ≡ None → (result ≡ Err commit_error.NoTransaction) × IsUnchanged x y
    pub asking : (calls : List Call) (rs : List PlainReply) (begun : View) → IsAsking t ty s calls rs x begun → ends calls rs begun result y
    pub left : y.left ≡ x.left
