-- How an attempt stands, between two of its events, to the view of its pass before its first event, `begun`, and to the view now;
-- and what it leaves where it ends.
use Rattle.std.specs.Prelude.{◌≡◌, ◌≤◌, ◌+◌, ℕ, List, map, false, Option, None, Some, Result, Ok, Err}
use Rattle.sto_part.specs.declared.NoMemory.{NoMemory}
use Rattle.sto_model.specs.declared.body.Next.{Next}
use Rattle.sto_model.specs.declared.call.Call.{Call}
use Rattle.sto_model.specs.PlainReplies.{PlainReply, plain_reply}
use Rattle.sto_model.specs.Run.{Behaviour}
use Rattle.sto_type.specs.Meaning.{Meaning}
use Rattle.sto_core.specs.declared.view.View.{View}
use Rattle.sto_core.specs.History.{Validity}
use Rattle.sto_attempt.specs.declared.attempt.Attempt.{Attempt}
use Rattle.sto_attempt.specs.declared.ready.Ready.{Ready}
use Rattle.sto_attempt_log.specs.declared.verdict.Verdict.{Verdict}
use Rattle.sto_attempt_log.specs.declared.verdict.Turn.{Turn}
use Rattle.sto_attempt_log.specs.declared.verdict.Turn.TheVariants as turns
use Rattle.sto_attempt_log.specs.declared.read_phase.ReadPhase.TheVariants.{Committing as CommittingReadPhase}
use Rattle.sto_attempt_log.specs.Log.{IsOnLog}
use Rattle.sto_attempt_log.specs.Standing.{Goes, Fits, IsFirst}
use Rattle.sto_attempt_log.specs.CommitPhases.{Deal, deal, Stands, SpaceAt}
use Rattle.sto_attempt_log.specs.Verdicts.{IsUndisturbed}
use Rattle.sto_attempt_log.specs.Bounds.{events_left}
use Rattle.sto_attempt_log.specs.Remaining.{commit_left}
use Rattle.sto_history.specs.Records.{TransactionPlace, is_abort}
use Rattle.sto_history.specs.Added.{Grows, IsKnown}
use Rattle.sto_history.specs.Running.{IsRunning}
use Rattle.sto_history.specs.Tried.{HasTried}
use Rattle.sto_transaction.specs.Going.{HasGone, InBody}
use Rattle.sto_transaction.specs.Plain.{verdict}
use Rattle.sto_attempt.specs.Commits.{lists_of}
use Rattle.sto_transaction.specs.Resting.{IsAtRest}
use Rattle.sto_transaction.specs.declared.machine.Machine.{Machine}
use Rattle.sto_transaction.specs.declared.machine.Machine.TheVariants.{Running, Committing, Over}
use Rattle.sto_transaction.specs.declared.machine.FinishedAttempt.{FinishedAttempt}

-- memory was wanting: the pass is at rest, the attempt has begun and drawn nothing
pub record HasStopped (m : Meaning) (sizes : List ℕ) (begun w : View) : Type 0 where
  pub rests : IsAtRest m sizes w
  pub grows : Grows begun w
  pub entries : w.entries ≡ begun.entries
  pub starts : w.starts ≡ begun.starts + 1
  pub draws : w.draws ≡ begun.draws

-- how many calls the body of an attempt may ask from the beginning, by what its trait says
abbrev pub calls_of : {T B : Type 0} → (B → ℕ) → Machine T B → ℕ
calls_of at_reset (Running a) = at_reset a.log.body
calls_of at_reset (Committing r) = at_reset r.log.body
calls_of at_reset Over = 0

-- what the traits of the type and of the body say: the meaning of a type, which contents are valid, and its sizes; the script of a
-- body, what it does next, how many calls it may still ask, and which
module _ {T B : Type 0} (meaning : T → Meaning) (valid : Validity) (sizes : T → List ℕ) (script : B → Behaviour) (next : B → List PlainReply → Next) (left : B → ℕ) (may : B → Call → Type 0) where
  -- what a commit is to do
  abbrev pub deal_of : Ready T B → Deal
  deal_of r =
      deal (meaning r.log.ty.now) valid (sizes r.log.ty.now) (script r.log.body) r.at r.log.table.base.items r.log.table.set.items (map plain_reply r.log.table.replies.items)
      (lists_of r).updates.items (lists_of r).seen.items (lists_of r).loaded.items (lists_of r).tasks.items (lists_of r).checks.items (lists_of r).places.items

  -- the log of an attempt of a body with the script f, on a type
  pub record IsOwnLog (ty : T) (f : Behaviour) (a : Attempt T B) : Type 0 where
    pub same_type : a.log.ty.now ≡ ty
    pub same_script : script a.log.body ≡ f
    pub log :
        IsOnLog (meaning a.log.ty.now) (next a.log.body) (script a.log.body) (left a.log.body) (may a.log.body)
        a.log.table.base.items a.log.table.set a.log.table.cache a.log.table.replies.items

  -- the body runs; beside no other pass it has come to no extension
  pub record RunsBody (passes : ℕ) (ty : T) (f : Behaviour) (a : Attempt T B) (begun v : View) : Type 0 where
    pub own : IsOwnLog ty f a
    pub goes :
        Goes (meaning a.log.ty.now) valid (sizes a.log.ty.now) (script a.log.body) a.at a.read_phase a.log.table.words.items a.log.table.extension
        a.log.table.base.items a.log.table.set.items a.log.table.set.updates (map plain_reply a.log.table.replies.items) v
    pub gone : HasGone a.read_phase begun v a.at
    pub alone : passes ≡ 1 → IsFirst a.read_phase

  -- the body commits with an update
  pub record IsReady (ty : T) (f : Behaviour) (a : Attempt T B) (begun v : View) : Type 0 where
    pub own : IsOwnLog ty f a
    pub fits :
        Fits (meaning a.log.ty.now) valid (sizes a.log.ty.now) (script a.log.body) a.at CommittingReadPhase a.log.table.words.items
        a.log.table.base.items a.log.table.set.updates (map plain_reply a.log.table.replies.items) v
    pub in_body : InBody begun v a.at
    pub committing : a.read_phase ≡ CommittingReadPhase

  -- the commit is under way; beside no other pass it has found no part changed
  pub record Commits (passes : ℕ) (ty : T) (f : Behaviour) (r : Ready T B) (begun v : View) : Type 0 where
    pub same_type : r.log.ty.now ≡ ty
    pub same_script : script r.log.body ≡ f
    pub taken : (call : Call) → may r.log.body call → (meaning r.log.ty.now).takes call
    pub stands : Stands (deal_of r) (lists_of r).found_tickets (lists_of r).loaded_words.items r.commit_phase v
    pub space : SpaceAt (meaning r.log.ty.now).widths (lists_of r).tasks.items (lists_of r).loaded_words r.commit_phase
    pub copy : r.log.table.set.updates ≡ (lists_of r).updates.items
    pub running : IsRunning begun v
    pub late : (k : ℕ) → IsKnown begun k → k ≤ r.at
    pub alone : passes ≡ 1 → IsUndisturbed r.at (lists_of r).found_tickets.items None r.commit_phase

  -- an attempt of a body with the script f, on a type and one of so many passes, has led from the view `begun` to the view v, and has
  -- further events
  abbrev pub Proceeds : ℕ → T → Behaviour → Machine T B → View → View → Type 0
  Proceeds passes ty f (Running a) begun v =
      IsAtRest (meaning ty) (sizes ty) begun × RunsBody passes ty f a begun v
  Proceeds passes ty f (Committing r) begun v =
      IsAtRest (meaning ty) (sizes ty) begun × Commits passes ty f r begun v
  Proceeds passes ty f Over begun v = ⊥

  -- it has ended: it is told by its record at every place, its pass is at rest, and beside no other pass it was not aborted
  pub record HasEnded (passes : ℕ) (ty : T) (f : Behaviour) (e : FinishedAttempt B) (begun w : View) : Type 0 where
    pub same_script : script e.body ≡ f
    pub taken : (call : Call) → may e.body call → (meaning ty).takes call
    pub tried : (place : TransactionPlace) → HasTried (meaning ty) begun w f place (record { place = place; replies = map plain_reply e.replies.items; verdict = verdict e.verdict })
    pub rests : IsAtRest (meaning ty) (sizes ty) w
    pub alone : passes ≡ 1 → is_abort (verdict e.verdict) ≡ false

  -- its body is ready to commit with an update
  abbrev pub IsAtSeal : T → Behaviour → Machine T B → View → View → Type 0
  IsAtSeal ty f (Running a) begun w = IsAtRest (meaning ty) (sizes ty) begun × IsReady ty f a begun w
  IsAtSeal ty f _ begun w = ⊥

  -- it has ended so, and what is left of it was not yet taken
  abbrev pub IsAtEnd : ℕ → T → Behaviour → Machine T B → Verdict → View → View → Type 0
  IsAtEnd passes ty f (Running a) x begun w = HasEnded passes ty f (record { body = a.log.body; replies = a.log.table.replies; verdict = x }) begun w
  IsAtEnd passes ty f (Committing r) x begun w = HasEnded passes ty f (record { body = r.log.body; replies = r.log.table.replies; verdict = x }) begun w
  IsAtEnd passes ty f Over x begun w = ⊥

  -- where an event leads it
  abbrev pub HasTurned : ℕ → T → Behaviour → Result Turn NoMemory → Machine T B → View → View → Type 0
  HasTurned passes ty f (Ok turns.More) machine begun w = Proceeds passes ty f machine begun w
  HasTurned passes ty f (Ok turns.Ready) machine begun w = IsAtSeal ty f machine begun w
  HasTurned passes ty f (Ok (turns.Ended x)) machine begun w = IsAtEnd passes ty f machine x begun w
  HasTurned passes ty f (Err error) machine begun w = HasStopped (meaning ty) (sizes ty) begun w

  -- the same where a body that is ready was sealed
  abbrev pub HasAdvanced : ℕ → T → Behaviour → Result (Option Verdict) NoMemory → Machine T B → View → View → Type 0
  HasAdvanced passes ty f (Ok None) machine begun w = Proceeds passes ty f machine begun w
  HasAdvanced passes ty f (Ok (Some x)) machine begun w = IsAtEnd passes ty f machine x begun w
  HasAdvanced passes ty f (Err error) machine begun w = HasStopped (meaning ty) (sizes ty) begun w

  -- what a step leads to: it proceeds, or it has ended
  abbrev pub HasStepped : ℕ → T → Behaviour → Result (Option (FinishedAttempt B)) NoMemory → Machine T B → View → View → Type 0
  HasStepped passes ty f (Ok None) machine begun w = Proceeds passes ty f machine begun w
  HasStepped passes ty f (Ok (Some e)) machine begun w = HasEnded passes ty f e begun w
  HasStepped passes ty f (Err error) machine begun w = HasStopped (meaning ty) (sizes ty) begun w

  -- what all steps lead to
  abbrev pub HasFinished : ℕ → T → Behaviour → Result (FinishedAttempt B) NoMemory → View → View → Type 0
  HasFinished passes ty f (Ok e) begun w = HasEnded passes ty f e begun w
  HasFinished passes ty f (Err error) begun w = HasStopped (meaning ty) (sizes ty) begun w

  -- how many events it has left at most
  abbrev pub machine_left : Machine T B → ℕ
  machine_left (Running a) = events_left (left a.log.body) (meaning a.log.ty.now).widths a.read_phase a.log.table.words.items a.log.table.extension a.log.table.base.items
  machine_left (Committing r) = commit_left (deal_of r) r.commit_phase
  machine_left Over = 0

  -- an attempt went on: its pass made at most as many steps as there are fewer events left, and its body may ask as many calls
  pub record HasSpent (at_reset : B → ℕ) (old new : Machine T B) (v w : View) : Type 0 where
    pub fewer : machine_left new ≤ machine_left old
    pub taken : w.steps + machine_left new ≤ v.steps + machine_left old
    pub calls : calls_of at_reset new ≡ calls_of at_reset old

  abbrev pub left_after : Option (FinishedAttempt B) → Machine T B → ℕ
  left_after None machine = machine_left machine
  left_after (Some e) machine = 0
