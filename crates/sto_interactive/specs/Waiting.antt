-- An attempt of any body that may wait at its end, and go on where the body is given more to do.
use Rattle.std.specs.Prelude.{◌≡◌, ℕ, List, ◌++◌, Option, Some, None, Result, Ok, Err}
use Rattle.sto_part.specs.declared.NoMemory.{NoMemory}
use Rattle.sto_model.specs.PlainReplies.{PlainReply}
use Rattle.sto_model.specs.Run.{Behaviour}
use Rattle.sto_model.specs.Bodies.{OfBody}
use Rattle.sto_type.specs.Traits.{OfType}
use Rattle.sto_core.specs.declared.view.View.{View}
use Rattle.sto_attempt_log.specs.declared.verdict.Verdict.{Verdict}
use Rattle.sto_attempt_log.specs.declared.verdict.Verdict.TheVariants.{Wrote, Read, Locked, Changed}
use Rattle.sto_attempt_log.specs.declared.verdict.Turn.{Turn}
use Rattle.sto_attempt_log.specs.declared.verdict.Turn.TheVariants.{More, Ready, Ended}
use Rattle.sto_attempt.specs.declared.attempt.Attempt.{Attempt}
use Rattle.sto_attempt.specs.Attempts.{Waits}
use Rattle.sto_transaction.specs.Going.{InBody}
use Rattle.sto_transaction.specs.Machines.{HasStopped, HasEnded, IsOwnLog, IsReady, RunsBody}

-- further replies were heard
pub record HearsMore (old now : List PlainReply) : Type 0 where
  pub more : List PlainReply
  pub all : now ≡ old ++ more

-- the body is at its end
abbrev pub IsEnd : Turn → Type 0
IsEnd More = ⊥
IsEnd _ = Unit {0}

-- the verdict of an abort
abbrev pub abort_of : Turn → Option Verdict
abort_of (Ended (Locked n p)) = Some (Locked n p)
abort_of (Ended (Changed n p t)) = Some (Changed n p t)
abort_of _ = None

-- t and b are what the traits of the type and of the body say
module _ {T B : Type 0} (t : OfType T) (b : OfBody B) where
  -- an attempt of a body with the script f, on a type, waits: it has led from the view `begun` of its pass to the view v
  pub record IsWaiting (ty : T) (f : Behaviour) (a : Attempt T B) (begun v : View) : Type 0 where
    pub own : IsOwnLog t.meaning t.valid t.sizes b.script b.then b.left b.may_ask ty f a
    pub waits : Waits t b a v
    pub in_body : InBody begun v a.at

  -- it has ended so, and its record tells of it
  abbrev pub EndsSo : ℕ → T → Behaviour → Attempt T B → Verdict → View → View → Type 0
  EndsSo passes ty f a x begun w =
      HasEnded t.meaning t.valid t.sizes b.script b.then b.left b.may_ask passes ty f (record { body = a.log.body; replies = a.log.table.replies; verdict = x }) begun w

  -- after an end without an update it waits, too; a commit is not among the turns
  abbrev pub WaitsAfter : Verdict → T → Behaviour → Attempt T B → View → View → Type 0
  WaitsAfter (Wrote n) ty f a begun w = ⊥
  WaitsAfter (Read n) ty f a begun w = IsWaiting ty f a begun w
  WaitsAfter x ty f a begun w = Unit {0}

  -- where a turn has led it
  abbrev pub HasCome : ℕ → T → Behaviour → Turn → Attempt T B → View → View → Type 0
  HasCome passes ty f More a begun w = RunsBody t.meaning t.valid t.sizes b.script b.then b.left b.may_ask passes ty f a begun w
  HasCome passes ty f Ready a begun w = IsReady t.meaning t.valid t.sizes b.script b.then b.left b.may_ask ty f a begun w
  HasCome passes ty f (Ended x) a begun w = EndsSo passes ty f a x begun w × WaitsAfter x ty f a begun w

  -- the same, or memory was wanting
  abbrev pub HasRunOn : ℕ → T → Behaviour → Result Turn NoMemory → Attempt T B → View → View → Type 0
  HasRunOn passes ty f (Ok turn) a begun w = HasCome passes ty f turn a begun w
  HasRunOn passes ty f (Err error) a begun w = HasStopped (t.meaning ty) (t.sizes ty) begun w
