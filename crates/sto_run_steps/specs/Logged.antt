-- The steps of a run, where they are kept.
use Rattle.std.specs.Prelude.{◌≡◌, ℕ, ◌+◌, nat_lt, if◌then◌else◌, List, [], ◌∷◌, ◌++◌, map, length, drop, slice_get, ◌-◌, Option, None, Some}
use Rattle.sto_part.specs.Listed.{Listed}
use Rattle.sto_model.specs.PlainReplies.{PlainReply, plain_reply}
use Rattle.sto_model.specs.declared.reply.Reply.{Reply}
use Rattle.sto_core.specs.declared.view.View.{View}
use Rattle.sto_core.specs.History.{Validity}
use Rattle.sto_attempt_log.specs.declared.verdict.Verdict.{Verdict}
use Rattle.sto_transaction.specs.declared.record.Record.{Record}
use Rattle.sto_trace.specs.declared.Step.{Step}
use Rattle.sto_trace.specs.Deeds.{IsDone}
use Rattle.sto_run_steps.specs.declared.seat.Seat.{Seat}

-- the steps so far, where they are kept
abbrev pub RunLog : Type 0
RunLog = Option (List Step)

abbrev pub kept : Option (Listed Step) → RunLog
kept None = None
kept (Some steps) = Some steps.items

-- how many steps are kept at most
abbrev pub most_kept : ℕ
most_kept = 100000

-- one step more; steps that would be too many are given up
abbrev pub with_step : List Step → Step → RunLog
with_step steps step = if nat_lt (length steps) most_kept then Some (steps ++ step ∷ []) else None

-- where steps are kept, one of this kind was added
abbrev pub HasLogged : (Step → Type 0) → RunLog → RunLog → Type 0
HasLogged kind None later = later ≡ None
HasLogged kind (Some steps) later = (step : Step) × kind step × (later ≡ with_step steps step)

-- replies as plain data; none where there are no more
abbrev pub answered : Option (Listed Reply) → List PlainReply
answered None = []
answered (Some replies) = map plain_reply replies.items

abbrev pub answered_in : Option Record → List PlainReply
answered_in None = []
answered_in (Some r) = map plain_reply r.replies.items

abbrev pub ending_of : Option Record → Option Verdict
ending_of None = None
ending_of (Some r) = Some r.verdict

-- what the next attempt of a thread has been answered so far: none has begun, or one runs
abbrev pub heard_before : {M : Type 0} → (M → List PlainReply) → Option M → List PlainReply
heard_before heard None = []
heard_before heard (Some trial) = heard trial

-- what the attempt that has made the last event has been answered: it runs, or has left this record
abbrev pub heard_after : {M : Type 0} → (M → List PlainReply) → Option M → Option Record → List PlainReply
heard_after heard None last = answered_in last
heard_after heard (Some trial) last = heard trial

-- how it ended, if it did
abbrev pub end_after : {M : Type 0} → Option M → Option Record → Option Verdict
end_after None last = ending_of last
end_after (Some trial) last = None

abbrev pub last_record : {M : Type 0} → Seat M → Option Record
last_record s = slice_get s.records.items (length s.records.items - 1)

-- a thread that had been answered so much has made this step, at this position
pub record IsLast {M : Type 0} (heard : M → List PlainReply) (thread position before : ℕ) (later : Seat M) (step : Step) : Type 0 where
  pub of_thread : step.thread ≡ thread
  pub at_position : step.position ≡ position
  -- the replies are those beyond what had been heard before
  pub answers : map plain_reply step.replies.items ≡ drop before (heard_after heard later.trial (last_record later))
  pub ends : step.end ≡ end_after later.trial (last_record later)

-- the event of a thread that led from one view of its pass to another is this step: the next attempt of the thread made it
pub record IsStep {M : Type 0} (valid : Validity) (passes : ℕ) (heard : M → List PlainReply) (thread : ℕ) (v : View) (s : Seat M) (w : View) (later : Seat M) (step : Step) : Type 0 where
  pub done : IsDone valid passes step.deed v w
  pub last : IsLast heard thread (s.ended + 1) (length (heard_before heard s.trial)) later step
