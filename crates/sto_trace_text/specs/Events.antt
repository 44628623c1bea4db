-- The events of a trace: each with its number, and with the calls that its replies answer.
use Rattle.std.specs.Prelude.{ℕ, ◌+◌, List, [], ◌∷◌, ◌++◌, length, map, true, false, Bool, ◌==◌, if◌then◌else◌, Option, None, Some}
use Rattle.std.specs.Option.{option_map}
use Rattle.sto_model.specs.PlainReplies.{PlainReply, plain_reply}
use Rattle.sto_model.specs.declared.call.Call.{Call}
use Rattle.sto_model.specs.declared.body.Next.{Next}
use Rattle.sto_model.specs.declared.body.Next.TheVariants as next
use Rattle.sto_lang.specs.Scripts.{Script, File}
use Rattle.sto_script.specs.Meaning.{meaning_of}
use Rattle.sto_report_spec.specs.Orders.{transaction_at}
use Rattle.sto_trace.specs.declared.Deed.{Deed}
use Rattle.sto_trace.specs.declared.Deed.TheVariants.{Start, Renew, Open, Word, Close, Recheck, Lock, Test, Draw, Check, Decide, Put, Release, Unlock}
use Rattle.sto_trace.specs.declared.Step.{Step}

-- an attempt: its transaction, and the replies that it has heard
pub record Attempt : Type 0 where
  pub script : Script
  pub heard : List PlainReply

-- an attempt that has heard nothing
abbrev pub begun : Script → Attempt
begun script = record { script = script; heard = [] }

-- an attempt that has heard these replies, too
abbrev pub hearing : List PlainReply → Attempt → Attempt
hearing replies attempt = record attempt { heard = attempt.heard ++ replies }

-- the call that is asked next, where one is
abbrev pub asked_in : Next → Option Call
asked_in (next.Ask call) = Some call
asked_in next.Commit = None
asked_in next.Cancel = None

abbrev pub asked_by : Option Attempt → Option Call
asked_by None = None
asked_by (Some attempt) = asked_in (meaning_of attempt.script attempt.heard)

-- a reply, and the call that it answers
pub record Answer : Type 0 where
  pub call : Option Call
  pub reply : PlainReply

-- each reply answers the call that the attempt asks after the replies before it
abbrev pub answers : Option Attempt → List PlainReply → List Answer
answers attempt [] = []
answers attempt (reply ∷ replies) = record { call = asked_by attempt; reply = reply } ∷ answers (option_map (hearing (reply ∷ [])) attempt) replies

-- a start begins an attempt
abbrev pub is_start : Deed → Bool
is_start (Start clock) = true
is_start (Renew clock) = false
is_start (Open part version) = false
is_start (Word part word value) = false
is_start (Close part version) = false
is_start (Recheck part version) = false
is_start (Lock part version) = false
is_start (Test part version) = false
is_start (Draw ticket) = false
is_start (Check part version) = false
is_start (Decide commit) = false
is_start (Put part word value) = false
is_start (Release part) = false
is_start (Unlock part) = false

-- the attempt that makes a step: a new one of the transaction at its place, where it is a start, and else that of its thread so far
abbrev pub making : File → Option Attempt → Step → Option Attempt
making file attempt step = if is_start step.deed then option_map begun (transaction_at file (step.thread, step.position)) else attempt

-- the same after the step: it has heard the replies as well
abbrev pub made : File → Option Attempt → Step → Option Attempt
made file attempt step = option_map (hearing (map plain_reply step.replies.items)) (making file attempt step)

-- where the steps of a thread among these lead an attempt
abbrev pub led : File → ℕ → Option Attempt → List Step → Option Attempt
led file thread attempt [] = attempt
led file thread attempt (step ∷ steps) = led file thread (if step.thread == thread then made file attempt step else attempt) steps

-- the attempt that a thread makes after these steps; none before its first start
abbrev pub attempt_of : File → ℕ → List Step → Option Attempt
attempt_of file thread steps = led file thread None steps

-- an event: its number, its step, and what was answered with it
pub record Event : Type 0 where
  pub number : ℕ
  pub step : Step
  pub answers : List Answer

-- the event that a step makes after earlier ones
abbrev pub event_after : File → List Step → Step → Event
event_after file earlier step = record {
  number = length earlier + 1;
  step = step;
  answers = answers (making file (attempt_of file step.thread earlier) step) (map plain_reply step.replies.items);
}

abbrev pub events_after : File → List Step → List Step → List Event
events_after file earlier [] = []
events_after file earlier (step ∷ steps) = event_after file earlier step ∷ events_after file (earlier ++ step ∷ []) steps

-- the events of a trace, which are numbered from 1
abbrev pub events_of : File → List Step → List Event
events_of file steps = events_after file [] steps
