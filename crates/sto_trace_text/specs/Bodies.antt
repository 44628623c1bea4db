-- The bodies by which the code follows the attempts of threads.
use Rattle.std.specs.Prelude.{◌≡◌, ℕ, List, [], ◌∷◌, ◌++◌, length, map, slice_get, Option, None, Some}
use Rattle.std.specs.Option.{option_map}
use Rattle.sto_model.specs.PlainReplies.{PlainReply, plain_reply}
use Rattle.sto_model.specs.declared.call.Call.{Call}
use Rattle.sto_lang.specs.Scripts.{File}
use Rattle.sto_script.specs.Meaning.{meaning_of}
use Rattle.sto_script.specs.Bodies.{then_of}
use Rattle.sto_script.specs.declared.body.ScriptBody.{ScriptBody}
use Rattle.sto_trace.specs.declared.Step.{Step}
use Rattle.sto_trace_text.specs.Events.{Attempt, Answer, Event, hearing, asked_by, answers, making, made, attempt_of, event_after}
use Rattle.sto_trace_text.specs.declared.attempts.Answer as code

-- a reply and its call as the definition sees them
abbrev pub answer_of : code.Answer → Answer
answer_of answer = record { call = answer.call; reply = plain_reply answer.reply.now }

-- an event by what it is told with
abbrev pub event_with : ℕ → Step → List code.Answer → Event
event_with number step answers = record { number = number; step = step; answers = map answer_of answers }

-- the body does next what the attempt does
abbrev pub IsBodyOf : Option ScriptBody → Option Attempt → Type 0
IsBodyOf None None = Unit {0}
IsBodyOf None (Some attempt) = ⊥
IsBodyOf (Some body) None = ⊥
IsBodyOf (Some body) (Some attempt) = (replies : List PlainReply) → then_of body replies ≡ meaning_of attempt.script (attempt.heard ++ replies)

-- the body has heard a reply, which answers this call
abbrev pub HearsReply : PlainReply → Option ScriptBody → Option Call → Option ScriptBody → Type 0
HearsReply reply before call after =
    (attempt : Option Attempt) → IsBodyOf before attempt → (call ≡ asked_by attempt) × IsBodyOf after (option_map (hearing (reply ∷ [])) attempt)

-- it has heard replies, and these are they with their calls
abbrev pub HearsReplies : List PlainReply → Option ScriptBody → List Answer → Option ScriptBody → Type 0
HearsReplies replies before heard after =
    (attempt : Option Attempt) → IsBodyOf before attempt → (heard ≡ answers attempt replies) × IsBodyOf after (option_map (hearing replies) attempt)

-- it has gone through a step of its thread, whose replies with their calls are these
abbrev pub GoesThrough : File → Step → Option ScriptBody → List Answer → Option ScriptBody → Type 0
GoesThrough file step before heard after =
    (attempt : Option Attempt) → IsBodyOf before attempt
    → (heard ≡ answers (making file attempt step) (map plain_reply step.replies.items)) × IsBodyOf after (made file attempt step)

-- there is a body for each thread of the file: that of the attempt that it makes after these steps
pub record AreBodiesAfter (file : File) (steps : List Step) (bodies : List (Option ScriptBody)) : Type 0 where
  pub each : length bodies ≡ length file.threads
  pub follow : (thread : ℕ) (body : Option ScriptBody) → slice_get bodies thread ≡ Some body → IsBodyOf body (attempt_of file thread steps)

-- the bodies have gone through a step, whose replies with their calls are these
abbrev pub GoThrough : File → Step → List (Option ScriptBody) → List Answer → List (Option ScriptBody) → Type 0
GoThrough file step before heard after =
    (earlier : List Step) → AreBodiesAfter file earlier before → (heard ≡ (event_after file earlier step).answers) × AreBodiesAfter file (earlier ++ step ∷ []) after
