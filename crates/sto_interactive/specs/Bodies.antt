-- What the body of calls that come one by one means.
use Rattle.std.specs.Prelude.{ℕ, ◌-◌, List, length, drop}
use Rattle.std.specs.List.{Contains}
use Rattle.sto_model.specs.Bodies.{OfBody}
use Rattle.sto_model.specs.PlainReplies.{PlainReply}
use Rattle.sto_model.specs.declared.call.Call.{Call}
use Rattle.sto_model.specs.declared.body.Next.{Next}
use Rattle.sto_interactive.specs.Scripts.{script_of}
use Rattle.sto_interactive.specs.declared.asked_calls.AskedCalls.{AskedCalls}

-- from where it stands: the calls that were answered are asked no more
abbrev pub next_of : AskedCalls → List PlainReply → Next
next_of b rs = script_of (drop b.heard b.calls.items) b.end rs

abbrev pub script_in : AskedCalls → List PlainReply → Next
script_in b rs = script_of b.calls.items b.end rs

abbrev pub left_of : AskedCalls → ℕ
left_of b = length b.calls.items - b.heard

abbrev pub left_at_reset_of : AskedCalls → ℕ
left_at_reset_of b = length b.calls.items

abbrev pub MayAskOf : AskedCalls → Call → Type 0
MayAskOf b call = Contains b.calls.items call

-- the same, whole, as the trait has it
abbrev pub asked : OfBody AskedCalls
asked = record { then = next_of; script = script_in; left = left_of; left_at_reset = left_at_reset_of; may_ask = MayAskOf }
