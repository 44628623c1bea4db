use Rattle.std.proofs.Common.{◌≡◌, take, string_bytes}
use Rattle.std.specs.List.{flat_map}
use Rattle.sto_trace_text.specs.Bodies.{AreBodiesAfter}
use Rattle.sto_trace_text.specs.Events.{events_of}
use Rattle.sto_trace_text.specs.Named.{named}
use Rattle.sto_trace_text.specs.Texts.{event_text}
use Rattle.sto_trace_text.proofs.step.trace_text.Given as goal

abbrev pub invariant-loop-place : goal.invariant-loop-place
invariant-loop-place l =
    (string_bytes l.out ≡ flat_map (event_text (named l.names)) (events_of (named l.names).file (take l.place l.steps)))
    × AreBodiesAfter (named l.names).file (take l.place l.steps) l.attempts.items
