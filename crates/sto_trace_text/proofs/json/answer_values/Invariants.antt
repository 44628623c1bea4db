use Rattle.std.proofs.Common.{◌≡◌, take, map}
use Rattle.serde_json.specs.View.{view}
use Rattle.sto_trace_text.specs.Bodies.{answer_of}
use Rattle.sto_trace_text.specs.Json.{answer_data}
use Rattle.sto_trace_text.specs.Named.{named}
use Rattle.sto_trace_text.proofs.json.answer_values.Given as goal

abbrev pub invariant-loop-answer : goal.invariant-loop-answer
invariant-loop-answer l = map view l.items.items ≡ map (answer_data (named l.names)) (map answer_of (take l.answer-index l.answers))
