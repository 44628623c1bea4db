use Rattle.std.proofs.Common.{◌≡◌, ◌++◌, take, map, string_bytes}
use Rattle.std.specs.List.{flat_map}
use Rattle.sto_trace_text.specs.Bodies.{answer_of}
use Rattle.sto_trace_text.specs.Named.{named}
use Rattle.sto_trace_text.specs.Texts.{answer_text}
use Rattle.sto_trace_text.proofs.step.push_answers.Given as goal

abbrev pub invariant-loop-answer : goal.invariant-loop-answer
invariant-loop-answer l = string_bytes l.out ≡ string_bytes l.fn.out ++ flat_map (answer_text (named l.names)) (map answer_of (take l.answer-index l.answers))
