use Rattle.std.proofs.Common.{ℕ, List, ◌++◌, ap, ◌∙◌, codes}
use Rattle.serde_json.specs.Written.{has_float, compact_text}
use Rattle.sto_trace_text.specs.Bodies.{event_with}
use Rattle.sto_trace_text.specs.Named.{named}
use Rattle.sto_trace_text.proofs.Floats.{no_float}
use Rattle.sto_trace_text.proofs.json.line_of.Goals as goal

pub returns : goal.returns
returns c =
    let value = c.in_ok-value.ensures in
    let none = no_float (named c.args.names.now) (event_with c.args.number c.args.step.now c.args.answers.now) in
    c.in_ok-push_str.ensures.bytes ∙ ap (λ (l : List ℕ). l ++ codes "\n") (c.in_ok-line.ensures.text (ap has_float value ∙ none) ∙ ap compact_text value)
