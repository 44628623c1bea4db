use Rattle.std.proofs.Common.{List, ◌++◌, string_bytes, ap, ◌∙◌}
use Rattle.sto_trace_text.specs.Bodies.{event_with}
use Rattle.sto_trace_text.specs.declared.attempts.Answer.{Answer}
use Rattle.sto_trace_text.specs.Named.{named}
use Rattle.sto_trace_text.specs.Json.{json_line}
use Rattle.sto_trace_text.proofs.Led.{line_goes}
use Rattle.sto_trace_text.proofs.json.push_step.Goals as goal

pub returns-in-Ok : goal.returns-in-Ok
returns-in-Ok c =
    let names = named c.args.names.now in
    line_goes (json_line names) names.file c.args.step.now c.args.number c.args.attempts.now.items (string_bytes c.args.out.now) c.answers.new.attempts.items (string_bytes c.push_event.new.out)
    c.in_ok-answers.answers.items c.in_ok-answers.ensures
    (c.in-Ok.ensures ∙ ap (λ (l : List Answer). string_bytes c.args.out.now ++ json_line names (event_with c.args.number c.args.step.now l)) c.as_slice.ensures.items)
