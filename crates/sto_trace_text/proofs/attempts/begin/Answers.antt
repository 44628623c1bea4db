use Rattle.std.proofs.Common.{subst, sym, ◌∙◌}
use Rattle.std.specs.Option.{option_map}
use Rattle.sto_lang.specs.Views.{file, script}
use Rattle.sto_trace_text.specs.Bodies.{IsBodyOf}
use Rattle.sto_trace_text.specs.Events.{begun}
use Rattle.sto_trace_text.proofs.Places.{place_weighs}
use Rattle.sto_trace_text.proofs.Hearing.{new_body}
use Rattle.std.proofs.Common.{Some}
use Rattle.sto_trace_text.proofs.attempts.begin.Goals as goal

pub new-requires : goal.new-requires
new-requires c = place_weighs (file c.args.file.now) c.args.thread c.args.position (script c.in-Some.script.now) c.requires (sym c.in-Some.ensures)

pub returns-in_ok-new-in-Some : goal.returns-in_ok-new-in-Some
returns-in_ok-new-in-Some c =
    let body = c.in_ok-new-in-Some.field-0 in
    let made = new_body (script c.in-Some.script.now) body (c.in_ok-new-in-Some.ensures.begins ∙ c.in_ok-new-in-Some.ensures.script) in
    subst (λ o. IsBodyOf (Some body) (option_map begun o)) c.in-Some.ensures made
