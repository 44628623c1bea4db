use Rattle.std.proofs.Common.{◌∙◌, sym, map}
use Rattle.clap.proofs.WalkLemmas.{list_any-map}
use Rattle.sto_args.specs.Given.{is_refused}
use Rattle.sto_args.proofs.Refused.{command_refused}
use Rattle.sto_args.proofs.command.command_from.Goals as goal

pub returns-then-has_refused-clause-command : goal.returns-then-has_refused-clause-command
returns-then-has_refused-clause-command c =
    command_refused c.args.word.now (map (λ option. option.now) c.args.options.now) (sym (list_any-map is_refused (λ option. option.now) c.args.options.now) ∙ sym c.has_refused.ensures ∙ c.if-has_refused.true)

pub run-requires : goal.run-requires
run-requires c = sym (list_any-map is_refused (λ option. option.now) c.args.options.now) ∙ sym c.has_refused.ensures ∙ c.if-has_refused.false

pub generate-requires : goal.generate-requires
generate-requires c = sym (list_any-map is_refused (λ option. option.now) c.args.options.now) ∙ sym c.has_refused.ensures ∙ c.if-has_refused.false

pub trace-requires : goal.trace-requires
trace-requires c = sym (list_any-map is_refused (λ option. option.now) c.args.options.now) ∙ sym c.has_refused.ensures ∙ c.if-has_refused.false

pub draw-requires : goal.draw-requires
draw-requires c = sym (list_any-map is_refused (λ option. option.now) c.args.options.now) ∙ sym c.has_refused.ensures ∙ c.if-has_refused.false

pub explore-requires : goal.explore-requires
explore-requires c = sym (list_any-map is_refused (λ option. option.now) c.args.options.now) ∙ sym c.has_refused.ensures ∙ c.if-has_refused.false

pub schedules-requires : goal.schedules-requires
schedules-requires c = sym (list_any-map is_refused (λ option. option.now) c.args.options.now) ∙ sym c.has_refused.ensures ∙ c.if-has_refused.false

pub step-requires : goal.step-requires
step-requires c = sym (list_any-map is_refused (λ option. option.now) c.args.options.now) ∙ sym c.has_refused.ensures ∙ c.if-has_refused.false

pub bench-requires : goal.bench-requires
bench-requires c = sym (list_any-map is_refused (λ option. option.now) c.args.options.now) ∙ sym c.has_refused.ensures ∙ c.if-has_refused.false
