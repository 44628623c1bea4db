use Rattle.std.proofs.Common.{◌≡◌, ◌∙◌, ap, codes}
use Rattle.std.proofs.lemmas.Result.{IfOk-weaker}
use Rattle.clap.specs.Simple.{app_of, with_rule}
use Rattle.sto_args.specs.Commands.{draw_takes}
use Rattle.sto_args.specs.Grammars.{app_for, option_rule}
use Rattle.sto_args.proofs.grammar.draw_grammar.Goals as goal

pub returns : goal.returns
returns c =
    IfOk-weaker c.with_option-2.result
    (λ x. app_of x ≡ with_rule (app_of c.in_ok-first.first) (option_rule (codes "schedule")))
    (λ x. app_of x ≡ app_for (codes "draw") draw_takes)
    (λ x h. h ∙ ap (λ a. with_rule a (option_rule (codes "schedule")))
    (c.in_ok-first.ensures ∙ ap (λ a. with_rule a (option_rule (codes "tries"))) c.bare.ensures))
    c.with_option-2.ensures
