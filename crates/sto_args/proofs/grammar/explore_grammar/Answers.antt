use Rattle.std.proofs.Common.{◌≡◌, ◌∙◌, ap, codes}
use Rattle.std.proofs.lemmas.Result.{IfOk-weaker}
use Rattle.clap.specs.Simple.{app_of, with_rule}
use Rattle.sto_args.specs.Commands.{explore_takes}
use Rattle.sto_args.specs.Grammars.{app_for, option_rule}
use Rattle.sto_args.proofs.grammar.explore_grammar.Goals as goal

pub returns : goal.returns
returns c =
    IfOk-weaker c.with_option-5.result
    (λ x. app_of x ≡ with_rule (app_of c.in_ok-fourth.fourth) (option_rule (codes "never")))
    (λ x. app_of x ≡ app_for (codes "explore") explore_takes)
    (λ x h. h ∙ ap (λ a. with_rule a (option_rule (codes "never")))
    (c.in_ok-fourth.ensures ∙ ap (λ a. with_rule a (option_rule (codes "where")))
    (c.in_ok-third.ensures ∙ ap (λ a. with_rule a (option_rule (codes "json")))
    (c.in_ok-second.ensures ∙ ap (λ a. with_rule a (option_rule (codes "states")))
    (c.in_ok-first.ensures ∙ ap (λ a. with_rule a (option_rule (codes "by"))) c.bare.ensures)))))
    c.with_option-5.ensures
