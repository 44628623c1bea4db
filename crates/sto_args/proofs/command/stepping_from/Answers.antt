use Rattle.std.proofs.Common.{◌≡◌, ◌∙◌, sym, ap, subst, map, codes, true, is_some}
use Rattle.std.specs.Option.{option_and_then, option_map}
use Rattle.clap.specs.Faults.{is_simple_and_free}
use Rattle.clap.specs.Simple.{app_of}
use Rattle.sto_args.specs.Given.{value_of}
use Rattle.sto_args.specs.Grammars.{Finds}
use Rattle.sto_args.specs.Commands.{step_takes, stepping_of, tries_of}
use Rattle.sto_args.proofs.Grammars.{taken, not_taken, step_is_built, step_is_simple}
use Rattle.sto_args.proofs.command.stepping_from.Goals as goal

pub matches_in-requires : goal.matches_in-requires
matches_in-requires c = subst (λ a. is_simple_and_free a ≡ true) (sym c.in-Ok.ensures) step_is_simple

pub returns-in_default-2-clause-stepping : goal.returns-in_default-2-clause-stepping
returns-in_default-2-clause-stepping c =
    let words = map (λ word. word.now) c.args.words.now in
    let finds = subst (Finds (app_of c.in-Ok.grammar) words) c.in_default-2.is c.in_ok-matches.ensures in
    sym (ap (option_and_then stepping_of) (not_taken (codes "step") step_takes step_is_built (app_of c.in-Ok.grammar) c.in-Ok.ensures words c.requires finds))

pub returns-in_default-tries-clause-stepping : goal.returns-in_default-tries-clause-stepping
returns-in_default-tries-clause-stepping c =
    let words = map (λ word. word.now) c.args.words.now in
    let finds = subst (Finds (app_of c.in-Ok.grammar) words) c.in-Some.is c.in_ok-matches.ensures in
    let found = taken (codes "step") step_takes step_is_built (app_of c.in-Ok.grammar) c.in-Ok.ensures words c.requires c.in-Some.matches finds in
    let json = is_some (value_of (codes "json") found.0) in
    let schedule = value_of (codes "schedule") found.0 in
    let tries = sym c.in_default-tries.is ∙ c.tries.ensures.tries ∙ ap tries_of (c.get_str.ensures ∙ found.1.1 (codes "tries")) in
    ap (option_map (λ m. record { tries = m; json = json; schedule = schedule })) tries ∙ sym (ap (option_and_then stepping_of) found.1.0)

pub returns-clause-stepping : goal.returns-clause-stepping
returns-clause-stepping c =
    let words = map (λ word. word.now) c.args.words.now in
    let finds = subst (Finds (app_of c.in-Ok.grammar) words) c.in-Some.is c.in_ok-matches.ensures in
    let found = taken (codes "step") step_takes step_is_built (app_of c.in-Ok.grammar) c.in-Ok.ensures words c.requires c.in-Some.matches finds in
    let tries = sym c.in-Some-tries.is ∙ c.tries.ensures.tries ∙ ap tries_of (c.get_str.ensures ∙ found.1.1 (codes "tries")) in
    let json = c.is_given-json.ensures ∙ ap is_some (c.get_str-2.ensures ∙ found.1.1 (codes "json")) in
    let schedule = c.in_ok-schedule.ensures ∙ (c.get_str-3.ensures ∙ found.1.1 (codes "schedule")) in
    (λ i. option_map (λ m. record { tries = m; json = json i; schedule = schedule i }) (tries i)) ∙ sym (ap (option_and_then stepping_of) found.1.0)
