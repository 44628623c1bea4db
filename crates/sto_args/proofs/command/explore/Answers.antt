use Rattle.std.proofs.Common.{◌≡◌, ◌∙◌, sym, ap, subst, map, codes, true, is_some}
use Rattle.std.specs.Option.{option_and_then, option_map}
use Rattle.clap.specs.Faults.{is_simple_and_free}
use Rattle.clap.specs.Simple.{app_of}
use Rattle.sto_args.specs.Given.{value_of}
use Rattle.sto_args.specs.Grammars.{Finds}
use Rattle.sto_args.specs.Commands.{explore_takes, explore_of, by_of, states_of, asked_of}
use Rattle.sto_args.specs.declared.command.Command.TheVariants.{Explore}
use Rattle.sto_args.proofs.Grammars.{taken, not_taken, explore_is_built, explore_is_simple}
use Rattle.sto_args.proofs.command.explore.Goals as goal

pub matches_in-requires : goal.matches_in-requires
matches_in-requires c = subst (λ a. is_simple_and_free a ≡ true) (sym c.in-Ok.ensures) explore_is_simple

pub returns-in_default-2-clause-command : goal.returns-in_default-2-clause-command
returns-in_default-2-clause-command c =
    let words = map (λ word. word.now) c.args.words.now in
    let finds = subst (Finds (app_of c.in-Ok.grammar) words) c.in_default-2.is c.in_ok-matches.ensures in
    sym (ap (option_and_then explore_of) (not_taken (codes "explore") explore_takes explore_is_built (app_of c.in-Ok.grammar) c.in-Ok.ensures words c.requires finds))

pub returns-in_default-told_by-clause-command : goal.returns-in_default-told_by-clause-command
returns-in_default-told_by-clause-command c =
    let words = map (λ word. word.now) c.args.words.now in
    let finds = subst (Finds (app_of c.in-Ok.grammar) words) c.in-Some.is c.in_ok-matches.ensures in
    let found = taken (codes "explore") explore_takes explore_is_built (app_of c.in-Ok.grammar) c.in-Ok.ensures words c.requires c.in-Some.matches finds in
    let json = is_some (value_of (codes "json") found.0) in
    let asked = asked_of (value_of (codes "where") found.0) (value_of (codes "never") found.0) in
    let by = sym c.in_default-told_by.is ∙ c.told_by.ensures ∙ ap by_of (c.get_str.ensures ∙ found.1.1 (codes "by")) in
    ap (option_and_then (λ n. option_and_then (λ states. option_map (λ a. Explore n states json a) asked) (states_of (value_of (codes "states") found.0)))) by
    ∙ sym (ap (option_and_then explore_of) found.1.0)

pub returns-in_default-states-clause-command : goal.returns-in_default-states-clause-command
returns-in_default-states-clause-command c =
    let words = map (λ word. word.now) c.args.words.now in
    let finds = subst (Finds (app_of c.in-Ok.grammar) words) c.in-Some.is c.in_ok-matches.ensures in
    let found = taken (codes "explore") explore_takes explore_is_built (app_of c.in-Ok.grammar) c.in-Ok.ensures words c.requires c.in-Some.matches finds in
    let json = is_some (value_of (codes "json") found.0) in
    let asked = asked_of (value_of (codes "where") found.0) (value_of (codes "never") found.0) in
    let by = sym c.in-Some-told_by.is ∙ c.told_by.ensures ∙ ap by_of (c.get_str.ensures ∙ found.1.1 (codes "by")) in
    let states = sym c.in_default-states.is ∙ c.states.ensures ∙ ap states_of (c.get_str-2.ensures ∙ found.1.1 (codes "states")) in
    (λ i. option_and_then (λ n. option_and_then (λ m. option_map (λ a. Explore n m json a) asked) (states i)) (by i)) ∙ sym (ap (option_and_then explore_of) found.1.0)

pub returns-in_default-3-clause-command : goal.returns-in_default-3-clause-command
returns-in_default-3-clause-command c =
    let words = map (λ word. word.now) c.args.words.now in
    let finds = subst (Finds (app_of c.in-Ok.grammar) words) c.in-Some.is c.in_ok-matches.ensures in
    let found = taken (codes "explore") explore_takes explore_is_built (app_of c.in-Ok.grammar) c.in-Ok.ensures words c.requires c.in-Some.matches finds in
    let json = is_some (value_of (codes "json") found.0) in
    let by = sym c.in-Some-told_by.is ∙ c.told_by.ensures ∙ ap by_of (c.get_str.ensures ∙ found.1.1 (codes "by")) in
    let states = sym c.in-Some-states.is ∙ c.states.ensures ∙ ap states_of (c.get_str-2.ensures ∙ found.1.1 (codes "states")) in
    let only = c.get_str-4.ensures ∙ found.1.1 (codes "where") in
    let never = c.get_str-5.ensures ∙ found.1.1 (codes "never") in
    let asked = sym c.in_default-3.is ∙ c.in_ok-asked.ensures ∙ (λ i. asked_of (only i) (never i)) in
    (λ i. option_and_then (λ n. option_and_then (λ m. option_map (λ a. Explore n m json a) (asked i)) (states i)) (by i)) ∙ sym (ap (option_and_then explore_of) found.1.0)

pub returns-clause-command : goal.returns-clause-command
returns-clause-command c =
    let words = map (λ word. word.now) c.args.words.now in
    let finds = subst (Finds (app_of c.in-Ok.grammar) words) c.in-Some.is c.in_ok-matches.ensures in
    let found = taken (codes "explore") explore_takes explore_is_built (app_of c.in-Ok.grammar) c.in-Ok.ensures words c.requires c.in-Some.matches finds in
    let by = sym c.in-Some-told_by.is ∙ c.told_by.ensures ∙ ap by_of (c.get_str.ensures ∙ found.1.1 (codes "by")) in
    let states = sym c.in-Some-states.is ∙ c.states.ensures ∙ ap states_of (c.get_str-2.ensures ∙ found.1.1 (codes "states")) in
    let json = c.is_given-json.ensures ∙ ap is_some (c.get_str-3.ensures ∙ found.1.1 (codes "json")) in
    let only = c.get_str-4.ensures ∙ found.1.1 (codes "where") in
    let never = c.get_str-5.ensures ∙ found.1.1 (codes "never") in
    let asked = sym c.in-Some-2.is ∙ c.in_ok-asked.ensures ∙ (λ i. asked_of (only i) (never i)) in
    (λ i. option_and_then (λ n. option_and_then (λ m. option_map (λ a. Explore n m (json i) a) (asked i)) (states i)) (by i)) ∙ sym (ap (option_and_then explore_of) found.1.0)
