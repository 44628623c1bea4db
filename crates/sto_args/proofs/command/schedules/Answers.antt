use Rattle.std.proofs.Common.{◌≡◌, ◌∙◌, sym, ap, subst, map, codes, true, is_some}
use Rattle.std.specs.Option.{option_and_then, option_map}
use Rattle.clap.specs.Faults.{is_simple_and_free}
use Rattle.clap.specs.Simple.{app_of}
use Rattle.sto_args.specs.Given.{value_of}
use Rattle.sto_args.specs.Grammars.{Finds}
use Rattle.sto_args.specs.Commands.{schedules_takes, schedules_of, switches_of, tries_of}
use Rattle.sto_args.specs.declared.command.Command.TheVariants.{Schedules}
use Rattle.sto_args.proofs.Grammars.{taken, not_taken, schedules_is_built, schedules_is_simple}
use Rattle.sto_args.proofs.command.schedules.Goals as goal

pub matches_in-requires : goal.matches_in-requires
matches_in-requires c = subst (λ a. is_simple_and_free a ≡ true) (sym c.in-Ok.ensures) schedules_is_simple

pub returns-in_default-2-clause-command : goal.returns-in_default-2-clause-command
returns-in_default-2-clause-command c =
    let words = map (λ word. word.now) c.args.words.now in
    let finds = subst (Finds (app_of c.in-Ok.grammar) words) c.in_default-2.is c.in_ok-matches.ensures in
    sym (ap (option_and_then schedules_of) (not_taken (codes "schedules") schedules_takes schedules_is_built (app_of c.in-Ok.grammar) c.in-Ok.ensures words c.requires finds))

pub returns-in_default-switches-clause-command : goal.returns-in_default-switches-clause-command
returns-in_default-switches-clause-command c =
    let words = map (λ word. word.now) c.args.words.now in
    let finds = subst (Finds (app_of c.in-Ok.grammar) words) c.in-Some.is c.in_ok-matches.ensures in
    let found = taken (codes "schedules") schedules_takes schedules_is_built (app_of c.in-Ok.grammar) c.in-Ok.ensures words c.requires c.in-Some.matches finds in
    let json = is_some (value_of (codes "json") found.0) in
    let switches = sym c.in_default-switches.is ∙ c.switches.ensures.switches ∙ ap switches_of (c.get_str.ensures ∙ found.1.1 (codes "switches")) in
    ap (option_and_then (λ n. option_map (λ tries. Schedules n tries json) (tries_of (value_of (codes "tries") found.0)))) switches ∙ sym (ap (option_and_then schedules_of) found.1.0)

pub returns-in_default-tries-clause-command : goal.returns-in_default-tries-clause-command
returns-in_default-tries-clause-command c =
    let words = map (λ word. word.now) c.args.words.now in
    let finds = subst (Finds (app_of c.in-Ok.grammar) words) c.in-Some.is c.in_ok-matches.ensures in
    let found = taken (codes "schedules") schedules_takes schedules_is_built (app_of c.in-Ok.grammar) c.in-Ok.ensures words c.requires c.in-Some.matches finds in
    let json = is_some (value_of (codes "json") found.0) in
    let switches = sym c.in-Some-switches.is ∙ c.switches.ensures.switches ∙ ap switches_of (c.get_str.ensures ∙ found.1.1 (codes "switches")) in
    let tries = sym c.in_default-tries.is ∙ c.tries.ensures.tries ∙ ap tries_of (c.get_str-2.ensures ∙ found.1.1 (codes "tries")) in
    (λ i. option_and_then (λ n. option_map (λ m. Schedules n m json) (tries i)) (switches i)) ∙ sym (ap (option_and_then schedules_of) found.1.0)

pub returns-clause-command : goal.returns-clause-command
returns-clause-command c =
    let words = map (λ word. word.now) c.args.words.now in
    let finds = subst (Finds (app_of c.in-Ok.grammar) words) c.in-Some.is c.in_ok-matches.ensures in
    let found = taken (codes "schedules") schedules_takes schedules_is_built (app_of c.in-Ok.grammar) c.in-Ok.ensures words c.requires c.in-Some.matches finds in
    let switches = sym c.in-Some-switches.is ∙ c.switches.ensures.switches ∙ ap switches_of (c.get_str.ensures ∙ found.1.1 (codes "switches")) in
    let tries = sym c.in-Some-tries.is ∙ c.tries.ensures.tries ∙ ap tries_of (c.get_str-2.ensures ∙ found.1.1 (codes "tries")) in
    let json = c.is_given-json.ensures ∙ ap is_some (c.get_str-3.ensures ∙ found.1.1 (codes "json")) in
    (λ i. option_and_then (λ n. option_map (λ m. Schedules n m (json i)) (tries i)) (switches i)) ∙ sym (ap (option_and_then schedules_of) found.1.0)
