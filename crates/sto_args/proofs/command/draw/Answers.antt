use Rattle.std.proofs.Common.{◌≡◌, ◌∙◌, sym, ap, subst, map, codes, true}
use Rattle.std.specs.Option.{option_and_then, option_map}
use Rattle.clap.specs.Faults.{is_simple_and_free}
use Rattle.clap.specs.Simple.{app_of}
use Rattle.sto_args.specs.Given.{value_of}
use Rattle.sto_args.specs.Grammars.{Finds}
use Rattle.sto_args.specs.Commands.{draw_takes, draw_of, tries_of}
use Rattle.sto_args.specs.declared.command.Command.TheVariants.{Draw}
use Rattle.sto_args.proofs.Grammars.{taken, not_taken, draw_is_built, draw_is_simple}
use Rattle.sto_args.proofs.command.draw.Goals as goal

pub matches_in-requires : goal.matches_in-requires
matches_in-requires c = subst (λ a. is_simple_and_free a ≡ true) (sym c.in-Ok.ensures) draw_is_simple

pub returns-in_default-2-clause-command : goal.returns-in_default-2-clause-command
returns-in_default-2-clause-command c =
    let words = map (λ word. word.now) c.args.words.now in
    let finds = subst (Finds (app_of c.in-Ok.grammar) words) c.in_default-2.is c.in_ok-matches.ensures in
    sym (ap (option_and_then draw_of) (not_taken (codes "draw") draw_takes draw_is_built (app_of c.in-Ok.grammar) c.in-Ok.ensures words c.requires finds))

pub returns-in_default-tries-clause-command : goal.returns-in_default-tries-clause-command
returns-in_default-tries-clause-command c =
    let words = map (λ word. word.now) c.args.words.now in
    let finds = subst (Finds (app_of c.in-Ok.grammar) words) c.in-Some.is c.in_ok-matches.ensures in
    let found = taken (codes "draw") draw_takes draw_is_built (app_of c.in-Ok.grammar) c.in-Ok.ensures words c.requires c.in-Some.matches finds in
    let schedule = value_of (codes "schedule") found.0 in
    let tries = sym c.in_default-tries.is ∙ c.tries.ensures.tries ∙ ap tries_of (c.get_str.ensures ∙ found.1.1 (codes "tries")) in
    ap (option_map (λ m. Draw m schedule)) tries ∙ sym (ap (option_and_then draw_of) found.1.0)

pub returns-clause-command : goal.returns-clause-command
returns-clause-command c =
    let words = map (λ word. word.now) c.args.words.now in
    let finds = subst (Finds (app_of c.in-Ok.grammar) words) c.in-Some.is c.in_ok-matches.ensures in
    let found = taken (codes "draw") draw_takes draw_is_built (app_of c.in-Ok.grammar) c.in-Ok.ensures words c.requires c.in-Some.matches finds in
    let tries = sym c.in-Some-tries.is ∙ c.tries.ensures.tries ∙ ap tries_of (c.get_str.ensures ∙ found.1.1 (codes "tries")) in
    let schedule = c.in_ok-schedule.ensures ∙ (c.get_str-2.ensures ∙ found.1.1 (codes "schedule")) in
    (λ i. option_map (λ m. Draw m (schedule i)) (tries i)) ∙ sym (ap (option_and_then draw_of) found.1.0)
