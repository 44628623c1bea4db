use Rattle.std.proofs.Common.{◌≡◌, ◌∙◌, sym, ap, subst, map, codes, true}
use Rattle.std.specs.Option.{option_and_then, option_map}
use Rattle.clap.specs.Faults.{is_simple_and_free}
use Rattle.clap.specs.Simple.{app_of}
use Rattle.sto_args.specs.Grammars.{Finds}
use Rattle.sto_args.specs.Commands.{gen_takes, gen_of, decimal_of}
use Rattle.sto_args.specs.declared.command.Command.TheVariants.{Gen}
use Rattle.sto_args.proofs.Grammars.{taken, not_taken, gen_is_built, gen_is_simple}
use Rattle.sto_args.proofs.command.generate.Goals as goal

pub matches_in-requires : goal.matches_in-requires
matches_in-requires c = subst (λ a. is_simple_and_free a ≡ true) (sym c.in-Ok.ensures) gen_is_simple

pub returns-in_default-2-clause-command : goal.returns-in_default-2-clause-command
returns-in_default-2-clause-command c =
    let words = map (λ word. word.now) c.args.words.now in
    let finds = subst (Finds (app_of c.in-Ok.grammar) words) c.in_default-2.is c.in_ok-matches.ensures in
    sym (ap (option_and_then gen_of) (not_taken (codes "gen") gen_takes gen_is_built (app_of c.in-Ok.grammar) c.in-Ok.ensures words c.requires finds))

pub returns-in_default-number-clause-command : goal.returns-in_default-number-clause-command
returns-in_default-number-clause-command c =
    let words = map (λ word. word.now) c.args.words.now in
    let finds = subst (Finds (app_of c.in-Ok.grammar) words) c.in-Some.is c.in_ok-matches.ensures in
    let found = taken (codes "gen") gen_takes gen_is_built (app_of c.in-Ok.grammar) c.in-Ok.ensures words c.requires c.in-Some.matches finds in
    let read = sym c.in_default-number.is ∙ c.number.ensures ∙ ap (option_and_then decimal_of) (c.get_str.ensures ∙ found.1.1 (codes "NUMBER")) in
    ap (option_map (λ number. Gen number)) read ∙ sym (ap (option_and_then gen_of) found.1.0)

pub returns-clause-command : goal.returns-clause-command
returns-clause-command c =
    let words = map (λ word. word.now) c.args.words.now in
    let finds = subst (Finds (app_of c.in-Ok.grammar) words) c.in-Some.is c.in_ok-matches.ensures in
    let found = taken (codes "gen") gen_takes gen_is_built (app_of c.in-Ok.grammar) c.in-Ok.ensures words c.requires c.in-Some.matches finds in
    let read = sym c.in-Some-number.is ∙ c.number.ensures ∙ ap (option_and_then decimal_of) (c.get_str.ensures ∙ found.1.1 (codes "NUMBER")) in
    ap (option_map (λ number. Gen number)) read ∙ sym (ap (option_and_then gen_of) found.1.0)
