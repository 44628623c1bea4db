use Rattle.std.proofs.Common.{◌≡◌, ◌∙◌, sym, ap, subst, map, codes, true}
use Rattle.std.specs.Option.{option_and_then, option_map}
use Rattle.clap.specs.Faults.{is_simple_and_free}
use Rattle.clap.specs.Simple.{app_of}
use Rattle.sto_args.specs.Grammars.{Finds}
use Rattle.sto_args.specs.Commands.{tries_of}
use Rattle.sto_args.specs.Asked.{check_takes, check_of}
use Rattle.sto_args.proofs.Grammars.{taken, not_taken, check_is_built, check_is_simple}
use Rattle.sto_args.proofs.asked.checking_from.Goals as goal

pub matches_in-requires : goal.matches_in-requires
matches_in-requires c = subst (λ a. is_simple_and_free a ≡ true) (sym c.in-Ok.ensures) check_is_simple

pub returns-in_default-2-clause-asked : goal.returns-in_default-2-clause-asked
returns-in_default-2-clause-asked c =
    let words = map (λ word. word.now) c.args.words.now in
    let finds = subst (Finds (app_of c.in-Ok.grammar) words) c.in_default-2.is c.in_ok-matches.ensures in
    sym (ap (option_and_then check_of) (not_taken (codes "check") check_takes check_is_built (app_of c.in-Ok.grammar) c.in-Ok.ensures words c.requires finds))

pub returns-in_default-tries-clause-asked : goal.returns-in_default-tries-clause-asked
returns-in_default-tries-clause-asked c =
    let words = map (λ word. word.now) c.args.words.now in
    let finds = subst (Finds (app_of c.in-Ok.grammar) words) c.in-Some.is c.in_ok-matches.ensures in
    let found = taken (codes "check") check_takes check_is_built (app_of c.in-Ok.grammar) c.in-Ok.ensures words c.requires c.in-Some.matches finds in
    let tries = sym c.in_default-tries.is ∙ c.tries.ensures.tries ∙ ap tries_of (c.get_str.ensures ∙ found.1.1 (codes "tries")) in
    ap (option_map (λ n. record { tries = n })) tries ∙ sym (ap (option_and_then check_of) found.1.0)

pub returns-clause-asked : goal.returns-clause-asked
returns-clause-asked c =
    let words = map (λ word. word.now) c.args.words.now in
    let finds = subst (Finds (app_of c.in-Ok.grammar) words) c.in-Some.is c.in_ok-matches.ensures in
    let found = taken (codes "check") check_takes check_is_built (app_of c.in-Ok.grammar) c.in-Ok.ensures words c.requires c.in-Some.matches finds in
    let tries = sym c.in-Some-tries.is ∙ c.tries.ensures.tries ∙ ap tries_of (c.get_str.ensures ∙ found.1.1 (codes "tries")) in
    ap (option_map (λ n. record { tries = n })) tries ∙ sym (ap (option_and_then check_of) found.1.0)
