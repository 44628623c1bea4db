use Rattle.std.proofs.Common.{◌≡◌, ◌∙◌, sym, ap, subst, map, codes, true}
use Rattle.std.specs.Option.{option_and_then, option_map}
use Rattle.clap.specs.Faults.{is_simple_and_free}
use Rattle.clap.specs.Simple.{app_of}
use Rattle.sto_args.specs.Given.{value_of}
use Rattle.sto_args.specs.Grammars.{Finds}
use Rattle.sto_args.specs.Commands.{threads_of, tries_of}
use Rattle.sto_args.specs.Asked.{feed_takes, feed_of}
use Rattle.sto_args.proofs.Grammars.{taken, not_taken, feed_is_built, feed_is_simple}
use Rattle.sto_args.proofs.asked.feeding_from.Goals as goal

pub matches_in-requires : goal.matches_in-requires
matches_in-requires c = subst (λ a. is_simple_and_free a ≡ true) (sym c.in-Ok.ensures) feed_is_simple

pub returns-in_default-2-clause-asked : goal.returns-in_default-2-clause-asked
returns-in_default-2-clause-asked c =
    let words = map (λ word. word.now) c.args.words.now in
    let finds = subst (Finds (app_of c.in-Ok.grammar) words) c.in_default-2.is c.in_ok-matches.ensures in
    sym (ap (option_and_then feed_of) (not_taken (codes "feed") feed_takes feed_is_built (app_of c.in-Ok.grammar) c.in-Ok.ensures words c.requires finds))

pub returns-in_default-threads-clause-asked : goal.returns-in_default-threads-clause-asked
returns-in_default-threads-clause-asked c =
    let words = map (λ word. word.now) c.args.words.now in
    let finds = subst (Finds (app_of c.in-Ok.grammar) words) c.in-Some.is c.in_ok-matches.ensures in
    let found = taken (codes "feed") feed_takes feed_is_built (app_of c.in-Ok.grammar) c.in-Ok.ensures words c.requires c.in-Some.matches finds in
    let threads = sym c.in_default-threads.is ∙ c.threads.ensures.threads ∙ ap threads_of (c.get_str.ensures ∙ found.1.1 (codes "threads")) in
    ap (option_and_then (λ n. option_map (λ m. record { threads = n; tries = m }) (tries_of (value_of (codes "tries") found.0)))) threads ∙ sym (ap (option_and_then feed_of) found.1.0)

pub returns-in_default-tries-clause-asked : goal.returns-in_default-tries-clause-asked
returns-in_default-tries-clause-asked c =
    let words = map (λ word. word.now) c.args.words.now in
    let finds = subst (Finds (app_of c.in-Ok.grammar) words) c.in-Some.is c.in_ok-matches.ensures in
    let found = taken (codes "feed") feed_takes feed_is_built (app_of c.in-Ok.grammar) c.in-Ok.ensures words c.requires c.in-Some.matches finds in
    let threads = sym c.in-Some-threads.is ∙ c.threads.ensures.threads ∙ ap threads_of (c.get_str.ensures ∙ found.1.1 (codes "threads")) in
    let tries = sym c.in_default-tries.is ∙ c.tries.ensures.tries ∙ ap tries_of (c.get_str-2.ensures ∙ found.1.1 (codes "tries")) in
    (λ i. option_and_then (λ n. option_map (λ m. record { threads = n; tries = m }) (tries i)) (threads i)) ∙ sym (ap (option_and_then feed_of) found.1.0)

pub returns-clause-asked : goal.returns-clause-asked
returns-clause-asked c =
    let words = map (λ word. word.now) c.args.words.now in
    let finds = subst (Finds (app_of c.in-Ok.grammar) words) c.in-Some.is c.in_ok-matches.ensures in
    let found = taken (codes "feed") feed_takes feed_is_built (app_of c.in-Ok.grammar) c.in-Ok.ensures words c.requires c.in-Some.matches finds in
    let threads = sym c.in-Some-threads.is ∙ c.threads.ensures.threads ∙ ap threads_of (c.get_str.ensures ∙ found.1.1 (codes "threads")) in
    let tries = sym c.in-Some-tries.is ∙ c.tries.ensures.tries ∙ ap tries_of (c.get_str-2.ensures ∙ found.1.1 (codes "tries")) in
    (λ i. option_and_then (λ n. option_map (λ m. record { threads = n; tries = m }) (tries i)) (threads i)) ∙ sym (ap (option_and_then feed_of) found.1.0)
