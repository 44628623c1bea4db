use Rattle.std.proofs.Common.{◌≡◌, ◌∙◌, sym, ap, subst, map, codes, true}
use Rattle.std.specs.Option.{option_and_then, option_map}
use Rattle.clap.specs.Faults.{is_simple_and_free}
use Rattle.clap.specs.Simple.{app_of}
use Rattle.sto_args.specs.Given.{value_of}
use Rattle.sto_args.specs.Grammars.{Finds}
use Rattle.sto_args.specs.Commands.{bench_takes, bench_of, threads_of, decimal_of}
use Rattle.sto_args.specs.declared.command.Command.TheVariants.{Bench}
use Rattle.sto_args.proofs.Grammars.{taken, not_taken, bench_is_built, bench_is_simple}
use Rattle.sto_args.proofs.command.bench.Goals as goal

pub matches_in-requires : goal.matches_in-requires
matches_in-requires c = subst (λ a. is_simple_and_free a ≡ true) (sym c.in-Ok.ensures) bench_is_simple

pub returns-in_default-2-clause-command : goal.returns-in_default-2-clause-command
returns-in_default-2-clause-command c =
    let words = map (λ word. word.now) c.args.words.now in
    let finds = subst (Finds (app_of c.in-Ok.grammar) words) c.in_default-2.is c.in_ok-matches.ensures in
    sym (ap (option_and_then bench_of) (not_taken (codes "bench") bench_takes bench_is_built (app_of c.in-Ok.grammar) c.in-Ok.ensures words c.requires finds))

pub returns-in_default-number-clause-command : goal.returns-in_default-number-clause-command
returns-in_default-number-clause-command c =
    let words = map (λ word. word.now) c.args.words.now in
    let finds = subst (Finds (app_of c.in-Ok.grammar) words) c.in-Some.is c.in_ok-matches.ensures in
    let found = taken (codes "bench") bench_takes bench_is_built (app_of c.in-Ok.grammar) c.in-Ok.ensures words c.requires c.in-Some.matches finds in
    let threads = threads_of (value_of (codes "threads") found.0) in
    let read = sym c.in_default-number.is ∙ c.number.ensures ∙ ap (option_and_then decimal_of) (c.get_str.ensures ∙ found.1.1 (codes "NUMBER")) in
    ap (option_and_then (λ n. option_map (λ m. Bench n m) threads)) read ∙ sym (ap (option_and_then bench_of) found.1.0)

pub returns-in_default-threads-clause-command : goal.returns-in_default-threads-clause-command
returns-in_default-threads-clause-command c =
    let words = map (λ word. word.now) c.args.words.now in
    let finds = subst (Finds (app_of c.in-Ok.grammar) words) c.in-Some.is c.in_ok-matches.ensures in
    let found = taken (codes "bench") bench_takes bench_is_built (app_of c.in-Ok.grammar) c.in-Ok.ensures words c.requires c.in-Some.matches finds in
    let read = sym c.in-Some-number.is ∙ c.number.ensures ∙ ap (option_and_then decimal_of) (c.get_str.ensures ∙ found.1.1 (codes "NUMBER")) in
    let threads = sym c.in_default-threads.is ∙ c.threads.ensures.threads ∙ ap threads_of (c.get_str-2.ensures ∙ found.1.1 (codes "threads")) in
    (λ i. option_and_then (λ n. option_map (λ m. Bench n m) (threads i)) (read i)) ∙ sym (ap (option_and_then bench_of) found.1.0)

pub returns-clause-command : goal.returns-clause-command
returns-clause-command c =
    let words = map (λ word. word.now) c.args.words.now in
    let finds = subst (Finds (app_of c.in-Ok.grammar) words) c.in-Some.is c.in_ok-matches.ensures in
    let found = taken (codes "bench") bench_takes bench_is_built (app_of c.in-Ok.grammar) c.in-Ok.ensures words c.requires c.in-Some.matches finds in
    let read = sym c.in-Some-number.is ∙ c.number.ensures ∙ ap (option_and_then decimal_of) (c.get_str.ensures ∙ found.1.1 (codes "NUMBER")) in
    let threads = sym c.in-Some-threads.is ∙ c.threads.ensures.threads ∙ ap threads_of (c.get_str-2.ensures ∙ found.1.1 (codes "threads")) in
    (λ i. option_and_then (λ n. option_map (λ m. Bench n m) (threads i)) (read i)) ∙ sym (ap (option_and_then bench_of) found.1.0)
