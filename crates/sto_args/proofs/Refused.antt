-- Words that are refused whatever the command is.
use Rattle.std.proofs.Common.{◌≡◌, ◌∙◌, ◌-◌, ◌≤◌, get_or, ◌||◌, Bool, true, false, refl, sym, ap, arith, List, [], ◌∷◌, map, take, drop, length, Option, Some, None, true≢false}
use Rattle.std.specs.Prelude.{if◌then◌else◌}
use Rattle.std.specs.List.{list_any}
use Rattle.std.specs.Option.{option_and_then}
use Rattle.std.specs.Str.{bytes_eq}
use Rattle.std.specs.Prelude.{codes}
use Rattle.std.proofs.lemmas.List.{take_all}
use Rattle.clap.proofs.WalkLemmas.{list_any-map}
use Rattle.sto_args.specs.declared.command.Command.{Command}
use Rattle.sto_args.specs.Given.{Text, Takes, Given, Word, Bare, Valued, Alone, Refused, Reading, with_word, with_awaited, kind_of, after_word, given_after, given_by, is_refused, is_refused_kind, as_option, gives_flag}
use Rattle.sto_args.specs.Commands.{command_of, command_from, run_of, run_takes, step_of, step_takes, trace_of, draw_takes, draw_of, explore_takes, explore_of, schedules_takes, schedules_of, upgrade_of, gen_of, gen_takes, bench_of, bench_takes, help_of}

is_refused_word : (kind : Word) → is_refused_kind kind ≡ true → kind ≡ Refused
is_refused_word (Bare name) e = absurd (true≢false (sym e))
is_refused_word (Valued name value) e = absurd (true≢false (sym e))
is_refused_word Alone e = absurd (true≢false (sym e))
is_refused_word Refused e = refl

refused_here : (t : Takes) (given : Given) (word : Text) (waiting : Option Text) → is_refused word ≡ true → after_word t given word waiting ≡ None
refused_here t given word None e = ap (with_word t given word) (is_refused_word (kind_of word) e)
refused_here t given word (Some name) e = ap (with_awaited given name word) (is_refused_word (kind_of word) e)

refused_given : (t : Takes) (words : List Text) (r : Reading) → list_any is_refused words ≡ true → given_after t words r ≡ None
refused_given t [] r e = absurd (true≢false (sym e))
refused_given t (word ∷ words) r e = go (is_refused word) refl (refused_given t words)
  where
    later : (x : Option Reading) → ((r : Reading) → given_after t words r ≡ None) → option_and_then (given_after t words) x ≡ None
    later None rest = refl
    later (Some x) rest = rest x

    go : (b : Bool) → is_refused word ≡ b → ((r : Reading) → list_any is_refused words ≡ true → given_after t words r ≡ None)
        → option_and_then (given_after t words) (after_word t r.given word r.waiting) ≡ None
    go true f rest = ap (option_and_then (given_after t words)) (refused_here t r.given word r.waiting f)
    go false f rest = later (after_word t r.given word r.waiting) (λ x. rest x (sym (ap (λ b. b || list_any is_refused words) f) ∙ e))

pub words_refused : (t : Takes) (words : List Text) → list_any is_refused words ≡ true → given_by t words ≡ None
words_refused t words e = refused_given t words (record { given = []; waiting = None }) e

abbrev command_by : Bool → Bool → Bool → Bool → Bool → Bool → Bool → Bool → Bool
    → Option Given → Option Given → Option Given → Option Given → Option Given → Option Given → Option Command → Option Given → Option Given → Option Command
command_by is_run is_step is_trace is_draw is_explore is_schedules is_upgrade is_gen is_bench run step trace draw explore schedules upgrade gen bench =
    if is_run then option_and_then run_of run else (if is_step then option_and_then step_of step else (if is_trace then option_and_then trace_of trace else (if is_draw then option_and_then draw_of draw
    else (if is_explore then option_and_then explore_of explore else (if is_schedules then option_and_then schedules_of schedules else (if is_upgrade then upgrade
    else (if is_gen then option_and_then gen_of gen else (if is_bench then option_and_then bench_of bench else None))))))))

no_command : (is_run is_step is_trace is_draw is_explore is_schedules is_upgrade is_gen is_bench : Bool)
    → None ≡ command_by is_run is_step is_trace is_draw is_explore is_schedules is_upgrade is_gen is_bench None None None None None None None None None
no_command true is_step is_trace is_draw is_explore is_schedules is_upgrade is_gen is_bench = refl
no_command false true is_trace is_draw is_explore is_schedules is_upgrade is_gen is_bench = refl
no_command false false true is_draw is_explore is_schedules is_upgrade is_gen is_bench = refl
no_command false false false true is_explore is_schedules is_upgrade is_gen is_bench = refl
no_command false false false false true is_schedules is_upgrade is_gen is_bench = refl
no_command false false false false false true is_upgrade is_gen is_bench = refl
no_command false false false false false false true is_gen is_bench = refl
no_command false false false false false false false true is_bench = refl
no_command false false false false false false false false true = refl
no_command false false false false false false false false false = refl

no_upgrade : (words : List Text) → list_any is_refused words ≡ true → None ≡ upgrade_of words
no_upgrade [] e = absurd (true≢false (sym e))
no_upgrade (word ∷ words) e = refl

pub command_refused : (word : Text) (words : List Text) → list_any is_refused words ≡ true → None ≡ command_from word words
command_refused word words e =
    let is_run = bytes_eq word (codes "run") in
    let is_step = bytes_eq word (codes "step") in
    let is_trace = bytes_eq word (codes "trace") in
    let is_draw = bytes_eq word (codes "draw") in
    let is_explore = bytes_eq word (codes "explore") in
    let is_schedules = bytes_eq word (codes "schedules") in
    let is_upgrade = bytes_eq word (codes "upgrade") in
    let is_gen = bytes_eq word (codes "gen") in
    let is_bench = bytes_eq word (codes "bench") in
    let none : (t : Takes) → None ≡ given_by t words = λ t. sym (words_refused t words e) in
    no_command is_run is_step is_trace is_draw is_explore is_schedules is_upgrade is_gen is_bench
    ∙ (λ i. command_by is_run is_step is_trace is_draw is_explore is_schedules is_upgrade is_gen is_bench
    (none run_takes i) (none step_takes i) (none step_takes i) (none draw_takes i) (none explore_takes i) (none schedules_takes i) (no_upgrade words e i) (none gen_takes i) (none bench_takes i))

-- words of which the first one asks for help
pub help_after_first : {X : Type 0} (f : X → Text) (xs : List X) (x : X) (command : Option Command) → 1 ≤ length xs → x ≡ get_or xs 0 x
    → bytes_eq (f x) (codes "--help") ≡ true → command ≡ help_of (map f (take (length xs - 1) (drop 1 xs))) → command ≡ command_of (map f xs)
help_after_first f [] x command some is help same = absurd (omega (arith, some))
help_after_first f (y ∷ ys) x command some is help same =
    let all : take (length (y ∷ ys) - 1) ys ≡ ys = take_all (length (y ∷ ys) - 1) ys (omega arith) in
    let asks : bytes_eq (f y) (codes "--help") ≡ true = ap (λ z. bytes_eq (f z) (codes "--help")) (sym is) ∙ help in
    same ∙ ap (λ zs. help_of (map f zs)) all
    ∙ sym (ap (λ b. if b then help_of (map f ys) else (if list_any gives_flag (map f ys) then None else command_from (f y) (map as_option (map f ys)))) asks)

-- words after the first one that give a value to a flag
pub valued_after_first : {X : Type 0} (f : X → Text) (xs : List X) (x : X) → 1 ≤ length xs → x ≡ get_or xs 0 x → bytes_eq (f x) (codes "--help") ≡ false
    → true ≡ list_any (λ x. gives_flag (f x)) (take (length xs - 1) (drop 1 xs)) → None ≡ command_of (map f xs)
valued_after_first f [] x some is help e = absurd (omega (arith, some))
valued_after_first f (y ∷ ys) x some is help e =
    let asks : bytes_eq (f y) (codes "--help") ≡ false = ap (λ z. bytes_eq (f z) (codes "--help")) (sym is) ∙ help in
    let found : list_any gives_flag (map f ys) ≡ true = sym (e ∙ ap (list_any (λ z. gives_flag (f z))) (take_all (length (y ∷ ys) - 1) ys (omega arith)) ∙ list_any-map gives_flag f ys) in
    sym (λ i. if asks i then help_of (map f ys) else (if found i then None else command_from (f y) (map as_option (map f ys))))

-- words after the first one that give none
pub options_after_first : {X : Type 0} (f : X → Text) (xs : List X) (x : X) (options : List Text) → 1 ≤ length xs → x ≡ get_or xs 0 x → bytes_eq (f x) (codes "--help") ≡ false
    → false ≡ list_any (λ y. gives_flag (f y)) (take (length xs - 1) (drop 1 xs)) → options ≡ map as_option (map f (take (length xs - 1) (drop 1 xs)))
    → command_from (f x) options ≡ command_of (map f xs)
options_after_first f [] x options some is help e same = absurd (omega (arith, some))
options_after_first f (y ∷ ys) x options some is help e same =
    let all : take (length (y ∷ ys) - 1) ys ≡ ys = take_all (length (y ∷ ys) - 1) ys (omega arith) in
    let asks : bytes_eq (f y) (codes "--help") ≡ false = ap (λ z. bytes_eq (f z) (codes "--help")) (sym is) ∙ help in
    let none : list_any gives_flag (map f ys) ≡ false = sym (e ∙ ap (list_any (λ z. gives_flag (f z))) all ∙ list_any-map gives_flag f ys) in
    (λ i. command_from (f (is i)) ((same ∙ ap (λ zs. map as_option (map f zs)) all) i))
    ∙ sym (λ i. if asks i then help_of (map f ys) else (if none i then None else command_from (f y) (map as_option (map f ys))))
