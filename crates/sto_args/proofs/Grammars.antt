-- What `clap` finds in the words after a command, and that it is what they give.
use Rattle.std.proofs.Common.{◌≡◌, ◌∙◌, ◌||◌, ◌&&◌, not, is_some, ℕ, Bool, true, false, refl, sym, ap, subst, codes, List, [], ◌∷◌, ◌++◌, map, Option, Some, None, true≢false}
use Rattle.std.specs.Prelude.{if◌then◌else◌, fold, find, slice_get}
use Rattle.std.specs.List.{list_any}
use Rattle.std.specs.Option.{option_and_then, option_map}
use Rattle.std.specs.Str.{bytes_eq}
use Rattle.std.proofs.lemmas.Slice.Eq.{bytes_eq-Decides}
use Rattle.clap.specs.Matches.{first_value, found_of}
use Rattle.clap.specs.Walk.{Held, Row, Rule, arg_by_id, arg_by_index, arg_by_long, first_of, has_long, has_row, nothing_held, rows_of, settled, walk, walk_from, with_default}
use Rattle.clap.specs.Simple.{App, Shape, built, matches_of, names_of}
use Rattle.clap.specs.Kinds.{Kinds, or_else}
use Rattle.clap.specs.Faults.{built_fault, check_fault, default_fault, defaults_fault, fault_of, is_simple_and_free, settle_fault, walk_fault}
use Rattle.clap.specs.declared.parser.matches.ArgMatches.{ArgMatches}
use Rattle.clap.proofs.FaultLemmas.{leaf_fault}
use Rattle.clap.proofs.WalkLemmas.{first_value-rows}
use Rattle.clap.proofs.OnLiterals.{clap_on_literals}
use Rattle.sto_args.specs.Given.{Text, Takes, Given, number_name, is_option, value_of, given_by, is_refused}
use Rattle.sto_args.specs.Commands.{run_takes, step_takes, draw_takes, explore_takes, schedules_takes, gen_takes, bench_takes}
use Rattle.sto_args.specs.Asked.{check_takes, feed_takes}
use Rattle.sto_args.specs.Grammars.{Finds, app_for}
use Rattle.sto_args.proofs.Rows.{valued, row}
use Rattle.sto_args.proofs.Walks.{AreRules, Agrees, between, faults_after, number_built, number_if, option_built, reads, rows_after, shape_with}

abbrev numbers : Bool → List Rule
numbers takes_number = if takes_number then number_built ∷ [] else []

-- the rules of what a command takes, as they are built
abbrev pub rules_of : Takes → List Rule
rules_of t = map option_built t.options ++ numbers t.number

abbrev pub shape_of : Text → Takes → Shape
shape_of nm t = shape_with nm (rules_of t)

-- the command is built with these rules, none of which has a default value or must be given
pub record IsBuilt (nm : Text) (t : Takes) : Type 0 where
  pub rules : AreRules (rules_of t) t
  pub built_as : built (app_for nm t) ≡ record { top = shape_of nm t; subs = [] }
  pub defaults : (rows : List Row) → defaults_fault rows (rules_of t) ≡ []
  pub finished_as : (rows : List Row) → fold with_default rows (rules_of t) ≡ rows
  pub checks : (rows : List Row) → check_fault (shape_of nm t) rows false ≡ []

nothing_else : (k : Kinds) → or_else k [] ≡ k
nothing_else [] = refl
nothing_else (x ∷ k) = refl

first_of_row : (id : Text) (given : Given) → first_of id (map row given) ≡ value_of id given
first_of_row id [] = refl
first_of_row id (g ∷ given) = go (bytes_eq g.0 id) (first_of_row id given)
  where
    go : (b : Bool) → first_of id (map row given) ≡ value_of id given
        → option_and_then (λ r. slice_get r.values 0) (if b then Some (row g) else find (λ r. bytes_eq r.id id) (map row given))
        ≡ option_map (λ x. x.1) (if b then Some g else find (λ x. bytes_eq x.0 id) given)
    go true rest = refl
    go false rest = rest

module _ (nm : Text) (t : Takes) (r : IsBuilt nm t) where
  abbrev c : List Rule
  c = rules_of t

  faults_are : (words : List Text) → fault_of (app_for nm t) words ≡ faults_after (shape_with nm c) [] (between nothing_held 1) words
  faults_are words =
      let s = shape_with nm c in
      let end : Held = (walk c [] nothing_held words).held in
      let first : Kinds = walk_fault s [] (walk_from nothing_held) words in
      let last : Kinds = settle_fault c false end in
      let none = ap (λ k. or_else k (check_fault s (fold with_default (settled c end).rows c) false)) (r.defaults (settled c end).rows) ∙ r.checks (fold with_default (settled c end).rows c) in
      ap (λ a. built_fault a nothing_held words) r.built_as ∙ leaf_fault (record { top = s; subs = [] }) nothing_held words refl
      ∙ ap (λ k. or_else first (or_else last k)) none ∙ ap (or_else first) (nothing_else last)

  rows_are : (words : List Text) → matches_of (app_for nm t) words ≡ rows_after (shape_with nm c) (between nothing_held 1) words
  rows_are words = ap (λ a. fold with_default (settled a.top.rules (walk a.top.rules (names_of a) nothing_held words).held).rows a.top.rules) r.built_as
      ∙ r.finished_as (settled c (walk c [] nothing_held words).held).rows

  agreed : (words : List Text) → list_any is_refused words ≡ false → Agrees (fault_of (app_for nm t) words) (matches_of (app_for nm t) words) (given_by t words)
  agreed words allowed =
      subst (λ k. Agrees k (matches_of (app_for nm t) words) (given_by t words)) (sym (faults_are words))
      (subst (λ rows. Agrees (faults_after (shape_with nm c) [] (between nothing_held 1) words) rows (given_by t words)) (sym (rows_are words))
      ((reads nm c t r.rules words allowed).0 [] nothing_held 1 (refl, refl) refl))

  abbrev pub Takes_as : ArgMatches → List Text → Type 0
  Takes_as m words = (given : Given) × ((given_by t words ≡ Some given) × ((id : Text) → first_value (found_of m) id ≡ value_of id given))

  pub taken : (app : App) → app ≡ app_for nm t → (words : List Text) → list_any is_refused words ≡ false → (m : ArgMatches) → Finds app words (Some m) → Takes_as m words
  taken app same words allowed m finds = go (given_by t words) refl (agreed words allowed)
    where
      none : fault_of (app_for nm t) words ≡ []
      none = subst (λ a. fault_of a words ≡ []) same finds.0

      kept : rows_of (found_of m) ≡ matches_of (app_for nm t) words
      kept = subst (λ a. rows_of (found_of m) ≡ matches_of a words) same finds.1

      go : (g : Option Given) → given_by t words ≡ g → Agrees (fault_of (app_for nm t) words) (matches_of (app_for nm t) words) g → Takes_as m words
      go None e h = absurd (h none)
      go (Some given) e h = (given, (e, λ id. first_value-rows (found_of m) id ∙ ap (first_of id) (kept ∙ h.1) ∙ first_of_row id given))

  pub not_taken : (app : App) → app ≡ app_for nm t → (words : List Text) → list_any is_refused words ≡ false → Finds app words None → given_by t words ≡ None
  not_taken app same words allowed finds = go (given_by t words) (agreed words allowed)
    where
      some : fault_of (app_for nm t) words ≡ [] → ⊥
      some = subst (λ a. fault_of a words ≡ [] → ⊥) same finds

      go : (g : Option Given) → Agrees (fault_of (app_for nm t) words) (matches_of (app_for nm t) words) g → g ≡ None
      go None h = refl
      go (Some given) h = absurd (some h.0)

-- ---- a rule without default value

abbrev none_if : Bool → Kinds
none_if b = if b || true then [] else []

default_none : (name : Text) (long : Option Text) (index : Option ℕ) (rows : List Row) → default_fault rows (valued name long index) ≡ []
default_none name long index rows = go (has_row name rows)
  where
    go : (b : Bool) → none_if b ≡ []
    go true = refl
    go false = refl

default_same : (name : Text) (long : Option Text) (index : Option ℕ) (rows : List Row) → with_default rows (valued name long index) ≡ rows
default_same name long index rows = go (has_row name rows)
  where
    go : (b : Bool) → (if b then rows else rows) ≡ rows
    go true = refl
    go false = refl

-- ---- the rules of a command

same_text : (one other : Text) → bytes_eq one other ≡ true → one ≡ other
same_text one other e = (bytes_eq-Decides one other).0 e

-- a search of the rules by a name finds the option of this name, or goes on to the rules after the options
module _ (p : Rule → Text → Bool) (reads : (n name : Text) → p (option_built n) name ≡ bytes_eq n name) (last : List Rule) where
  found_rule : (names : List Text) (name : Text) → list_any (λ other. bytes_eq other name) names ≡ true
      → find (λ a. p a name) (map option_built names ++ last) ≡ Some (option_built name)
  found_rule [] name o = absurd (true≢false (sym o))
  found_rule (n ∷ names) name o = go (bytes_eq n name) refl (found_rule names name)
    where
      go : (b : Bool) → bytes_eq n name ≡ b → (list_any (λ other. bytes_eq other name) names ≡ true → find (λ a. p a name) (map option_built names ++ last) ≡ Some (option_built name))
          → (if p (option_built n) name then Some (option_built n) else find (λ a. p a name) (map option_built names ++ last)) ≡ Some (option_built name)
      go true e rest = ap (λ b. if b then Some (option_built n) else find (λ a. p a name) (map option_built names ++ last)) (reads n name ∙ e)
          ∙ ap (λ x. Some (option_built x)) (same_text n name e)
      go false e rest = ap (λ b. if b then Some (option_built n) else find (λ a. p a name) (map option_built names ++ last)) (reads n name ∙ e)
          ∙ rest (sym (ap (λ b. b || list_any (λ other. bytes_eq other name) names) e) ∙ o)

  no_rule : (names : List Text) (name : Text) → list_any (λ other. bytes_eq other name) names ≡ false
      → find (λ a. p a name) (map option_built names ++ last) ≡ find (λ a. p a name) last
  no_rule [] name o = refl
  no_rule (n ∷ names) name o = go (bytes_eq n name) refl (no_rule names name)
    where
      go : (b : Bool) → bytes_eq n name ≡ b → (list_any (λ other. bytes_eq other name) names ≡ false → find (λ a. p a name) (map option_built names ++ last) ≡ find (λ a. p a name) last)
          → (if p (option_built n) name then Some (option_built n) else find (λ a. p a name) (map option_built names ++ last)) ≡ find (λ a. p a name) last
      go true e rest = absurd (true≢false (sym (ap (λ b. b || list_any (λ other. bytes_eq other name) names) e) ∙ o))
      go false e rest = ap (λ b. if b then Some (option_built n) else find (λ a. p a name) (map option_built names ++ last)) (reads n name ∙ e)
          ∙ rest (sym (ap (λ b. b || list_any (λ other. bytes_eq other name) names) e) ∙ o)

apart_from : (other : Text) (names : List Text) (name : Text) → list_any (λ n. bytes_eq n other) names ≡ false → list_any (λ n. bytes_eq n name) names ≡ true → bytes_eq name other ≡ false
apart_from other [] name e o = absurd (true≢false (sym o))
apart_from other (n ∷ names) name e o = go (bytes_eq n name) refl (bytes_eq n other) refl (apart_from other names name)
  where
    go : (b : Bool) → bytes_eq n name ≡ b → (d : Bool) → bytes_eq n other ≡ d
        → (list_any (λ m. bytes_eq m other) names ≡ false → list_any (λ m. bytes_eq m name) names ≡ true → bytes_eq name other ≡ false) → bytes_eq name other ≡ false
    go b f true g rest = absurd (true≢false (sym (ap (λ x. x || list_any (λ m. bytes_eq m other) names) g) ∙ e))
    go true f false g rest = ap (λ m. bytes_eq m other) (sym (same_text n name f)) ∙ g
    go false f false g rest = rest (sym (ap (λ x. x || list_any (λ m. bytes_eq m other) names) g) ∙ e) (sym (ap (λ x. x || list_any (λ m. bytes_eq m name) names) f) ∙ o)

or_nothing : (b : Bool) → (b || false) ≡ b
or_nothing true = refl
or_nothing false = refl

by_long : (n name : Text) → (not (is_some (option_built n).index) && has_long (option_built n) name) ≡ bytes_eq n name
by_long n name = or_nothing (bytes_eq n name)

by_name : (n name : Text) → bytes_eq (option_built n).id name ≡ bytes_eq n name
by_name n name = refl

abbrev is_long : Rule → Text → Bool
is_long a name = not (is_some a.index) && has_long a name

abbrev is_named : Rule → Text → Bool
is_named a name = bytes_eq a.id name

-- options have no place
no_place : (names : List Text) (last : List Rule) (place : ℕ) → arg_by_index (map option_built names ++ last) place ≡ arg_by_index last place
no_place [] last place = refl
no_place (n ∷ names) last place = no_place names last place

number_long : (b : Bool) (name : Text) → arg_by_long (numbers b) name ≡ None
number_long true name = refl
number_long false name = refl

number_first : (b : Bool) → arg_by_index (numbers b) 1 ≡ number_if b
number_first true = refl
number_first false = refl

number_second : (b : Bool) → arg_by_index (numbers b) 2 ≡ None
number_second true = refl
number_second false = refl

number_named : (b : Bool) → b ≡ true → arg_by_id (numbers b) number_name ≡ Some number_built
number_named true e = refl
number_named false e = absurd (true≢false (sym e))

rules_are : (t : Takes) → is_option t number_name ≡ false → AreRules (rules_of t) t
rules_are t free = record {
  long = λ name o. found_rule is_long by_long (numbers t.number) t.options name o;
  by_id = λ name o. found_rule is_named by_name (numbers t.number) t.options name o;
  unknown = λ name o. no_rule is_long by_long (numbers t.number) t.options name o ∙ number_long t.number name;
  apart = λ name o. apart_from number_name t.options name free o;
  first = no_place t.options (numbers t.number) 1 ∙ number_first t.number;
  second = no_place t.options (numbers t.number) 2 ∙ number_second t.number;
  by_number = λ e. no_rule is_named by_name (numbers t.number) t.options number_name free ∙ number_named t.number e;
}

number_defaults : (b : Bool) (rows : List Row) → defaults_fault rows (numbers b) ≡ []
unfolding defaults_fault
number_defaults true rows = ap (λ k. or_else k []) (default_none number_name None (Some 1) rows)
number_defaults false rows = refl

no_defaults : (names : List Text) (b : Bool) (rows : List Row) → defaults_fault rows (map option_built names ++ numbers b) ≡ []
unfolding defaults_fault
no_defaults [] b rows = number_defaults b rows
no_defaults (n ∷ names) b rows = λ i. or_else (default_none n (Some n) None rows i)
    ((ap (λ r. defaults_fault r (map option_built names ++ numbers b)) (default_same n (Some n) None rows) ∙ no_defaults names b rows) i)

rows_stay : (names : List Text) (b : Bool) (rows : List Row) → fold with_default rows (map option_built names ++ numbers b) ≡ rows
rows_stay [] true rows = default_same number_name None (Some 1) rows
rows_stay [] false rows = refl
rows_stay (n ∷ names) b rows = ap (λ r. fold with_default r (map option_built names ++ numbers b)) (default_same n (Some n) None rows) ∙ rows_stay names b rows

is_built : (nm : Text) (t : Takes) → is_option t number_name ≡ false → built (app_for nm t) ≡ record { top = shape_of nm t; subs = [] }
    → ((rows : List Row) → check_fault (shape_of nm t) rows false ≡ []) → IsBuilt nm t
is_built nm t free built_as checks = record {
  rules = rules_are t free;
  built_as = built_as;
  defaults = no_defaults t.options t.number;
  finished_as = rows_stay t.options t.number;
  checks = checks;
}

-- ---- the commands

pub run_is_built : IsBuilt (codes "run") run_takes
unfolding clap_on_literals
run_is_built = is_built (codes "run") run_takes refl refl (λ rows. refl)

pub run_is_simple : is_simple_and_free (app_for (codes "run") run_takes) ≡ true
unfolding clap_on_literals
run_is_simple = refl

pub step_is_built : IsBuilt (codes "step") step_takes
unfolding clap_on_literals
step_is_built = is_built (codes "step") step_takes refl refl (λ rows. refl)

pub step_is_simple : is_simple_and_free (app_for (codes "step") step_takes) ≡ true
unfolding clap_on_literals
step_is_simple = refl

pub draw_is_built : IsBuilt (codes "draw") draw_takes
unfolding clap_on_literals
draw_is_built = is_built (codes "draw") draw_takes refl refl (λ rows. refl)

pub draw_is_simple : is_simple_and_free (app_for (codes "draw") draw_takes) ≡ true
unfolding clap_on_literals
draw_is_simple = refl

pub explore_is_built : IsBuilt (codes "explore") explore_takes
unfolding clap_on_literals
explore_is_built = is_built (codes "explore") explore_takes refl refl (λ rows. refl)

pub explore_is_simple : is_simple_and_free (app_for (codes "explore") explore_takes) ≡ true
unfolding clap_on_literals
explore_is_simple = refl

pub schedules_is_built : IsBuilt (codes "schedules") schedules_takes
unfolding clap_on_literals
schedules_is_built = is_built (codes "schedules") schedules_takes refl refl (λ rows. refl)

pub schedules_is_simple : is_simple_and_free (app_for (codes "schedules") schedules_takes) ≡ true
unfolding clap_on_literals
schedules_is_simple = refl

pub gen_is_built : IsBuilt (codes "gen") gen_takes
unfolding clap_on_literals
gen_is_built = is_built (codes "gen") gen_takes refl refl (λ rows. refl)

pub gen_is_simple : is_simple_and_free (app_for (codes "gen") gen_takes) ≡ true
unfolding clap_on_literals
gen_is_simple = refl

pub bench_is_built : IsBuilt (codes "bench") bench_takes
unfolding clap_on_literals
bench_is_built = is_built (codes "bench") bench_takes refl refl (λ rows. refl)

pub bench_is_simple : is_simple_and_free (app_for (codes "bench") bench_takes) ≡ true
unfolding clap_on_literals
bench_is_simple = refl

-- ---- what the checker and the feed are asked

pub check_is_built : IsBuilt (codes "check") check_takes
unfolding clap_on_literals
check_is_built = is_built (codes "check") check_takes refl refl (λ rows. refl)

pub check_is_simple : is_simple_and_free (app_for (codes "check") check_takes) ≡ true
unfolding clap_on_literals
check_is_simple = refl

pub feed_is_built : IsBuilt (codes "feed") feed_takes
unfolding clap_on_literals
feed_is_built = is_built (codes "feed") feed_takes refl refl (λ rows. refl)

pub feed_is_simple : is_simple_and_free (app_for (codes "feed") feed_takes) ≡ true
unfolding clap_on_literals
feed_is_simple = refl
