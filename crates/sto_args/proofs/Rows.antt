-- The rows that `clap` keeps of values that are each given once.
use Rattle.std.proofs.Common.{◌≡◌, ◌∙◌, ◌||◌, ℕ, Bool, true, false, refl, sym, ap, List, [], ◌∷◌, ◌++◌, map, Option, Some, None, true≢false}
use Rattle.std.specs.Prelude.{if◌then◌else◌}
use Rattle.std.specs.Str.{bytes_eq}
use Rattle.clap.specs.Values.{reading_of}
use Rattle.clap.specs.Walk.{Row, Rule, at_row, has_row, more_values, used, with_values, without}
use Rattle.clap.specs.Simple.{new_rule}
use Rattle.clap.specs.declared.builder.action.ArgAction.TheVariants.{Set}
use Rattle.clap.specs.declared.builder.value_parser.ValueParser.TheVariants as vp
use Rattle.clap.specs.declared.parser.matches.ValueSource.TheVariants.{CommandLine}
use Rattle.sto_args.specs.Given.{Text, Given, is_given}

-- an argument that takes one text, as it is built
abbrev pub valued : Text → Option Text → Option ℕ → Rule
valued id long index = record (new_rule id) {
  long = long;
  index = index;
  action = Some Set;
  range = Some (record { start_inclusive = 1; end_inclusive = 1 });
  parser = Some vp.String;
}

abbrev pub row : Text × Text → Row
row g = record { id = g.0; values = g.1 ∷ []; count = None; source = Some CommandLine; reading = reading_of vp.String }

pub has_row_given : (name : Text) (given : Given) → has_row name (map row given) ≡ is_given name given
has_row_given name [] = refl
has_row_given name (g ∷ given) = ap (λ b. bytes_eq g.0 name || b) (has_row_given name given)

or_false : (a b : Bool) → (a || b) ≡ false → (a ≡ false) × (b ≡ false)
or_false true b e = absurd (true≢false e)
or_false false b e = (refl, e)

at_row_absent : (id : Text) (change : Row → List Row) (missing rows : List Row) → has_row id rows ≡ false → at_row id change missing rows ≡ rows ++ missing
at_row_absent id change missing [] e = refl
at_row_absent id change missing (r ∷ rows) e =
    let f = or_false (bytes_eq r.id id) (has_row id rows) e in
    ap (λ b. if b then change r ++ rows else r ∷ at_row id change missing rows) f.0 ∙ ap (λ rest. r ∷ rest) (at_row_absent id change missing rows f.1)

nothing_more : {X : Type 0} (xs : List X) → xs ++ [] ≡ xs
nothing_more [] = refl
nothing_more (x ∷ xs) = ap (λ rest. x ∷ rest) (nothing_more xs)

row_last : (given : Given) (g : Text × Text) → map row (given ++ g ∷ []) ≡ map row given ++ row g ∷ []
row_last [] g = refl
row_last (x ∷ given) g = ap (λ rest. row x ∷ rest) (row_last given g)

-- a first use adds the row of its value
pub used_row : (id : Text) (long : Option Text) (index : Option ℕ) (v : Text) (given : Given) (rows : List Row) → rows ≡ map row given → is_given id given ≡ false
    → used (valued id long index) (v ∷ []) rows ≡ map row (given ++ (id, v) ∷ [])
used_row id long index v given rows same absent =
    let none : has_row id rows ≡ false = ap (has_row id) same ∙ has_row_given id given ∙ absent in
    let kept : without id rows ≡ rows = at_row_absent id (λ _. []) [] rows none ∙ nothing_more rows in
    ap (λ r. with_values id (reading_of vp.String) CommandLine (v ∷ []) r) kept ∙ at_row_absent id (more_values CommandLine (v ∷ [])) (row (id, v) ∷ []) rows none ∙ ap (λ r. r ++ row (id, v) ∷ []) same ∙ sym (row_last given (id, v))

pub is_given_self : (name value : Text) (given : Given) → bytes_eq name name ≡ true → is_given name (given ++ (name, value) ∷ []) ≡ true
is_given_self name value [] e = ap (λ b. b || false) e
is_given_self name value (g ∷ given) e = or_true (bytes_eq g.0 name) _ (is_given_self name value given e)
  where
    or_true : (a b : Bool) → b ≡ true → (a || b) ≡ true
    or_true true b h = refl
    or_true false b h = h

pub is_given_apart : (other name value : Text) (given : Given) → bytes_eq name other ≡ false → is_given other (given ++ (name, value) ∷ []) ≡ is_given other given
is_given_apart other name value [] e = ap (λ b. b || false) e
is_given_apart other name value (g ∷ given) e = ap (λ b. bytes_eq g.0 other || b) (is_given_apart other name value given e)
