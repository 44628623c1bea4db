-- What `clap` makes of words: it takes them exactly where each gives a value that was not given before.
use Rattle.std.proofs.Common.{◌≡◌, ◌∙◌, ◌+◌, ◌&&◌, ◌||◌, ◌⊎◌, inl, inr, ℕ, Bool, true, false, refl, sym, ap, ap₂, subst, List, [], ◌∷◌, ◌++◌, map, Option, Some, None, is_some, true≢false, min}
use Rattle.std.specs.Prelude.{if◌then◌else◌, fold, nat_lt}
use Rattle.std.specs.List.{list_any}
use Rattle.std.specs.Option.{option_and_then, option_map_or}
use Rattle.std.specs.Str.{bytes_eq}
use Rattle.std.proofs.lemmas.Slice.Eq.{bytes_eq-Decides}
use Rattle.clap.specs.Lexer.{usize_max, long_of, short_of_rest, strip_byte}
use Rattle.clap.specs.Walk.{Held, option_word, short_or_plain, Row, Rule, Step, Waiting, Walk, idle, option, trailing, after_flag, after_step, long_met, pushed, to_positional, used_by_id, arg_by_id, arg_by_index, arg_by_long, has_row, is_pending, long_or_other, reacted, settled, settled_rows, walked, used}
use Rattle.clap.specs.Simple.{Shape, new_shape}
use Rattle.clap.specs.Kinds.{Kinds, or_else}
use Rattle.clap.specs.Faults.{bundle_fault, flag_word_fault, long_fault, positional_fault, settle_fault, step_fault, stray_fault, use_fault, walk_fault}
use Rattle.clap.specs.declared.error.kind.ErrorKind.TheVariants.{ArgumentConflict}
use Rattle.sto_args.specs.Given.{Text, Takes, Given, Word, Alone, number_name, is_option, is_given, with_word, with_awaited, kind_from, kind_of, now_given, given_after, is_refused, is_refused_kind}
use Rattle.sto_args.proofs.Rows.{valued, row, has_row_given, is_given_self, is_given_apart, used_row}

abbrev pub option_built : Text → Rule
option_built name = valued name (Some name) None

abbrev pub number_built : Rule
number_built = valued number_name None (Some 1)

abbrev pub number_if : Bool → Option Rule
number_if takes_number = if takes_number then Some number_built else None

-- the rules are those of what a command takes
pub record AreRules (c : List Rule) (t : Takes) : Type 0 where
  pub long : (name : Text) → is_option t name ≡ true → arg_by_long c name ≡ Some (option_built name)
  pub by_id : (name : Text) → is_option t name ≡ true → arg_by_id c name ≡ Some (option_built name)
  pub unknown : (name : Text) → is_option t name ≡ false → arg_by_long c name ≡ None
  pub apart : (name : Text) → is_option t name ≡ true → bytes_eq name number_name ≡ false
  pub first : arg_by_index c 1 ≡ number_if t.number
  pub second : arg_by_index c 2 ≡ None
  pub by_number : t.number ≡ true → arg_by_id c number_name ≡ Some number_built

abbrev pub shape_with : Text → List Rule → Shape
shape_with name c = record (new_shape name) { rules = c; no_binary_name = true; disable_help_flag = true; disable_help_subcommand = true; is_built = true }

-- no kind comes exactly where something is given, and then the rows hold it
abbrev pub Agrees : Kinds → List Row → Option Given → Type 0
Agrees kinds rows None = kinds ≡ [] → ⊥
Agrees kinds rows (Some given) = (kinds ≡ []) × (rows ≡ map row given)

abbrev pub held_after : List Rule → Walk → List Text → Held
held_after c w words = (fold (walked c []) w words).held

-- the faults of a turn, of the words after it, and of the last use
abbrev pub faults_after : Shape → Kinds → Walk → List Text → Kinds
faults_after s turn w words = or_else (or_else turn (walk_fault s [] w words)) (settle_fault s.rules false (held_after s.rules w words))

abbrev pub rows_after : Shape → Walk → List Text → List Row
rows_after s w words = (settled s.rules (held_after s.rules w words)).rows

abbrev pub GoesOn : Shape → Kinds → Walk → List Text → Option Given → Type 0
GoesOn s turn w words given = Agrees (faults_after s turn w words) (rows_after s w words) given

-- the walk between two uses, and the walk at an option that waits
abbrev pub between : Held → ℕ → Walk
between h position = record { held = h; waiting = idle; position = position; is_trailing = false; stopped = None }

abbrev pub at_option : List Row → Text → ℕ → ℕ → Walk
at_option rows name skip position = record {
  held = record { rows = rows; pending = Some (name, []); skip = skip };
  waiting = option name;
  position = position;
  is_trailing = false;
  stopped = None;
}

abbrev pub given_from : Takes → Given → Option Text → List Text → Option Given
given_from t given waiting words = given_after t words (record { given = given; waiting = waiting })

first_stops : (a b : Kinds) → (a ≡ [] → ⊥) → or_else a b ≡ [] → ⊥
first_stops [] b some e = some refl
first_stops (k ∷ ks) b some e = some e

passes : (s : Shape) (turn : Kinds) (w : Walk) (words : List Text) (given : Option Given) → turn ≡ [] → GoesOn s [] w words given → GoesOn s turn w words given
passes s turn w words given none h = subst (λ k. GoesOn s k w words given) (sym none) h

stops : (s : Shape) (turn : Kinds) (w : Walk) (words : List Text) → (turn ≡ [] → ⊥) → GoesOn s turn w words None
stops s turn w words some = first_stops _ _ (first_stops _ _ some)

-- ---- uses

abbrev has_kind : Kinds → Bool
has_kind [] = false
has_kind (k ∷ ks) = true

some_kinds : (kinds : Kinds) → has_kind kinds ≡ true → kinds ≡ [] → ⊥
some_kinds kinds some none = true≢false (sym some ∙ ap has_kind none)

abbrev conflict_if : Bool → Kinds
conflict_if b = or_else (if b && true then ArgumentConflict ∷ [] else []) []

used_once : (id : Text) (long : Option Text) (index : Option ℕ) (v : Text) (rows : List Row) → has_row id rows ≡ false → use_fault false (valued id long index) (v ∷ []) rows ≡ []
used_once id long index v rows absent = ap conflict_if absent

used_twice : (id : Text) (long : Option Text) (index : Option ℕ) (v : Text) (rows : List Row) → has_row id rows ≡ true → use_fault false (valued id long index) (v ∷ []) rows ≡ [] → ⊥
used_twice id long index v rows present none = some_kinds (conflict_if true) refl (ap conflict_if (sym present) ∙ none)

not_pending : {A : Type 0} (x : Bool) (a b : A) → (if x && false then a else b) ≡ b
not_pending true a b = refl
not_pending false a b = refl

abbrev dashes : Text
dashes = 45 ∷ 45 ∷ []

not_dashes : (word : Text) → is_refused word ≡ false → bytes_eq word dashes ≡ false
not_dashes word e = go (bytes_eq word dashes) refl
  where
    go : (b : Bool) → bytes_eq word dashes ≡ b → b ≡ false
    go false f = refl
    go true f = absurd (true≢false (ap is_refused (sym ((bytes_eq-Decides word dashes).0 f)) ∙ e))

same_name : (name : Text) → bytes_eq name name ≡ true
same_name name = (bytes_eq-Decides name name).1 refl

or_false : (a b : Bool) → (a || b) ≡ false → (a ≡ false) × (b ≡ false)
or_false true b e = absurd (true≢false e)
or_false false b e = (refl, e)

abbrev place : Given → ℕ
place given = if is_given number_name given then 2 else 1

-- ---- one word

-- what a word is to `clap`, where d says that it is `--`, and l how it is split
abbrev met : List Rule → Waiting → ℕ → Text → Held → Bool → Option (Text × Option Text) → Held × Step
met c waiting position word h d l = if d then (h, trailing position) else long_or_other c waiting word l h

abbrev turn_kinds : Shape → Waiting → ℕ → Text → Held → Bool → Option (Text × Option Text) → Kinds
turn_kinds s waiting position word h d l = or_else (if d then [] else flag_word_fault s.rules false l word h)
    (step_fault s position (met s.rules waiting position word h d l).0 (met s.rules waiting position word h d l).1)

abbrev Turns : Shape → Waiting → ℕ → Text → List Text → Held → Bool → Option (Text × Option Text) → Option Given → Type 0
Turns s waiting position word words h d l given = GoesOn s (turn_kinds s waiting position word h d l)
    (after_step s.rules word (record { held = h; waiting = waiting; position = position; is_trailing = false; stopped = None })
    (met s.rules waiting position word h d l).0 (met s.rules waiting position word h d l).1) words given

module _ (nm : Text) (c : List Rule) (t : Takes) (r : AreRules c t) where
  abbrev s : Shape
  s = shape_with nm c

  turn_between : (h : Held) (p : ℕ) (word : Text) (words : List Text) (given : Option Given)
      → Turns s idle p word words h (bytes_eq word dashes) (long_of word) given → GoesOn s [] (between h p) (word ∷ words) given
  unfolding walked walk_fault
  turn_between h p word words given turned = turned

  turn_waiting : (rows : List Row) (name : Text) (k p : ℕ) (word : Text) (words : List Text) (given : Option Given)
      → Turns s (option name) p word words (at_option rows name k p).held (bytes_eq word dashes) (long_of word) given
      → GoesOn s [] (at_option rows name k p) (word ∷ words) given
  unfolding walked walk_fault
  turn_waiting rows name k p word words given turned = turned

  abbrev Ready : Held → Given → Type 0
  Ready h given = (settle_fault c false h ≡ []) × (settled_rows c h.pending h.rows ≡ map row given)

  abbrev Idles : List Text → Type 0
  Idles words = (given : Given) (h : Held) (p : ℕ) → Ready h given → p ≡ place given → GoesOn s [] (between h p) words (given_from t given None words)

  abbrev Waits : List Text → Type 0
  Waits words = (given : Given) (rows : List Row) (k p : ℕ) (name : Text) → is_option t name ≡ true → rows ≡ map row given → p ≡ place given
      → GoesOn s [] (at_option rows name k p) words (given_from t given (Some name) words)

  -- an option that waits has no value yet
  no_value : (rows : List Row) (k : ℕ) (name : Text) → is_option t name ≡ true → settle_fault c false (record { rows = rows; pending = Some (name, []); skip = k }) ≡ [] → ⊥
  no_value rows k name o none =
      let found : settle_fault c false (record { rows = rows; pending = Some (name, []); skip = k }) ≡ use_fault false (option_built name) [] rows
      = ap (λ a. option_map_or (λ a. use_fault false a [] rows) a []) (r.by_id name o) in
      some_kinds (use_fault false (option_built name) [] rows) refl (sym found ∙ none)

  long_stops : (v : Option Text) (h : Held) (name : Text) → (settle_fault c false h ≡ [] → ⊥) → long_fault c false (arg_by_long c name) v h ≡ [] → ⊥
  long_stops v h name some = go (is_option t name) refl v
    where
      go : (b : Bool) → is_option t name ≡ b → (v : Option Text) → long_fault c false (arg_by_long c name) v h ≡ [] → ⊥
      go false o v = subst (λ a. long_fault c false a v h ≡ [] → ⊥) (sym (r.unknown name o)) (some_kinds _ refl)
      go true o None = subst (λ a. long_fault c false a None h ≡ [] → ⊥) (sym (r.long name o)) some
      go true o (Some x) = subst (λ a. long_fault c false a (Some x) h ≡ [] → ⊥) (sym (r.long name o)) (first_stops _ _ some)

  or_settles : (h : Held) → settle_fault c false h ≡ [] → (next : Kinds) → next ≡ [] → or_else (or_else (settle_fault c false h) next) [] ≡ []
  or_settles h settles next none = ap (λ k. or_else (or_else k next) []) settles ∙ ap (λ k. or_else k []) none

  row_absent : (name : Text) (given : Given) (rows : List Row) → rows ≡ map row given → is_given name given ≡ false → has_row name rows ≡ false
  row_absent name given rows same absent = ap (has_row name) same ∙ has_row_given name given ∙ absent

  -- ---- a word between two uses

  -- `--NAME` or `--NAME=VALUE`, where the rule of this name was looked up
  abbrev long_met_here : Held → Text → Option Rule → Option Text → Held × Step
  long_met_here h word found v = after_flag c idle word (long_met c found v h).0 (long_met c found v h).1

  abbrev long_turn : Held → ℕ → Text → Option Rule → Option Text → Kinds
  long_turn h p word found v = or_else (long_fault c false found v h) (step_fault s p (long_met_here h word found v).0 (long_met_here h word found v).1)

  abbrev long_walk : Held → ℕ → Text → Option Rule → Option Text → Walk
  long_walk h p word found v = after_step c word (between h p) (long_met_here h word found v).0 (long_met_here h word found v).1

  abbrev Longs : Held → ℕ → Text → List Text → Option Rule → Option Text → Option Given → Type 0
  Longs h p word words found v given = GoesOn s (long_turn h p word found v) (long_walk h p word found v) words given

  unknown_word : (word : Text) (words : List Text) (h : Held) (p : ℕ) (name : Text) (v : Option Text) → is_option t name ≡ false → Longs h p word words (arg_by_long c name) v None
  unknown_word word words h p name v o = subst (λ a. Longs h p word words a v None) (sym (r.unknown name o))
      (stops s (long_turn h p word None v) (long_walk h p word None v) words (some_kinds (long_turn h p word None v) refl))

  abbrev given_if_bare : List Text → Given → Text → Bool → Option Given
  given_if_bare words given name b = option_and_then (given_after t words) (if b then Some (record { given = given; waiting = Some name }) else None)

  known_bare : (word : Text) (words : List Text) → Waits words → (given : Given) (h : Held) (p : ℕ) → Ready h given → p ≡ place given → (name : Text) → is_option t name ≡ true
      → Longs h p word words (arg_by_long c name) None (given_from t given (Some name) words)
  known_bare word words waits given h p ready at name o = subst (λ a. Longs h p word words a None (given_from t given (Some name) words)) (sym (r.long name o))
      (passes s (long_turn h p word (Some (option_built name)) None) (long_walk h p word (Some (option_built name)) None) words (given_from t given (Some name) words)
      (ap (λ k. or_else k []) ready.0) (waits given (settled_rows c h.pending h.rows) h.skip p name o ready.1 at))

  bare_word : (word : Text) (words : List Text) → Waits words → (given : Given) (h : Held) (p : ℕ) → Ready h given → p ≡ place given → (name : Text)
      → Longs h p word words (arg_by_long c name) None (given_if_bare words given name (is_option t name))
  bare_word word words waits given h p ready at name = go (is_option t name) refl
    where
      go : (b : Bool) → is_option t name ≡ b → Longs h p word words (arg_by_long c name) None (given_if_bare words given name (is_option t name))
      go false o = subst (λ b. Longs h p word words (arg_by_long c name) None (given_if_bare words given name b)) (sym o) (unknown_word word words h p name None o)
      go true o = subst (λ b. Longs h p word words (arg_by_long c name) None (given_if_bare words given name b)) (sym o) (known_bare word words waits given h p ready at name o)

  abbrev given_if : List Text → Given → Text → Text → Bool → Bool → Option Given
  given_if words given name v b g = option_and_then (given_after t words) (if b then now_given (if g then None else Some (given ++ (name, v) ∷ [])) else None)

  again_word : (word : Text) (words : List Text) (given : Given) (h : Held) (p : ℕ) → Ready h given → (name v : Text) → is_option t name ≡ true → is_given name given ≡ true
      → Longs h p word words (arg_by_long c name) (Some v) None
  again_word word words given h p ready name v o e =
      let rows = settled_rows c h.pending h.rows in
      let fault = use_fault false (option_built name) (v ∷ []) rows in
      let present : has_row name rows ≡ true = ap (has_row name) ready.1 ∙ has_row_given name given ∙ e in
      let some : or_else (settle_fault c false h) fault ≡ [] → ⊥ = λ none. used_twice name (Some name) None v rows present (ap (λ k. or_else k fault) (sym ready.0) ∙ none) in
      subst (λ a. Longs h p word words a (Some v) None) (sym (r.long name o))
      (stops s (long_turn h p word (Some (option_built name)) (Some v)) (long_walk h p word (Some (option_built name)) (Some v)) words (first_stops (or_else (settle_fault c false h) fault) [] some))

  first_word : (word : Text) (words : List Text) → Idles words → (given : Given) (h : Held) (p : ℕ) → Ready h given → p ≡ place given → (name v : Text) → is_option t name ≡ true → is_given name given ≡ false
      → Longs h p word words (arg_by_long c name) (Some v) (given_from t (given ++ (name, v) ∷ []) None words)
  first_word word words idles given h p ready at name v o e =
      let rows = settled_rows c h.pending h.rows in
      let more = given ++ (name, v) ∷ [] in
      let once = used_once name (Some name) None v rows (row_absent name given rows ready.1 e) in
      let kept = used_row name (Some name) None v given rows ready.1 e in
      let same : p ≡ place more = at ∙ ap (λ b. if b then 2 else 1) (sym (is_given_apart number_name name v given (r.apart name o))) in
      subst (λ a. Longs h p word words a (Some v) (given_from t more None words)) (sym (r.long name o))
      (passes s (long_turn h p word (Some (option_built name)) (Some v)) (long_walk h p word (Some (option_built name)) (Some v)) words (given_from t more None words)
      (or_settles h ready.0 (use_fault false (option_built name) (v ∷ []) rows) once)
      (idles more (reacted c (option_built name) (v ∷ []) h) p (refl, kept) same))

  valued_word : (word : Text) (words : List Text) → Idles words → (given : Given) (h : Held) (p : ℕ) → Ready h given → p ≡ place given → (name v : Text)
      → Longs h p word words (arg_by_long c name) (Some v) (given_if words given name v (is_option t name) (is_given name given))
  valued_word word words idles given h p ready at name v = go (is_option t name) refl
    where
      by : (g : Bool) → is_given name given ≡ g → is_option t name ≡ true → Longs h p word words (arg_by_long c name) (Some v) (given_if words given name v true (is_given name given))
      by true e o = subst (λ g. Longs h p word words (arg_by_long c name) (Some v) (given_if words given name v true g)) (sym e) (again_word word words given h p ready name v o e)
      by false e o = subst (λ g. Longs h p word words (arg_by_long c name) (Some v) (given_if words given name v true g)) (sym e) (first_word word words idles given h p ready at name v o e)

      go : (b : Bool) → is_option t name ≡ b → Longs h p word words (arg_by_long c name) (Some v) (given_if words given name v (is_option t name) (is_given name given))
      go false o = subst (λ b. Longs h p word words (arg_by_long c name) (Some v) (given_if words given name v b (is_given name given))) (sym o) (unknown_word word words h p name (Some v) o)
      go true o = subst (λ b. Longs h p word words (arg_by_long c name) (Some v) (given_if words given name v b (is_given name given))) (sym o) (by (is_given name given) refl o)

  -- a word alone, where the rule of the position was looked up
  abbrev place_turn : Held → Option Rule → Kinds
  place_turn h found = option_map_or (λ a. positional_fault c false a h) found (stray_fault s)

  abbrev place_walk : Held → ℕ → Text → Option Rule → Walk
  place_walk h p word found = to_positional c found word (between h p) h

  abbrev Places : Held → ℕ → Text → List Text → Option Rule → Option Given → Type 0
  Places h p word words found given = GoesOn s (place_turn h found) (place_walk h p word found) words given

  no_place : (h : Held) (p : ℕ) (word : Text) (words : List Text) → Places h p word words None None
  no_place h p word words = stops s (place_turn h None) (place_walk h p word None) words (some_kinds (place_turn h None) refl)

  number_stops : (h : Held) (p : ℕ) (word : Text) (words : List Text) → (settle_fault c false h ≡ [] → ⊥) → Places h p word words (Some number_built) None
  number_stops h p word words some = stops s (place_turn h (Some number_built)) (place_walk h p word (Some number_built)) words
      (subst (λ k. k ≡ [] → ⊥) (sym (not_pending (is_pending number_built h.pending) [] (settle_fault c false h))) some)

  number_word : (word : Text) (words : List Text) → Idles words → (given : Given) (h : Held) (p : ℕ) → Ready h given → p ≡ 1 → t.number ≡ true → is_given number_name given ≡ false
      → Places h p word words (Some number_built) (given_from t (given ++ (number_name, word) ∷ []) None words)
  number_word word words idles given h p ready first takes absent =
      let rows = settled_rows c h.pending h.rows in
      let more = given ++ (number_name, word) ∷ [] in
      let now : Held = pushed number_name word (settled c h) in
      let same : place_walk h p word (Some number_built) ≡ between now (min (p + 1) usize_max)
      = ap (λ x. between (pushed number_name word x) (min (p + 1) usize_max)) (not_pending (is_pending number_built h.pending) h (settled c h)) in
      let settles : settle_fault c false now ≡ [] = ap (λ a. option_map_or (λ a. use_fault false a (word ∷ []) rows) a []) (r.by_number takes)
      ∙ used_once number_name None (Some 1) word rows (row_absent number_name given rows ready.1 absent) in
      let kept : settled_rows c now.pending now.rows ≡ map row more
      = ap (λ a. used_by_id a (word ∷ []) rows) (r.by_number takes) ∙ used_row number_name None (Some 1) word given rows ready.1 absent in
      let second : min (p + 1) usize_max ≡ place more
      = ap (λ q. min (q + 1) usize_max) first ∙ ap (λ b. if b then 2 else 1) (sym (is_given_self number_name word given refl)) in
      passes s (place_turn h (Some number_built)) (place_walk h p word (Some number_built)) words (given_from t more None words)
      (not_pending (is_pending number_built h.pending) [] (settle_fault c false h) ∙ ready.0)
      (subst (λ w. GoesOn s [] w words (given_from t more None words)) (sym same) (idles more now (min (p + 1) usize_max) (settles, kept) second))

  -- the rule of a position
  index_second : (given : Given) (p : ℕ) → p ≡ place given → is_given number_name given ≡ true → arg_by_index c p ≡ None
  index_second given p at e = ap (arg_by_index c) (at ∙ ap (λ b. if b then 2 else 1) e) ∙ r.second

  index_first : (given : Given) (p : ℕ) → p ≡ place given → is_given number_name given ≡ false → (n : Bool) → t.number ≡ n → arg_by_index c p ≡ number_if n
  index_first given p at e n d = ap (arg_by_index c) (at ∙ ap (λ b. if b then 2 else 1) e) ∙ r.first ∙ ap number_if d

  alone_by : (word : Text) (words : List Text) → Idles words → (given : Given) (h : Held) (p : ℕ) → Ready h given → p ≡ place given
      → (g : Bool) → is_given number_name given ≡ g → (n : Bool) → t.number ≡ n → Places h p word words (arg_by_index c p) (given_if words given number_name word n g)
  alone_by word words idles given h p ready at true e true d = subst (λ a. Places h p word words a None) (sym (index_second given p at e)) (no_place h p word words)
  alone_by word words idles given h p ready at true e false d = subst (λ a. Places h p word words a None) (sym (index_second given p at e)) (no_place h p word words)
  alone_by word words idles given h p ready at false e false d = subst (λ a. Places h p word words a None) (sym (index_first given p at e false d)) (no_place h p word words)
  alone_by word words idles given h p ready at false e true d = subst (λ a. Places h p word words a (given_from t (given ++ (number_name, word) ∷ []) None words)) (sym (index_first given p at e true d))
      (number_word word words idles given h p ready (at ∙ ap (λ b. if b then 2 else 1) e) d e)

  alone_word : (word : Text) (words : List Text) → Idles words → (given : Given) (h : Held) (p : ℕ) → Ready h given → p ≡ place given
      → Places h p word words (arg_by_index c p) (given_if words given number_name word t.number (is_given number_name given))
  alone_word word words idles given h p ready at = alone_by word words idles given h p ready at (is_given number_name given) refl t.number refl

  -- a word between two uses
  abbrev Idling : Held → ℕ → Text → List Text → Given → Bool → Option (Text × Option Text) → Word → Type 0
  Idling h p word words given d l kind = Turns s idle p word words h d l (option_and_then (given_after t words) (with_word t given word kind))

  -- a word that is no option has no leading hyphen
  unsplit : (word : Text) → long_of word ≡ None → is_refused word ≡ false → strip_byte 45 word ≡ None
  unsplit word e allowed = go (strip_byte 45 word) refl
    where
      go : (q : Option Text) → strip_byte 45 word ≡ q → q ≡ None
      go None f = refl
      go (Some x) f = absurd (true≢false (sym (ap₂ (λ l q. is_refused_kind (kind_from l (is_some q))) e f) ∙ allowed))

  idle_by : (word : Text) (words : List Text) → Idles words → Waits words → (given : Given) (h : Held) (p : ℕ) → Ready h given → p ≡ place given
      → (l : Option (Text × Option Text)) → (l ≡ None → strip_byte 45 word ≡ None) → Idling h p word words given false l (kind_from l (is_some (strip_byte 45 word)))
  idle_by word words idles waits given h p ready at (Some (name, None)) alone = bare_word word words waits given h p ready at name
  idle_by word words idles waits given h p ready at (Some (name, Some v)) alone = valued_word word words idles given h p ready at name v
  idle_by word words idles waits given h p ready at None alone =
      subst (λ q. Idling h p word words given false None (kind_from None (is_some q))) (sym (alone refl))
      (subst (λ f. GoesOn s (or_else (option_map_or (λ flags. bundle_fault c false flags h) f []) (step_fault s p (short_or_plain c idle word f h).0 (short_or_plain c idle word f h).1))
      (after_step c word (between h p) (short_or_plain c idle word f h).0 (short_or_plain c idle word f h).1) words (given_if words given number_name word t.number (is_given number_name given)))
      (sym (ap (option_and_then short_of_rest) (alone refl)))
      (alone_word word words idles given h p ready at))

  idle_word : (word : Text) (words : List Text) → is_refused word ≡ false → Idles words → Waits words → Idles (word ∷ words)
  idle_word word words allowed idles waits given h p ready at = turn_between h p word words (given_from t given None (word ∷ words))
      (subst (λ d. Idling h p word words given d (long_of word) (kind_of word)) (sym (not_dashes word allowed))
      (idle_by word words idles waits given h p ready at (long_of word) (λ none. unsplit word none allowed)))

  -- ---- after a use that is not allowed, nothing is

  rule_at : (given : Given) (p : ℕ) → p ≡ place given → (g : Bool) → is_given number_name given ≡ g → (n : Bool) → t.number ≡ n
      → (arg_by_index c p ≡ None) ⊎ (arg_by_index c p ≡ Some number_built)
  rule_at given p at true e n d = inl (index_second given p at e)
  rule_at given p at false e false d = inl (index_first given p at e false d)
  rule_at given p at false e true d = inr (index_first given p at e true d)

  stuck_place : (h : Held) (p : ℕ) (word : Text) (words : List Text) → (settle_fault c false h ≡ [] → ⊥) → (arg_by_index c p ≡ None) ⊎ (arg_by_index c p ≡ Some number_built)
      → Places h p word words (arg_by_index c p) None
  stuck_place h p word words some (inl none) = subst (λ a. Places h p word words a None) (sym none) (no_place h p word words)
  stuck_place h p word words some (inr found) = subst (λ a. Places h p word words a None) (sym found) (number_stops h p word words some)

  stuck_by : (given : Given) (h : Held) (p : ℕ) → p ≡ place given → (settle_fault c false h ≡ [] → ⊥) → (word : Text) (words : List Text)
      → (l : Option (Text × Option Text)) → (l ≡ None → strip_byte 45 word ≡ None) → Turns s idle p word words h false l None
  stuck_by given h p at some word words (Some (name, v)) alone = stops s (long_turn h p word (arg_by_long c name) v) (long_walk h p word (arg_by_long c name) v) words
      (first_stops (long_fault c false (arg_by_long c name) v h) _ (long_stops v h name some))
  stuck_by given h p at some word words None alone =
      subst (λ f. GoesOn s (or_else (option_map_or (λ flags. bundle_fault c false flags h) f []) (step_fault s p (short_or_plain c idle word f h).0 (short_or_plain c idle word f h).1))
      (after_step c word (between h p) (short_or_plain c idle word f h).0 (short_or_plain c idle word f h).1) words None)
      (sym (ap (option_and_then short_of_rest) (alone refl)))
      (stuck_place h p word words some (rule_at given p at (is_given number_name given) refl t.number refl))

  stuck : (given : Given) (h : Held) (p : ℕ) → p ≡ place given → (settle_fault c false h ≡ [] → ⊥) → (words : List Text) → list_any is_refused words ≡ false
      → GoesOn s [] (between h p) words None
  unfolding walk_fault
  stuck given h p at some [] allowed = some
  stuck given h p at some (word ∷ words) allowed = turn_between h p word words None
      (subst (λ d. Turns s idle p word words h d (long_of word) None) (sym (not_dashes word (or_false (is_refused word) (list_any is_refused words) allowed).0))
      (stuck_by given h p at some word words (long_of word) (λ none. unsplit word none (or_false (is_refused word) (list_any is_refused words) allowed).0)))

  -- ---- a word after an option that waits

  abbrev Waiting_at : List Row → Text → ℕ → ℕ → Text → List Text → Given → Bool → Option (Text × Option Text) → Word → Type 0
  Waiting_at rows name k p word words given d l kind = Turns s (option name) p word words (at_option rows name k p).held d l (option_and_then (given_after t words) (with_awaited given name word kind))

  abbrev answered : List Row → Text → ℕ → Text → Held
  answered rows name k word = record { rows = rows; pending = Some (name, word ∷ []); skip = k }

  abbrev answered_walk : List Row → Text → ℕ → ℕ → Text → Option Rule → Walk
  answered_walk rows name k p word found = record {
    held = (option_word found name word (at_option rows name k p).held).0;
    waiting = (option_word found name word (at_option rows name k p).held).1;
    position = p;
    is_trailing = false;
    stopped = None;
  }

  -- the option has its one value, and no longer waits
  answered_is : (rows : List Row) (name : Text) (k p : ℕ) (word : Text) → is_option t name ≡ true
      → answered_walk rows name k p word (arg_by_id c name) ≡ between (answered rows name k word) p
  answered_is rows name k p word o = ap (answered_walk rows name k p word) (r.by_id name o)
      ∙ ap (λ b. record { held = answered rows name k word; waiting = if nat_lt (if b then 1 else 0) 1 then option name else idle; position = p; is_trailing = false; stopped = None }) (same_name name)

  answer_settles : (rows : List Row) (name : Text) (k : ℕ) (word : Text) → is_option t name ≡ true
      → settle_fault c false (answered rows name k word) ≡ use_fault false (option_built name) (word ∷ []) rows
  answer_settles rows name k word o = ap (λ a. option_map_or (λ a. use_fault false a (word ∷ []) rows) a []) (r.by_id name o)

  answer_rows : (rows : List Row) (name : Text) (k : ℕ) (word : Text) → is_option t name ≡ true
      → settled_rows c (Some (name, word ∷ [])) rows ≡ used (option_built name) (word ∷ []) rows
  answer_rows rows name k word o = ap (λ a. used_by_id a (word ∷ []) rows) (r.by_id name o)

  answer_by : (word : Text) (words : List Text) → list_any is_refused words ≡ false → Idles words → (given : Given) (rows : List Row) (k p : ℕ) (name : Text) → is_option t name ≡ true
      → rows ≡ map row given → p ≡ place given → (g : Bool) → is_given name given ≡ g
      → GoesOn s [] (between (answered rows name k word) p) words (option_and_then (given_after t words) (now_given (if g then None else Some (given ++ (name, word) ∷ []))))
  answer_by word words allowed idles given rows k p name o same at true e =
      let present : has_row name rows ≡ true = ap (has_row name) same ∙ has_row_given name given ∙ e in
      stuck given (answered rows name k word) p at (λ none. used_twice name (Some name) None word rows present (sym (answer_settles rows name k word o) ∙ none)) words allowed
  answer_by word words allowed idles given rows k p name o same at false e =
      let more = given ++ (name, word) ∷ [] in
      let once = used_once name (Some name) None word rows (row_absent name given rows same e) in
      let kept = used_row name (Some name) None word given rows same e in
      idles more (answered rows name k word) p (answer_settles rows name k word o ∙ once, answer_rows rows name k word o ∙ kept)
      (at ∙ ap (λ b. if b then 2 else 1) (sym (is_given_apart number_name name word given (r.apart name o))))

  wait_stops : (rows : List Row) (name : Text) (k p : ℕ) (word : Text) (words : List Text) (long : Text × Option Text) → is_option t name ≡ true
      → Turns s (option name) p word words (at_option rows name k p).held false (Some long) None
  wait_stops rows name k p word words long o =
      let h = (at_option rows name k p).held in
      stops s (turn_kinds s (option name) p word h false (Some long)) (after_step c word (at_option rows name k p) (met c (option name) p word h false (Some long)).0 (met c (option name) p word h false (Some long)).1) words
      (first_stops (long_fault c false (arg_by_long c long.0) long.1 h) _ (long_stops long.1 h long.0 (no_value rows k name o)))

  wait_by : (word : Text) (words : List Text) → list_any is_refused words ≡ false → Idles words → (given : Given) (rows : List Row) (k p : ℕ) (name : Text) → is_option t name ≡ true
      → rows ≡ map row given → p ≡ place given → (l : Option (Text × Option Text)) → (l ≡ None → strip_byte 45 word ≡ None)
      → Waiting_at rows name k p word words given false l (kind_from l (is_some (strip_byte 45 word)))
  wait_by word words allowed idles given rows k p name o same at (Some (other, None)) alone = wait_stops rows name k p word words (other, None) o
  wait_by word words allowed idles given rows k p name o same at (Some (other, Some v)) alone = wait_stops rows name k p word words (other, Some v) o
  wait_by word words allowed idles given rows k p name o same at None alone =
      let h = (at_option rows name k p).held in
      let now = option_and_then (given_after t words) (with_awaited given name word Alone) in
      subst (λ q. Waiting_at rows name k p word words given false None (kind_from None (is_some q))) (sym (alone refl))
      (subst (λ f. GoesOn s (or_else (option_map_or (λ flags. bundle_fault c false flags h) f []) (step_fault s p (short_or_plain c (option name) word f h).0 (short_or_plain c (option name) word f h).1))
      (after_step c word (at_option rows name k p) (short_or_plain c (option name) word f h).0 (short_or_plain c (option name) word f h).1) words now)
      (sym (ap (option_and_then short_of_rest) (alone refl)))
      (subst (λ w. GoesOn s [] w words now) (sym (answered_is rows name k p word o)) (answer_by word words allowed idles given rows k p name o same at (is_given name given) refl)))

  wait_word : (word : Text) (words : List Text) → is_refused word ≡ false → list_any is_refused words ≡ false → Idles words → Waits (word ∷ words)
  wait_word word words here allowed idles given rows k p name o same at = turn_waiting rows name k p word words (given_from t given (Some name) (word ∷ words))
      (subst (λ d. Waiting_at rows name k p word words given d (long_of word) (kind_of word)) (sym (not_dashes word here))
      (wait_by word words allowed idles given rows k p name o same at (long_of word) (λ none. unsplit word none here)))

  -- ---- all the words

  no_words : Idles [] × Waits []
  unfolding walk_fault
  no_words = (λ given h p ready at. ready, λ given rows k p name o same at. no_value rows k name o)

  pub reads : (words : List Text) → list_any is_refused words ≡ false → Idles words × Waits words
  reads [] allowed = no_words
  reads (word ∷ words) allowed =
      let both = or_false (is_refused word) (list_any is_refused words) allowed in
      let rest = reads words both.1 in
      (idle_word word words both.0 rest.0 rest.1, wait_word word words both.0 both.1 rest.0)
