-- What the words after a command give: values by the names of what they are for.
use Rattle.std.specs.Prelude.{ℕ, List, [], ◌∷◌, ◌++◌, Bool, true, false, is_some, Option, None, Some, codes, eqb, find, if◌then◌else◌}
use Rattle.std.specs.List.{list_any, starts_with}
use Rattle.std.specs.Option.{option_map, option_and_then}
use Rattle.std.specs.Str.{bytes_eq}
use Rattle.clap.specs.Lexer.{long_of, strip_byte}

abbrev pub Text : Type 0
Text = List ℕ

-- what a command takes after its word: options by their names, and whether a word alone, its NUMBER
pub record Takes : Type 0 where
  pub options : List Text
  pub number : Bool

-- the name of the value that a word alone gives
abbrev pub number_name : Text
number_name = codes "NUMBER"

abbrev pub is_option : Takes → Text → Bool
is_option t name = list_any (λ other. bytes_eq other name) t.options

-- names with their values, in the order in which they were given
abbrev pub Given : Type 0
Given = List (Text × Text)

abbrev pub is_given : Text → Given → Bool
is_given name given = list_any (λ g. bytes_eq g.0 name) given

abbrev pub value_of : Text → Given → Option Text
value_of name given = option_map (λ g. g.1) (find (λ g. bytes_eq g.0 name) given)

-- each name is given at most once
abbrev pub with_value : Given → Text → Text → Option Given
with_value given name value = if is_given name given then None else Some (given ++ (name, value) ∷ [])

-- a word is an option without or with its value, or stands alone; one with one leading hyphen is none of these, and
-- neither is `--`
pub data Word : Type 0 where
  Bare : (name : Text) → Word
  Valued : (name value : Text) → Word
  Alone : Word
  Refused : Word

-- `--NAME` or `--NAME=VALUE`
abbrev pub option_word : Text × Option Text → Word
option_word (name, None) = Bare name
option_word (name, Some value) = Valued name value

abbrev pub other_word : Bool → Word
other_word has_hyphen = if has_hyphen then Refused else Alone

abbrev pub kind_from : Option (Text × Option Text) → Bool → Word
kind_from (Some long) has_hyphen = option_word long
kind_from None has_hyphen = other_word has_hyphen

abbrev pub kind_of : Text → Word
kind_of word = kind_from (long_of word) (is_some (strip_byte 45 word))

-- what was given so far, and the option whose value is the next word
pub record Reading : Type 0 where
  pub given : Given
  pub waiting : Option Text

abbrev pub now_given : Option Given → Option Reading
now_given given = option_map (λ g. record { given = g; waiting = None }) given

-- one more word, where no option waits for its value
abbrev pub with_word : Takes → Given → Text → Word → Option Reading
with_word t given word (Bare name) = if is_option t name then Some (record { given = given; waiting = Some name }) else None
with_word t given word (Valued name value) = if is_option t name then now_given (with_value given name value) else None
with_word t given word Alone = if t.number then now_given (with_value given number_name word) else None
with_word t given word Refused = None

-- one more word, which is the value of this option
abbrev pub with_awaited : Given → Text → Text → Word → Option Reading
with_awaited given name word Alone = now_given (with_value given name word)
with_awaited given name word kind = None

abbrev pub after_word : Takes → Given → Text → Option Text → Option Reading
after_word t given word None = with_word t given word (kind_of word)
after_word t given word (Some name) = with_awaited given name word (kind_of word)

-- where the words end, no option waits
abbrev pub ended : Given → Option Text → Option Given
ended given None = Some given
ended given (Some name) = None

-- the words read one after another
abbrev pub given_after : Takes → List Text → Reading → Option Given
given_after t [] r = ended r.given r.waiting
given_after t (word ∷ words) r = option_and_then (given_after t words) (after_word t r.given word r.waiting)

abbrev pub given_by : Takes → List Text → Option Given
given_by t words = given_after t words (record { given = []; waiting = None })

-- the word is `--`, or has one leading hyphen
abbrev pub is_refused_kind : Word → Bool
is_refused_kind Refused = true
is_refused_kind kind = false

abbrev pub is_refused : Text → Bool
is_refused word = is_refused_kind (kind_of word)

-- `--json` is a word of its own: it stands for the option without a value, that is with the empty one
abbrev pub as_option : Text → Text
as_option word = if bytes_eq word (codes "--json") then codes "--json=" else word

-- no word gives it a value
abbrev pub gives_flag : Text → Bool
gives_flag word = starts_with eqb word (codes "--json=")
