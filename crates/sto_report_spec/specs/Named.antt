-- The order that the journal lines of a text name, by the names of the threads of a file.
use Rattle.std.specs.Prelude.{◌≡◌, ℕ, ◌^◌, ◌<◌, List, [], ◌∷◌, length, ◌==◌, ◌&&◌, nat_le, Bool, true, if◌then◌else◌, Option, None, Some, position}
use Rattle.std.specs.Str.{bytes_eq}
use Rattle.std.specs.List.{All, slice_split, flat_map}
use Rattle.std.specs.Str.Parse.{digits_value}
use Rattle.sto_syntax.specs.Words.{is_name}
use Rattle.sto_lang.specs.Sound.{AllDiffer}
use Rattle.sto_report_spec.specs.Orders.{TransactionPlace}

-- what ends a line
abbrev pub is_line_feed : ℕ → Bool
is_line_feed b = b == 10

-- what stands between words
abbrev pub is_space : ℕ → Bool
is_space b = b == 32

-- what stands between a thread and a position
abbrev pub is_dot : ℕ → Bool
is_dot b = b == 46

-- a decimal digit
abbrev pub is_digit : ℕ → Bool
is_digit b = nat_le 48 b && nat_le b 57

-- the place of a position in the thread with a name, where there is one
abbrev pub place_in : Option ℕ → List ℕ → List TransactionPlace
place_in None position = []
place_in (Some thread) position = (thread, digits_value 10 position) ∷ []

-- the place that `NAME.J` is
abbrev pub place_of_pieces : List (List ℕ) → List (List ℕ) → List TransactionPlace
place_of_pieces names (thread ∷ number ∷ []) = place_in (position (bytes_eq thread) names) number
place_of_pieces names pieces = []

-- the place that a line names by its words: a journal line begins with a digit, and its second word is `NAME.J`
abbrev pub named_in : List (List ℕ) → List (List ℕ) → List TransactionPlace
named_in names ((first ∷ k) ∷ place ∷ words) = if is_digit first then place_of_pieces names (slice_split is_dot place) else []
named_in names words = []

-- the places that the journal lines among some lines name
abbrev pub places_in : List (List ℕ) → List (List ℕ) → List TransactionPlace
places_in names lines = flat_map (λ line. named_in names (slice_split is_space line)) lines

-- the order that a text names
abbrev pub order_named : List (List ℕ) → List ℕ → List TransactionPlace
order_named names text = places_in names (slice_split is_line_feed text)

-- the names of threads: each is a name, and no two are one
pub record AreNames (names : List (List ℕ)) : Type 0 where
  pub each : All (λ name. is_name name ≡ true) names
  pub differ : AllDiffer names

-- the place is one of a thread that has a name, at a position that a machine word holds
pub record IsNamable (names : List (List ℕ)) (place : TransactionPlace) : Type 0 where
  pub thread : place.0 < length names
  pub position : place.1 < 2 ^ 64
