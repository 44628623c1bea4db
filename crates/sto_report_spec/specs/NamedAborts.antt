-- The aborted attempts that the abort lines of a text name.
use Rattle.std.specs.Prelude.{ℕ, ℤ, List, [], ◌∷◌, ◌==◌, Bool, true, false, if◌then◌else◌, map, Option, None, Some, codes}
use Rattle.std.specs.List.{slice_split, flat_map}
use Rattle.std.specs.Option.{option_map}
use Rattle.std.specs.Str.{bytes_eq}
use Rattle.std.specs.Str.Parse.{digits_value, signed_digits_value}
use Rattle.sto_model.specs.PlainReplies.{PlainReply, Done, Value, Flag, Absent, Full, Range, Pairs}
use Rattle.sto_model.specs.Rows.{Row}
use Rattle.sto_report_spec.specs.Orders.{TransactionPlace}
use Rattle.sto_report_spec.specs.Aborts.{LocalPart, Cause, Locked, Changed, Abort}
use Rattle.sto_report_spec.specs.Named.{is_line_feed, is_space, is_dot, place_of_pieces}

-- what stands between pairs
abbrev pub is_comma : ℕ → Bool
is_comma b = b == 44

-- what stands between a key and its value
abbrev pub is_colon : ℕ → Bool
is_colon b = b == 58

-- all but the last
abbrev pub without_last : List ℕ → List ℕ
without_last [] = []
without_last (b ∷ []) = []
without_last (b ∷ c ∷ bytes) = b ∷ without_last (c ∷ bytes)

-- the pair that `KEY:VALUE` is
abbrev pub row_of_pieces : List (List ℕ) → List Row
row_of_pieces (key ∷ value ∷ []) = (signed_digits_value 10 key, signed_digits_value 10 value) ∷ []
row_of_pieces pieces = []

-- the pairs that stand between brackets
abbrev pub rows_between_brackets : List ℕ → List Row
rows_between_brackets bytes = flat_map (λ pair. row_of_pieces (slice_split is_colon pair)) (slice_split is_comma bytes)

-- a number, or pairs in brackets
abbrev pub number_or_pairs : List ℕ → PlainReply
number_or_pairs [] = Absent
number_or_pairs (b ∷ bytes) = if b == 91 then Pairs (rows_between_brackets (without_last bytes)) else Value (signed_digits_value 10 (b ∷ bytes))

-- the reply that a word is
abbrev pub reply_in : List ℕ → PlainReply
reply_in word =
    if bytes_eq word (codes "ok") then Done
    else (if bytes_eq word (codes "yes") then Flag true
    else (if bytes_eq word (codes "no") then Flag false
    else (if bytes_eq word (codes "none") then Absent
    else (if bytes_eq word (codes "full") then Full
    else (if bytes_eq word (codes "range") then Range
    else number_or_pairs word)))))

-- what the words after `saw` tell
pub record Heard : Type 0 where
  pub replies : List PlainReply
  pub cause : Cause

-- a part by the words of its object's name and its number
abbrev pub part_by : List ℕ → List ℕ → LocalPart
part_by name part = record { object = name; part = digits_value 10 part }

-- what stands after `locked`
abbrev pub locked_in : List (List ℕ) → Option Heard
locked_in (name ∷ part ∷ []) = Some (record { replies = []; cause = Locked (part_by name part) })
locked_in words = None

-- what stands after `changed`
abbrev pub changed_in : List (List ℕ) → Option Heard
changed_in (name ∷ part ∷ by ∷ number ∷ []) = Some (record { replies = []; cause = Changed (part_by name part) (digits_value 10 number) })
changed_in words = None

-- replies up to the word of a cause, and the cause
abbrev pub heard_in : List (List ℕ) → Option Heard
heard_in [] = None
heard_in (word ∷ words) =
    if bytes_eq word (codes "locked") then locked_in words
    else (if bytes_eq word (codes "changed") then changed_in words
    else option_map (λ h. record { replies = reply_in word ∷ h.replies; cause = h.cause }) (heard_in words))

-- the abort by its place, where a word is one, and what the words after `saw` tell
abbrev pub abort_by : List TransactionPlace → ℕ → Option Heard → List Abort
abort_by (place ∷ []) seen (Some h) = record { place = place; seen = seen; replies = h.replies; cause = h.cause } ∷ []
abort_by places seen heard = []

-- the abort that a line names by its words: `abort NAME.J at K saw`, and what follows
abbrev pub aborts_in : List (List ℕ) → List (List ℕ) → List Abort
aborts_in names (first ∷ place ∷ at ∷ seen ∷ saw ∷ words) =
    if bytes_eq first (codes "abort") then abort_by (place_of_pieces names (slice_split is_dot place)) (digits_value 10 seen) (heard_in words) else []
aborts_in names words = []

-- those that the abort lines among some lines name
abbrev pub aborts_among : List (List ℕ) → List (List ℕ) → List Abort
aborts_among names lines = flat_map (λ line. aborts_in names (slice_split is_space line)) lines

-- the aborted attempts that a text names
abbrev pub aborts_named : List (List ℕ) → List ℕ → List Abort
aborts_named names text = aborts_among names (slice_split is_line_feed text)
