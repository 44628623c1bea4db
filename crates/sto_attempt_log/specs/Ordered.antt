-- The order in which a commit finds tickets and reads words, and what stands in it.
use Rattle.std.specs.Prelude.{◌≡◌, ◌<◌, ◌≤◌, ◌&&◌, ◌||◌, ◌++◌, ℕ, ℤ, Bool, true, nat_eq, nat_lt, List, length, take, drop, slice_index_or}
use Rattle.std.specs.List.Sorted.{IsNonDecreasingBy}
use Rattle.sto_attempt_log.specs.declared.commit_phase.FoundTicket.{FoundTicket}
use Rattle.sto_attempt_log.specs.declared.commit_phase.LoadedWord.{LoadedWord}
use Rattle.sto_core.specs.Reads.{value_read}
use Rattle.sto_attempt_log.specs.CommitPhases.{reads_of}

-- from a place on the parts rise
abbrev pub RisesAfter : ℕ → List FoundTicket → Type 0
RisesAfter start found_tickets = (start ≤ length found_tickets) × IsNonDecreasingBy (λ (x : FoundTicket). x.part) (drop start found_tickets)

-- the word comes before this place: in a lower part, or at a lower place of the part
abbrev pub is_before : ℕ → ℕ → LoadedWord → Bool
is_before part word x = nat_lt x.part part || (nat_eq x.part part && nat_lt x.word word)

-- each word comes before those behind it
abbrev pub AreInOrder : List LoadedWord → Type 0
AreInOrder loaded_words = (i j : ℕ) (d : LoadedWord) → i < j → j < length loaded_words → is_before (slice_index_or loaded_words j d).part (slice_index_or loaded_words j d).word (slice_index_or loaded_words i d) ≡ true

-- so many of the first do
abbrev pub RisesUpTo : ℕ → List LoadedWord → Type 0
RisesUpTo rising loaded_words = (rising ≤ length loaded_words) × AreInOrder (take rising loaded_words)

-- the word at this place has the value, whatever is read behind these
abbrev pub HasValue : ℕ → ℕ → List LoadedWord → ℤ → Type 0
HasValue part word loaded_words value = (rest : List LoadedWord) → value_read (reads_of (loaded_words ++ rest) part) word ≡ value

-- the word at this place is none of these
abbrev pub HasNoValue : ℕ → ℕ → List LoadedWord → Type 0
HasNoValue part word loaded_words = (rest : List LoadedWord) → value_read (reads_of (loaded_words ++ rest) part) word ≡ value_read (reads_of rest part) word
