-- The journal of records: its lines in their order, and its abort lines.
use Rattle.std.specs.Prelude.{◌≡◌, ℕ, zero, suc, ◌+◌, ◌*◌, List, [], ◌∷◌, ◌++◌, Bool, true, false, ◌==◌, nat_lt, ◌&&◌, ◌||◌, if◌then◌else◌, filter, slice_index_or, length}
use Rattle.std.specs.List.{All}
use Rattle.std.specs.List.Sorted.{IsPermutation}
use Rattle.sto_model.specs.PlainReplies.{PlainReply}
use Rattle.sto_lang.specs.Objects.{Declaration}
use Rattle.sto_report_spec.specs.Orders.{TransactionPlace}
use Rattle.sto_report_spec.specs.Replay.{Entry}
use Rattle.sto_report_spec.specs.declared.ending.Ending.{Ending}
use Rattle.sto_report_spec.specs.declared.ending.Ending.TheVariants as endings
use Rattle.sto_report_spec.specs.Aborts.{LocalPart, Abort, part_by_home}
use Rattle.sto_report_spec.specs.Aborts as aborts
use Rattle.sto_history.specs.Records.{Verdict, Wrote, Read, Cancelled, Locked, Changed, Record, is_finished, stands_at, writers_up_to}

-- where a record stands: a writer at its ticket, and what only read or cancelled after the writer with the number that it read as of
abbrev pub key_of : Verdict → ℕ
key_of (Wrote ticket) = 2 * ticket
key_of (Read at) = 2 * at + 1
key_of (Cancelled at) = 2 * at + 1
key_of (Locked at part) = 2 * at + 1
key_of (Changed at part ticket) = 2 * at + 1

-- one record comes before another: by the number, writers first, then by thread, then by position
abbrev pub is_before : Record → Record → Bool
is_before r s =
    nat_lt (key_of r.verdict) (key_of s.verdict)
    || ((key_of r.verdict == key_of s.verdict)
    && (nat_lt r.place.0 s.place.0 || ((r.place.0 == s.place.0) && nat_lt r.place.1 s.place.1)))

-- no record stands after one that it comes before
abbrev pub AreInOrder : List Record → Type 0
AreInOrder [] = Unit {0}
AreInOrder (r ∷ rs) = All (λ s. is_before s r ≡ false) rs × AreInOrder rs

-- the records that are not aborted, in their order
pub record AreMerged (rs ordered : List Record) : Type 0 where
  pub same : IsPermutation (filter is_finished rs) ordered
  pub rising : AreInOrder ordered

-- how a record that is not aborted is told
abbrev pub ending_of : Verdict → Ending
ending_of (Wrote ticket) = endings.Commit
ending_of (Read at) = endings.Read
ending_of (Cancelled at) = endings.Cancel
ending_of (Locked at part) = endings.Cancel
ending_of (Changed at part ticket) = endings.Cancel

-- the journal line of a record: K is the number of writers up to the number that it stands at
abbrev pub line_of : List Record → Record → Entry
line_of rs r = record { writers = writers_up_to (stands_at r.verdict) rs; place = r.place; ending = ending_of r.verdict; replies = r.replies }

-- a part of the words
abbrev pub part_named : List Declaration → List (ℕ × ℕ) → ℕ → LocalPart
part_named declarations homes p = part_by_home declarations (slice_index_or homes p (0, 0))

-- the abort line of a record, where it is aborted: numbers of the history are counted into writers
abbrev pub lines_of_abort : List Declaration → List (ℕ × ℕ) → List Record → TransactionPlace → List PlainReply → Verdict → List Abort
lines_of_abort declarations homes rs place replies (Wrote ticket) = []
lines_of_abort declarations homes rs place replies (Read at) = []
lines_of_abort declarations homes rs place replies (Cancelled at) = []
lines_of_abort declarations homes rs place replies (Locked at part) =
    record { place = place; seen = writers_up_to at rs; replies = replies; cause = aborts.Locked (part_named declarations homes part) } ∷ []
lines_of_abort declarations homes rs place replies (Changed at part ticket) =
    record {
      place = place;
      seen = writers_up_to at rs;
      replies = replies;
      cause = aborts.Changed (part_named declarations homes part) (writers_up_to ticket rs);
    } ∷ []

-- those of the records of one thread, in their order; all are the records of the run
abbrev pub aborts_of_thread : List Declaration → List (ℕ × ℕ) → List Record → ℕ → List Record → List Abort
aborts_of_thread declarations homes all thread [] = []
aborts_of_thread declarations homes all thread (r ∷ rs) =
    if r.place.0 == thread
    then lines_of_abort declarations homes all r.place r.replies r.verdict ++ aborts_of_thread declarations homes all thread rs
    else aborts_of_thread declarations homes all thread rs

-- those of so many threads from the first on
abbrev pub aborts_from : List Declaration → List (ℕ × ℕ) → List Record → ℕ → ℕ → List Abort
aborts_from declarations homes rs first zero = []
aborts_from declarations homes rs first (suc count) =
    aborts_of_thread declarations homes rs first rs ++ aborts_from declarations homes rs (suc first) count
