-- What is known of the pass of a script thread, as far as the thread has come.
use Rattle.std.specs.Prelude.{◌≡◌, ◌≤◌, ◌<◌, ◌^◌, ◌⊎◌, ℕ, suc, ◌+◌, ◌-◌, List, [], ◌∷◌, ◌++◌, length, slice_get, sum_by, Option, None, Some, true, false}
use Rattle.sto_core.specs.declared.view.View.{View}
use Rattle.sto_core.specs.Core.{Core}
use Rattle.sto_plain.specs.Passes.{view_of}
use Rattle.sto_run_threads.specs.Orders.{TransactionPlace, count_in}
use Rattle.sto_history.specs.Records.{Record, is_abort, times_written}
use Rattle.sto_history.specs.Counted.{times_committed, aborted_times}
use Rattle.sto_run_threads.specs.Plans.{Plan, Rests, draws_of}
use Rattle.sto_run_threads.specs.Told.{told_in}
use Rattle.sto_run_threads.specs.Running.{ended_of, HasNone}
use Rattle.sto_run_threads.specs.Worked.{HasWorked, HasSpared}
use Rattle.sto_run_steps.specs.Counts.{attempts_left, events_left}
use Rattle.sto_run_steps.specs.declared.seat.Seat.{Seat}

-- between two attempts: the pass is at rest and has made these records, all of the thread, one with each start. So many of its transactions have ended, and
-- of the next one so many more attempts may be aborted. There are draws for all attempts that are left, and to run the whole file
pub record IsBetween (plan : Plan) (passes thread ended left : ℕ) (rs : List Record) (v : View) : Type 0 where
  pub rests : Rests plan v
  pub worked : HasWorked plan v rs
  pub tickets : (t : ℕ) → times_written t rs ≡ times_committed t v.entries
  pub own : (u : ℕ) → (thread ≡ u → ⊥) → HasNone u rs
  pub starts : v.starts ≡ length rs
  pub so_many : ended_of thread rs ≡ ended
  pub tried : aborted_times (thread, suc ended) rs + left ≡ plan.tries
  -- those that have ended had a try left
  pub spared : HasSpared plan.tries thread rs
  pub draws : draws_of plan + attempts_left plan.tries left (count_in plan.file.threads thread - ended) ≤ v.draws
  -- beside no other pass none was aborted
  pub alone : passes ≡ 1 → (place : TransactionPlace) → aborted_times place rs ≡ 0

-- within an attempt: that of the view before it, which had a transaction and a try left, and where the attempt has led
pub record IsWithin {M : Type 0} (plan : Plan) (passes thread ended left : ℕ) (rs : List Record) (fits : M → View → View → Type 0) (trial : M) (v : View) : Type 0 where
  pub begun : View
  pub between : IsBetween plan passes thread ended left rs begun
  pub next : ended < count_in plan.file.threads thread
  pub again : 1 ≤ left
  pub fits_now : fits trial begun v

abbrev pub IsAt : {M : Type 0} → (View → Type 0) → (M → View → Type 0) → Option M → View → Type 0
IsAt between within None v = between v
IsAt between within (Some trial) v = within trial v

-- an attempt runs, and stands so
abbrev pub IsIn : {M : Type 0} → (M → View → Type 0) → Option M → View → Type 0
IsIn within None v = ⊥
IsIn within (Some trial) v = within trial v

-- the records of a thread
abbrev pub records_of : {M : Type 0} → Seat M → List Record
records_of s = told_in s.records

-- the thread at this seat is between two attempts, and within one
abbrev pub BetweenAt : {M : Type 0} → Plan → (passes thread : ℕ) → Seat M → View → Type 0
BetweenAt plan passes thread s = IsBetween plan passes thread s.ended s.left (records_of s)

abbrev pub WithinAt : {M : Type 0} → Plan → (ℕ → TransactionPlace → M → View → View → Type 0) → (passes thread : ℕ) → Seat M → M → View → Type 0
WithinAt plan fits passes thread s = IsWithin plan passes thread s.ended s.left (records_of s) (fits passes (thread, s.ended + 1))

-- the thread at this seat, by the view of its pass
pub record IsSeated {M : Type 0} (plan : Plan) (fits : ℕ → TransactionPlace → M → View → View → Type 0) (passes thread : ℕ) (v : View) (s : Seat M) : Type 0 where
  pub counted : s.count ≡ count_in plan.file.threads thread
  pub each : s.tries ≡ plan.tries
  pub within : s.ended ≤ s.count
  pub at : IsAt (BetweenAt plan passes thread s) (WithinAt plan fits passes thread s) s.trial v

-- a thread with so many transactions, of which none has begun
pub record IsNew {M : Type 0} (count tries : ℕ) (s : Seat M) : Type 0 where
  pub idle : s.trial ≡ None
  pub none_ended : s.ended ≡ 0
  pub counted : s.count ≡ count
  pub all_left : s.left ≡ tries
  pub each : s.tries ≡ tries
  pub no_records : s.records.items ≡ []

-- that of each seat, for the threads of the file
abbrev pub AreNew : {M : Type 0} → Plan → List (Seat M) → Type 0
AreNew {M} plan seats = (thread : ℕ) (s : Seat M) → slice_get seats thread ≡ Some s → IsNew (count_in plan.file.threads thread) plan.tries s

-- a record of the next transaction was added: the transaction has ended, or a try is used up
pub record HasKept {M : Type 0} (r : Record) (s later : Seat M) : Type 0 where
  pub trial : later.trial ≡ s.trial
  pub counted : later.count ≡ s.count
  pub each : later.tries ≡ s.tries
  pub added : records_of later ≡ records_of s ++ r ∷ []
  pub ended : is_abort r.verdict ≡ false → (later.ended ≡ s.ended + 1) × (later.left ≡ s.tries)
  pub aborted : is_abort r.verdict ≡ true → (later.ended ≡ s.ended) × (later.left + 1 ≡ s.left)

-- the thread has ended, or its next transaction used up its tries
abbrev pub IsOver : {M : Type 0} → Seat M → Type 0
IsOver s = (s.ended ≡ s.count) ⊎ (s.left ≡ 0)

-- the threads at these seats, each with a pass over the same words
pub record AreSeated {M : Type 0} (plan : Plan) (fits : ℕ → TransactionPlace → M → View → View → Type 0) (c : Core) (seats : List (Seat M)) : Type 0 where
  pub views : length c.views ≡ length seats
  pub statuses : length c.statuses ≡ length seats
  pub few : length seats < 2 ^ 32
  pub each : (thread : ℕ) (s : Seat M) → slice_get seats thread ≡ Some s → IsSeated plan fits (length c.statuses) thread (view_of c thread) s

-- the thread at this place is over
abbrev pub IsOverAt : {M : Type 0} → ℕ → List (Seat M) → Type 0
IsOverAt {M} thread seats = (s : Seat M) → slice_get seats thread ≡ Some s → IsOver s

-- the first so many are
abbrev pub AreOver : {M : Type 0} → ℕ → List (Seat M) → Type 0
AreOver {M} count seats = (thread : ℕ) → thread < count → IsOverAt thread seats

-- how many events a thread has left, with this attempt running or none, and as it is
abbrev pub events_with : {M : Type 0} → (M → ℕ) → ℕ → Seat M → Option M → ℕ
events_with left most s trial = events_left left most (attempts_left s.tries s.left (s.count - s.ended)) trial

abbrev pub events_of : {M : Type 0} → (M → ℕ) → ℕ → Seat M → ℕ
events_of left most s = events_with left most s s.trial

-- how many all have left, and that they have fewer later
abbrev pub events_of_all : {M : Type 0} → (M → ℕ) → ℕ → List (Seat M) → ℕ
events_of_all left most seats = sum_by (events_of left most) seats

abbrev pub HaveFewer : {M : Type 0} → (M → ℕ) → ℕ → (seats later : List (Seat M)) → Type 0
HaveFewer left most seats later = events_of_all left most later < events_of_all left most seats
