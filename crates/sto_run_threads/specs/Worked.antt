-- What a pass has done that ran script threads.
use Rattle.std.specs.Prelude.{◌≡◌, ◌⊎◌, ◌<◌, ◌≤◌, ℕ, suc, List, length, Bool, true, false}
use Rattle.std.specs.List.{All}
use Rattle.sto_core.specs.declared.view.View.{View}
use Rattle.sto_table.specs.Taken.{times}
use Rattle.sto_report_spec.specs.Orders.{TransactionPlace, count_in}
use Rattle.sto_history.specs.Records.{Record}
use Rattle.sto_history.specs.Told.{IsFound}
use Rattle.sto_history.specs.Counted.{aborted_times}
use Rattle.sto_serializability.specs.Working.{AreSoFar}
use Rattle.sto_serializability.specs.Finished.{AreFinished}
use Rattle.sto_run_threads.specs.Plans.{Plan, IsPaced}
use Rattle.sto_run_threads.specs.Running.{ended_of, AreUnderWay, HasNone}

-- the view has the finding of an aborted attempt, under the number of some start
pub record WasFound (v : View) (r : Record) : Type 0 where
  pub start : ℕ
  pub found : IsFound v start r.verdict

-- the records are told of the view, aborted ones with their findings, and threads are under way; no attempt took more steps than one may
pub record HasWorked (plan : Plan) (v : View) (rs : List Record) : Type 0 where
  pub so_far : AreSoFar plan.meaning plan.file plan.tries v rs
  pub found : All (WasFound v) rs
  pub under_way : AreUnderWay plan.file rs
  pub paced : IsPaced plan v

-- they are those of a finished run
abbrev pub AreWhole : Plan → View → List Record → Type 0
AreWhole plan v rs = AreFinished plan.meaning plan.file plan.tries v rs

-- records are of these threads alone
abbrev pub AreOf : List ℕ → List Record → Type 0
AreOf threads rs = (thread : ℕ) → times thread threads ≡ 0 → HasNone thread rs

-- each transaction of the thread that has ended had a try left
abbrev pub HasSpared : ℕ → ℕ → List Record → Type 0
HasSpared tries thread rs = (position : ℕ) → 1 ≤ position → position ≤ ended_of thread rs → aborted_times (thread, position) rs < tries

-- the next transaction of the thread was not tried before, and those before it had a try left; or nothing runs beside it
abbrev pub IsFresh : ℕ → ℕ → ℕ → List Record → Type 0
IsFresh tries passes thread rs = (passes ≡ 1) ⊎ ((aborted_times (thread, suc (ended_of thread rs)) rs ≡ 0) × HasSpared tries thread rs)

-- the thread was run to its end, or its next transaction used up its tries
abbrev pub IsDone : Plan → List Record → ℕ → Type 0
IsDone plan rs thread =
    (ended_of thread rs ≡ count_in plan.file.threads thread) ⊎ (aborted_times (thread, suc (ended_of thread rs)) rs ≡ plan.tries)

-- each claimed thread of the file was run so far
abbrev pub AreDone : Plan → List ℕ → List Record → Type 0
AreDone plan threads rs = (thread : ℕ) → thread < length plan.file.threads → (times thread threads ≡ 0) ⊎ IsDone plan rs thread

-- only records of the thread were added
pub record AddsTo (thread : ℕ) (rs later : List Record) : Type 0 where
  pub apart : (u : ℕ) → (thread ≡ u → ⊥) → HasNone u rs → HasNone u later
  pub others : (u : ℕ) → (thread ≡ u → ⊥) → ended_of u later ≡ ended_of u rs
  pub aborts : (place : TransactionPlace) → (thread ≡ place.0 → ⊥) → aborted_times place later ≡ aborted_times place rs

-- none of the added records is aborted
abbrev pub AbortsNone : List Record → List Record → Type 0
AbortsNone rs later = (place : TransactionPlace) → aborted_times place later ≡ aborted_times place rs

-- records of attempts of the next transaction of a thread were added, which has ended with the last of them or has not ended
pub record IsNext (plan : Plan) (w : View) (thread : ℕ) (rs later : List Record) (ended : Bool) : Type 0 where
  pub worked : HasWorked plan w later
  pub adds : AddsTo thread rs later
  pub more : ended ≡ true → (ended_of thread later ≡ suc (ended_of thread rs)) × (aborted_times (thread, suc (ended_of thread later)) later ≡ 0)
  pub left : ended ≡ false → ended_of thread later ≡ ended_of thread rs

-- the next transaction of a thread was run: it has ended, or is handed back
pub record IsOneMore (plan : Plan) (passes : ℕ) (w : View) (thread : ℕ) (rs later : List Record) (ended : Bool) : Type 0 where
  pub next : IsNext plan w thread rs later ended
  pub fresh : ended ≡ true → IsFresh plan.tries passes thread later
  pub used : ended ≡ false → aborted_times (thread, suc (ended_of thread later)) later ≡ plan.tries
  pub alone : passes ≡ 1 → (ended ≡ true) × AbortsNone rs later

-- what was left of a thread was run
pub record IsScriptRun (plan : Plan) (passes : ℕ) (w : View) (thread : ℕ) (rs later : List Record) (ended : Bool) : Type 0 where
  pub worked : HasWorked plan w later
  pub adds : AddsTo thread rs later
  pub all : ended ≡ true → ended_of thread later ≡ count_in plan.file.threads thread
  pub left : ended ≡ false → aborted_times (thread, suc (ended_of thread later)) later ≡ plan.tries
  pub alone : passes ≡ 1 → (ended ≡ true) × AbortsNone rs later
