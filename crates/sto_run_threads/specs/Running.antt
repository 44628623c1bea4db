-- Records of a run that goes on: of each script thread the first so many transactions have ended.
use Rattle.std.specs.Prelude.{◌≡◌, ◌≤◌, ℕ, suc, List, length, true}
use Rattle.std.specs.List.{All}
use Rattle.sto_lang.specs.Scripts.{File}
use Rattle.sto_report_spec.specs.Orders.{positions_of, numbers_from, count_in}
use Rattle.sto_history.specs.Records.{Record, is_abort}
use Rattle.sto_history.specs.Counted.{finished_places}

-- how many transactions of the thread have ended
abbrev pub ended_of : ℕ → List Record → ℕ
ended_of thread rs = length (positions_of thread (finished_places rs))

-- a record of the thread is of a transaction that has ended, or of an aborted attempt of the next one
abbrev pub IsUpTo : ℕ → ℕ → Record → Type 0
IsUpTo thread ended r = r.place.0 ≡ thread → (r.place.1 ≤ suc ended) × (r.place.1 ≡ suc ended → is_abort r.verdict ≡ true)

-- those that have ended are the first so many of the file's thread, in their order
pub record IsUnderWay (file : File) (rs : List Record) (thread : ℕ) : Type 0 where
  pub order : positions_of thread (finished_places rs) ≡ numbers_from 1 (ended_of thread rs)
  pub comes : All (IsUpTo thread (ended_of thread rs)) rs
  pub within : ended_of thread rs ≤ count_in file.threads thread

-- that of each thread
abbrev pub AreUnderWay : File → List Record → Type 0
AreUnderWay file rs = (thread : ℕ) → IsUnderWay file rs thread

-- no record is of the thread
abbrev pub HasNone : ℕ → List Record → Type 0
HasNone thread rs = All (λ (r : Record). r.place.0 ≡ thread → ⊥) rs
