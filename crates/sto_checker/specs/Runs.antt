-- What a run gives.
use Rattle.std.specs.Prelude.{◌≡◌, ℕ, suc, ◌≤◌, List, [], ◌∷◌, ◌++◌, length, map}
use Rattle.sto_model.specs.Run.{State}
use Rattle.sto_lang.specs.Scripts.{Script, File}
use Rattle.sto_report_spec.specs.Orders.{TransactionPlace, numbers_from, IsOrder}
use Rattle.sto_report_spec.specs.Replay.{opening_state, entry_at, run_at, entries_from, state_from, entries_of, final_state}
use Rattle.sto_journal.specs.declared.journal.Line.{Line}
use Rattle.sto_journal.specs.Journals.{entry, places}

-- the lines and the state are those of the replay in the order of the lines
pub record IsReplay (file : File) (lines : List Line) (state : State) : Type 0 where
  pub order : IsOrder file (places lines)
  pub entries : map entry lines ≡ entries_of file (places lines)
  pub final : state ≡ final_state file (places lines)

-- how many writer runs there are, with those before, where transactions are run from a state on
abbrev pub writers_from : File → ℕ → State → List TransactionPlace → ℕ
writers_from file writers state [] = writers
writers_from file writers state (place ∷ order) = writers_from file (entry_at file writers state place).writers (run_at file state place).after order

-- the lines, the number of writers and the state are those of the replay of the transactions so far
pub record IsSoFar (file : File) (lines : List Line) (writers : ℕ) (state : State) : Type 0 where
  pub entries : map entry lines ≡ entries_from file 0 (opening_state file) (places lines)
  pub writers_are : writers ≡ writers_from file 0 (opening_state file) (places lines)
  pub state_is : state ≡ state_from file (opening_state file) (places lines)
  pub few : writers ≤ length lines
  pub objects : length state ≡ length (opening_state file)

-- the first so many transactions of a thread, in rising position
abbrev pub places_of : ℕ → ℕ → List TransactionPlace
places_of thread count = map (λ position. (thread, position)) (numbers_from 1 count)

-- those of all threads, which are numbered from the first on
abbrev pub places_from : ℕ → List (List Script) → List TransactionPlace
places_from first [] = []
places_from first (scripts ∷ threads) = places_of first (length scripts) ++ places_from (suc first) threads

-- every transaction of a file, thread by thread
abbrev pub thread_order : File → List TransactionPlace
thread_order file = places_from 0 file.threads
