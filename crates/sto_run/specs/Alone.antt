-- The journal of a run beside which nothing ran.
use Rattle.std.specs.Prelude.{◌≡◌, ℕ, zero, suc, List, [], ◌∷◌, ◌++◌, length}
use Rattle.sto_lang.specs.Scripts.{Script, File}
use Rattle.sto_report_spec.specs.Orders.{TransactionPlace}
use Rattle.sto_journal.specs.declared.journal.Journal.{Journal}
use Rattle.sto_journal.specs.Journals.{places}

-- so many places of a thread, from a position on
abbrev pub places_in : ℕ → ℕ → ℕ → List TransactionPlace
places_in thread first zero = []
places_in thread first (suc count) = (thread, first) ∷ places_in thread (suc first) count

-- the places of all transactions of threads, which are numbered from the first on: in rising thread and then position
abbrev pub places_from : ℕ → List (List Script) → List TransactionPlace
places_from first [] = []
places_from first (scripts ∷ threads) = places_in first 1 (length scripts) ++ places_from (suc first) threads

-- those of a file
abbrev pub all_places : File → List TransactionPlace
all_places file = places_from 0 file.threads

-- its transactions were run one after the other, in rising thread and then position, and no attempt was aborted
pub record RanAlone (file : File) (journal : Journal) : Type 0 where
  pub order : places journal.lines.items ≡ all_places file
  pub none : journal.aborts.items ≡ []
