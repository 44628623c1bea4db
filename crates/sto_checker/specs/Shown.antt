-- A replay that goes along an order.
use Rattle.std.specs.Prelude.{◌≡◌, ℕ, ◌<◌, ◌≤◌, List, length, take}
use Rattle.std.specs.List.{All}
use Rattle.sto_lang.specs.Scripts.{Script, File}
use Rattle.sto_report_spec.specs.Orders.{TransactionPlace, count_in}
use Rattle.sto_journal.specs.Journals.{places}
use Rattle.sto_checker.specs.Runs.{IsSoFar}
use Rattle.sto_checker.specs.declared.progress.Progress.{Progress}

-- the file has the transaction
pub record IsInside (threads : List (List Script)) (place : TransactionPlace) : Type 0 where
  pub thread : place.0 < length threads
  pub first : 1 ≤ place.1
  pub last : place.1 ≤ count_in threads place.0

abbrev pub AreInside : File → List TransactionPlace → Type 0
AreInside file order = All (IsInside file.threads) order

-- the first transactions of the order were run
pub record IsAlong (file : File) (order : List TransactionPlace) (run : Progress) : Type 0 where
  pub so_far : IsSoFar file run.lines.items run.writers run.state.items
  pub placed : places run.lines.items ≡ take (length run.lines.items) order
  pub within : length run.lines.items ≤ length order
