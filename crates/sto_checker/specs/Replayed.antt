-- What is kept of journal lines.
use Rattle.std.specs.Prelude.{◌≡◌, ℕ, ◌+◌, List, ◌++◌, length, map, Bool, true, false}
use Rattle.sto_lang.specs.Scripts.{File}
use Rattle.sto_report_spec.specs.Orders.{IsOrder}
use Rattle.sto_report_spec.specs.Named.{order_named}
use Rattle.sto_journal.specs.Journals.{entry, places}
use Rattle.sto_checker.specs.Past.{IsPast}
use Rattle.sto_checker.specs.Right.{total, IsJournalLine}
use Rattle.sto_checker.specs.Reached.{IsJournalRead}
use Rattle.sto_checker.specs.declared.replayed.Replayed.{Replayed}
use Rattle.sto_checker.specs.declared.window.Window.{Window}
use Rattle.sto_checker.specs.declared.window.Windows.{Windows}
use Rattle.sto_checker.specs.Windows.{AreWindows}

-- the windows of each thread
abbrev pub windows_of : Windows → List (List Window)
windows_of windows = map (λ l. l.items) windows.threads.items

-- the replay of the transactions so far, and their windows
pub record IsReplayed (file : File) (replayed : Replayed) : Type 0 where
  pub past : IsPast file replayed.past
  pub windows : AreWindows (length file.threads) (map entry replayed.past.run.lines.items) (windows_of replayed.windows)

-- one more journal line was taken
pub record IsTaken (file : File) (old new : Replayed) (line : List ℕ) : Type 0 where
  pub right : IsJournalLine file (places old.past.run.lines.items) line
  pub replayed : IsReplayed file new
  pub placed : places new.past.run.lines.items ≡ places old.past.run.lines.items ++ order_named file.names line
  pub counted : length new.past.run.lines.items ≡ length old.past.run.lines.items + 1

-- the line was taken, or it is no journal line of the next transaction of a thread
abbrev pub IsTakenOr : File → Replayed → Replayed → List ℕ → Bool → Type 0
IsTakenOr file old new line true = IsTaken file old new line
IsTakenOr file old new line false = IsJournalLine file (places old.past.run.lines.items) line → ⊥

-- all journal lines were taken, and so many lines were read
pub record IsJournalTaken (file : File) (tries : ℕ) (lines : List (List ℕ)) (replayed : Replayed) (read : ℕ) : Type 0 where
  pub journal : IsJournalRead file tries lines replayed.past read
  pub replayed_is : IsReplayed file replayed
  pub count : read ≡ total file
  pub order : IsOrder file (places replayed.past.run.lines.items)
