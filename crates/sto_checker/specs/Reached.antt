-- How far a report was read, with every line right so far.
use Rattle.std.specs.Prelude.{◌≡◌, ℕ, suc, ◌≤◌, List, length, take, true, false, Option, None, Some}
use Rattle.std.specs.List.{list_any}
use Rattle.sto_lang.specs.Scripts.{File}
use Rattle.sto_journal.specs.Journals.{places}
use Rattle.sto_checker.specs.declared.past.Past.{Past}
use Rattle.sto_checker.specs.declared.found.Found.TheVariants.{Not}
use Rattle.sto_checker.specs.Lines.{is_state_line, beyond_state}
use Rattle.sto_checker.specs.Right.{total, order_in, behind}
use Rattle.sto_checker.specs.Past.{IsPast}
use Rattle.sto_checker.specs.Answer.{AreRight, IsAnswer, IsWhole}

-- so many lines were read and are right, and what is kept is their replay
pub record AreRead (file : File) (tries : ℕ) (lines : List (List ℕ)) (kept : Past) (read : ℕ) : Type 0 where
  pub past : IsPast file kept
  pub order : places kept.run.lines.items ≡ order_in file (take read lines)
  pub right : AreRight file tries lines read
  pub within : read ≤ length lines

-- all lines of the journal were read
pub record IsJournalRead (file : File) (tries : ℕ) (lines : List (List ℕ)) (kept : Past) (read : ℕ) : Type 0 where
  pub lines_are : AreRead file tries lines kept read
  pub all : total file ≤ read

-- the line `state` was read, and so many lines of objects
pub record AreObjectsRead (file : File) (tries : ℕ) (lines : List (List ℕ)) (kept : Past) (read objects : ℕ) : Type 0 where
  pub journal : IsJournalRead file tries lines kept read
  pub state : list_any is_state_line (behind file (take read lines)) ≡ true
  pub count : length (beyond_state (behind file (take read lines))) ≡ objects

-- the number is that of the line with which the report goes wrong; where there is none, this holds
abbrev pub IsWrongOr : File → ℕ → List (List ℕ) → Type 0 → Option ℕ → Type 0
IsWrongOr file tries lines P None = P
IsWrongOr file tries lines P (Some number) = IsAnswer file tries lines (Not number)
