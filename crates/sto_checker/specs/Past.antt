-- What is kept of journal lines.
use Rattle.std.specs.Prelude.{◌≡◌, ℕ, ◌+◌, ◌<◌, ◌≤◌, List, [], ◌∷◌, ◌++◌, length, map, Some, slice_get}
use Rattle.sto_lang.specs.Scripts.{File}
use Rattle.sto_report_spec.specs.Orders.{TransactionPlace, positions_of, numbers_from, count_in}
use Rattle.sto_report_spec.specs.declared.ending.Ending.{Ending}
use Rattle.sto_report_spec.specs.declared.ending.Ending.TheVariants.{Commit, Read, Cancel}
use Rattle.sto_journal.specs.declared.journal.Line.{Line}
use Rattle.sto_journal.specs.Journals.{entry, places}
use Rattle.sto_checker.specs.Runs.{IsSoFar}
use Rattle.sto_checker.specs.declared.past.Past.{Past}
use Rattle.sto_checker.specs.Written.{written_of}
use Rattle.sto_checker.specs.Right.{entry_after}
use Rattle.sto_checker.specs.Shown.{AreInside}

-- the objects of a line, where it is that of a writer
abbrev pub told_objects : Ending → List ℕ → List (List ℕ)
told_objects Commit objects = objects ∷ []
told_objects Read objects = []
told_objects Cancel objects = []

-- the transactions are those of a front of each thread, in rising position
abbrev pub IsBegun : File → List TransactionPlace → Type 0
IsBegun file order =
    (thread : ℕ) → (positions_of thread order ≡ numbers_from 1 (length (positions_of thread order))) × (length (positions_of thread order) ≤ count_in file.threads thread)

-- the replay of the transactions so far, how many of each thread there are, and the objects that each writer wrote
pub record IsPast (file : File) (past : Past) : Type 0 where
  pub run : IsSoFar file past.run.lines.items past.run.writers past.run.state.items
  pub begun : IsBegun file (places past.run.lines.items)
  pub inside : AreInside file (places past.run.lines.items)
  pub threads : length past.done.items ≡ length file.threads
  pub done : (thread count : ℕ) → slice_get past.done.items thread ≡ Some count → count ≡ length (positions_of thread (places past.run.lines.items))
  pub written : map (λ objects. objects.items) past.written.items ≡ written_of file (places past.run.lines.items)

-- one transaction more was run, and its line stands last
pub record IsLast (file : File) (old new : Past) (place : TransactionPlace) : Type 0 where
  pub line : Line
  pub placed : places new.run.lines.items ≡ places old.run.lines.items ++ place ∷ []
  pub counted : length new.run.lines.items ≡ length old.run.lines.items + 1
  pub stands : slice_get new.run.lines.items (length old.run.lines.items) ≡ Some line
  pub inside : line.thread < length file.threads
  pub tells : entry line ≡ entry_after file (places old.run.lines.items) place
