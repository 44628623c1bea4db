-- The journal that records make.
use Rattle.std.specs.Prelude.{◌≡◌, ℕ, List, length, map}
use Rattle.sto_lang.specs.Scripts.{File}
use Rattle.sto_history.specs.Records.{Record}
use Rattle.sto_serializability.specs.Merged.{aborts_from}
use Rattle.sto_journal.specs.declared.journal.Journal.{Journal}
use Rattle.sto_journal.specs.Journals.{entry, abort}
use Rattle.sto_run.specs.PlainLines.{AreLines}

-- its lines are those of the records that are not aborted, each with its replies and its ending, in the order of their tickets; its aborted
-- attempts are those of the others, thread by thread and each with its replies, with these homes of parts
pub record IsOfRecords (file : File) (homes : List (ℕ × ℕ)) (rs : List Record) (journal : Journal) : Type 0 where
  pub lines : AreLines rs (map entry journal.lines.items)
  pub aborts : map (abort file.declarations) journal.aborts.items ≡ aborts_from file.declarations homes rs 0 (length file.threads)
