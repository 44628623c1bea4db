-- Journals whose reports are lawful.
use Rattle.std.specs.Prelude.{◌≡◌, ℕ, map}
use Rattle.sto_lang.specs.Scripts.{File}
use Rattle.sto_report_spec.specs.Orders.{IsOrder}
use Rattle.sto_report_spec.specs.Replay.{entries_of, final_state}
use Rattle.sto_report_spec.specs.Updated.{Updating}
use Rattle.sto_report_spec.specs.LawfulAborts.{AreLawful}
use Rattle.sto_journal.specs.declared.journal.Journal.{Journal}
use Rattle.sto_journal.specs.Journals.{entry, places, abort}

-- the order of the lines is an order of the file, the lines and the rows are those of the replay in this order, and the aborted
-- attempts are lawful for it and so many tries
pub record IsLawfulJournal (u : Updating) (file : File) (tries : ℕ) (journal : Journal) : Type 0 where
  pub order : IsOrder file (places journal.lines.items)
  pub entries : map entry journal.lines.items ≡ entries_of file (places journal.lines.items)
  pub aborts : AreLawful u file tries (places journal.lines.items) (map (abort file.declarations) journal.aborts.items)
  pub final : journal.state.items ≡ final_state file (places journal.lines.items)
