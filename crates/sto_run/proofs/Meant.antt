-- What is lawful by the meaning of a file's own shapes is so by the meaning of all shapes.
use Rattle.std.proofs.Common.{◌≡◌, ℕ, List, map, subst}
use Rattle.sto_attempt_log.specs.Pending.{Entry, applied_updates}
use Rattle.sto_model.specs.declared.shape.Shape.{Shape}
use Rattle.sto_lang.specs.Objects.{shapes_of}
use Rattle.sto_lang.specs.Scripts.{File}
use Rattle.sto_type.specs.Meaning.{Meaning}
use Rattle.sto_type.specs.Touching.{Touches}
use Rattle.sto_report_spec.specs.Updated.{Updating}
use Rattle.sto_report_spec.proofs.NoLess.{SaysNoLess, aborts_same}
use Rattle.sto_journal.specs.declared.journal.Journal.{Journal}
use Rattle.sto_journal.specs.Journals.{places, abort}
use Rattle.sto_serializability.specs.Meanings.{updating_by}
use Rattle.sto_run.specs.Lawful.{IsLawfulJournal}

journal_same : (u w : Updating) (file : File) (tries : ℕ) (j : Journal) → SaysNoLess u w (shapes_of file.declarations) → IsLawfulJournal u file tries j → IsLawfulJournal w file tries j
journal_same u w file tries j same h = record {
  order = h.order;
  entries = h.entries;
  aborts = aborts_same u w file same tries (places j.lines.items) (map (abort file.declarations) j.aborts.items) h.aborts;
  final = h.final;
}

meant_same : (m : Meaning) (means : List Shape → Meaning) (shapes : List Shape) → m ≡ means shapes → SaysNoLess (updating_by (λ all. m)) (updating_by means) shapes
meant_same m means shapes e = record {
  opening = λ i. (e i).opened;
  parts = λ i call contents. map (λ (x : Entry). x.0) ((e i).updates call contents);
  after = λ i call contents. applied_updates ((e i).updates call contents) contents;
  touches = λ part call h. subst (λ (x : Meaning). Touches x part call) e h;
}

pub lawful_meant : (m : Meaning) (means : List Shape → Meaning) (file : File) (tries : ℕ) (j : Journal) → m ≡ means (shapes_of file.declarations)
    → IsLawfulJournal (updating_by (λ shapes. m)) file tries j → IsLawfulJournal (updating_by means) file tries j
lawful_meant m means file tries j e h =
    journal_same (updating_by (λ shapes. m)) (updating_by means) file tries j (meant_same m means (shapes_of file.declarations) e) h
