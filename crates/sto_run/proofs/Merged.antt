-- The journal that is merged from the records of a finished run is lawful.
use Rattle.std.proofs.Common.{◌≡◌, ℕ, ◌≤◌, List, [], ◌∷◌, length, map, refl, sym, ap, ◌∙◌, subst, le_refl}
use Rattle.sto_model.specs.declared.shape.Shape.{Shape}
use Rattle.sto_lang.specs.Objects.{shapes_of}
use Rattle.sto_lang.specs.Scripts.{File}
use Rattle.sto_lang.specs.Sound.{IsSound}
use Rattle.sto_type.specs.Known.{Parts}
use Rattle.sto_type.specs.Meaning.{Meaning}
use Rattle.sto_core.specs.declared.view.View.{View}
use Rattle.sto_core.specs.History.{Contents, Validity, contents_as_of}
use Rattle.sto_core.specs.Core.{Core}
use Rattle.sto_core.specs.Rule.{Past}
use Rattle.sto_report_spec.specs.Orders.{TransactionPlace, IsOrder}
use Rattle.sto_report_spec.specs.Replay.{Entry, entries_of, final_state}
use Rattle.sto_report_spec.specs.Aborts.{Abort}
use Rattle.sto_report_spec.specs.LawfulAborts.{AreLawful}
use Rattle.sto_journal.specs.declared.journal.Journal.{Journal}
use Rattle.sto_journal.specs.Journals.{entry, places, abort}
use Rattle.sto_history.specs.Records.{Record}
use Rattle.sto_serializability.specs.Finished.{AreFinished}
use Rattle.sto_serializability.specs.Merged.{line_of, aborts_from}
use Rattle.sto_serializability.specs.Meanings.{updating_by, IsTypeOf}
use Rattle.sto_serializability.proofs.AbortLines.{aborts_lawful}
use Rattle.sto_serializability.proofs.Journal as journal
use Rattle.sto_history.proofs.Standing as standing
use Rattle.sto_serializability.proofs.Journal.{IsClosed}
use Rattle.sto_serializability.proofs.Replaying.{places_of}
use Rattle.sto_serializability.proofs.Usable.{sound_usable}
use Rattle.sto_run.specs.PlainLines.{AreLines}
use Rattle.sto_run.specs.Lawful.{IsLawfulJournal}

pub places_told : (rs ordered : List Record) → map (λ (e : Entry). e.place) (map (line_of rs) ordered) ≡ places_of ordered
places_told rs [] = refl
places_told rs (r ∷ ordered) = ap (λ (ps : List TransactionPlace). r.place ∷ ps) (places_told rs ordered)

module _ {valid : Validity} {sizes : List ℕ} {opening : Contents} {past : Past} {core : Core} {v : View}
    (m : Meaning) (file : File) (sound : IsSound file) (type_of : IsTypeOf (shapes_of file.declarations) m) (closed : IsClosed valid sizes opening past core v m)
    (tries : ℕ) (rs : List Record) (finished : AreFinished m file tries v rs) where
  abbrev means : List Shape → Meaning
  means shapes = m

  pub valid_at_end : m.valid (contents_as_of opening past.log core.clock)
  valid_at_end =
      (standing.history closed.rule closed.seat v closed.there closed.whole m closed.same_valid closed.same_opening rs finished.tickets).valid core.clock (le_refl core.clock)

  pub lawful_journal : (j : Journal) (contents : Parts) → AreLines rs (map entry j.lines.items)
      → map (abort file.declarations) j.aborts.items ≡ aborts_from file.declarations m.homes rs 0 (length file.threads)
      → j.state.items ≡ m.rows contents → contents ≡ contents_as_of opening past.log core.clock → IsLawfulJournal (updating_by means) file tries j
  lawful_journal j contents lines aborts state are =
      let usable = sound_usable file sound in
      let ordered : List Record = lines.ordered in
      let merged = lines.merged in
      let same : places j.lines.items ≡ places_of ordered = ap (map (λ (e : Entry). e.place)) lines.lines ∙ places_told rs ordered in
      record {
        order = subst (IsOrder file) (sym same) (journal.order means file usable type_of closed tries rs ordered finished merged);
        entries = lines.lines ∙ sym (journal.entries means file usable type_of closed tries rs ordered finished merged) ∙ ap (entries_of file) (sym same);
        aborts = subst (λ (order : List TransactionPlace). AreLawful (updating_by means) file tries order (map (abort file.declarations) j.aborts.items)) (sym same)
            (subst (AreLawful (updating_by means) file tries (places_of ordered)) (sym aborts)
            (aborts_lawful means file usable type_of closed tries rs ordered finished merged));
        final = state ∙ ap m.rows are ∙ sym (journal.final means file usable type_of closed tries rs ordered finished merged) ∙ ap (final_state file) (sym same);
      }
