-- The report of a lawful journal is lawful.
use Rattle.std.proofs.Common.{◌≡◌, ℕ, List, [], length, map, sym, ap, ◌∙◌, subst}
use Rattle.std.proofs.lemmas.List.{length-map}
use Rattle.sto_model.specs.Run.{State}
use Rattle.sto_lang.specs.Scripts.{File}
use Rattle.sto_lang.specs.Sound.{IsSound}
use Rattle.sto_lang.specs.declared.file.File as whole
use Rattle.sto_lang.specs.declared.file.Thread.{Thread}
use Rattle.sto_lang.specs.Views.{script, declaration}
use Rattle.sto_lang.specs.Views as views
use Rattle.sto_report_spec.specs.Orders.{TransactionPlace, IsOrder}
use Rattle.sto_report_spec.specs.Aborts.{Abort}
use Rattle.sto_report_spec.specs.Replay.{Entry, entries_of}
use Rattle.sto_report_spec.specs.Report.{text_of, report_of}
use Rattle.sto_report_spec.specs.Named.{order_named}
use Rattle.sto_report_spec.specs.NamedAborts.{aborts_named}
use Rattle.sto_report_spec.specs.Json.{json_text, json_of}
use Rattle.sto_report_spec.specs.NamedJson.{json_order_named, json_aborts_named}
use Rattle.sto_report_spec.specs.Updated.{Updating}
use Rattle.sto_report_spec.specs.LawfulAborts.{AreLawful}
use Rattle.sto_report_spec.specs.declared.form.ReportForm.{ReportForm}
use Rattle.sto_report_spec.specs.declared.form.ReportForm.TheVariants.{Text, Json}
use Rattle.sto_report_spec.specs.Lawful.{IsLawful, IsLawfulJson, IsLawfulIn, made_in}
use Rattle.sto_journal.specs.declared.journal.Journal.{Journal}
use Rattle.sto_journal.specs.Journals.{entry, places, abort, HaveThreads, AreAbortsOf}
use Rattle.sto_run.specs.Lawful.{IsLawfulJournal}
use Rattle.sto_run.specs.Alone.{all_places, RanAlone}
use Rattle.sto_run.specs.Forms.{order_told, aborts_told, IsAlone}
use Rattle.sto_run.proofs.Printed.{lawful_threads, lawful_aborts}

module _ (u : Updating) (f : File) (tries : ℕ) (j : Journal) (lawful : IsLawfulJournal u f tries j) (text : List ℕ) where
  abbrev order : List TransactionPlace
  order = places j.lines.items

  abbrev aborts : List Abort
  aborts = map (abort f.declarations) j.aborts.items

  pub lawful_text : text ≡ text_of f.names f.declarations (map entry j.lines.items) aborts j.state.items
      → order_named f.names text ≡ order → aborts_named f.names text ≡ aborts → IsLawful u f tries text
  lawful_text told order_is aborts_are = record {
    order = subst (IsOrder f) (sym order_is) lawful.order;
    aborts = subst (λ (o : List TransactionPlace). AreLawful u f tries o (aborts_named f.names text)) (sym order_is)
        (subst (AreLawful u f tries order) (sym aborts_are) lawful.aborts);
    report =
        told
        ∙ ap (λ (es : List Entry). text_of f.names f.declarations es aborts j.state.items) lawful.entries
        ∙ ap (λ (st : State). text_of f.names f.declarations (entries_of f order) aborts st) lawful.final
        ∙ ap (λ (o : List TransactionPlace). report_of f o aborts) (sym order_is)
        ∙ ap (λ (named : List Abort). report_of f (order_named f.names text) named) (sym aborts_are);
  }

  -- the same of a JSON report
  pub lawful_json : text ≡ json_text f.names f.declarations (map entry j.lines.items) aborts j.state.items
      → json_order_named f.names text ≡ order → json_aborts_named f.names text ≡ aborts → IsLawfulJson u f tries text
  lawful_json told order_is aborts_are = record {
    order = subst (IsOrder f) (sym order_is) lawful.order;
    aborts = subst (λ (o : List TransactionPlace). AreLawful u f tries o (json_aborts_named f.names text)) (sym order_is)
        (subst (AreLawful u f tries order) (sym aborts_are) lawful.aborts);
    report =
        told
        ∙ ap (λ (es : List Entry). json_text f.names f.declarations es aborts j.state.items) lawful.entries
        ∙ ap (λ (st : State). json_text f.names f.declarations (entries_of f order) aborts st) lawful.final
        ∙ ap (λ (o : List TransactionPlace). json_of f o aborts) (sym order_is)
        ∙ ap (λ (named : List Abort). json_of f (json_order_named f.names text) named) (sym aborts_are);
  }

-- a lawful journal of a file of the code is one that can be printed
module _ (u : Updating) (f : whole.File) (tries : ℕ) (j : Journal) (sound : IsSound (views.file f)) (lawful : IsLawfulJournal u (views.file f) tries j) where
  same_count : length (views.file f).threads ≡ length f.threads.items
  same_count = length-map f.threads.items (λ (thread : Thread). map script thread.scripts.items)

  pub printed_threads : HaveThreads (length f.threads.items) j.lines.items
  printed_threads = subst (λ (n : ℕ). HaveThreads n j.lines.items) same_count (lawful_threads u (views.file f) tries j sound lawful)

  pub printed_aborts : AreAbortsOf (length f.threads.items) (map declaration f.decls.items) j.aborts.items
  printed_aborts = subst (λ (n : ℕ). AreAbortsOf n (map declaration f.decls.items) j.aborts.items) same_count (lawful_aborts u (views.file f) tries j sound lawful)

-- The report of a run beside which nothing ran is one text.
pub one_report : (form : ReportForm) (u : Updating) (file : File) (tries : ℕ) (j : Journal) (text : List ℕ) → RanAlone file j → IsLawfulIn form u file tries text
    → order_told form file.names text ≡ places j.lines.items → aborts_told form file.names text ≡ map (abort file.declarations) j.aborts.items → IsAlone form file text
one_report form u file tries j text alone lawful order aborts = record {
  order = in_order;
  none = none;
  report = said form lawful ∙ ap (λ (ps : List TransactionPlace). made_in form file ps (aborts_told form file.names text)) in_order ∙ ap (made_in form file (all_places file)) none;
}
  where
    in_order : order_told form file.names text ≡ all_places file
    in_order = order ∙ alone.order

    none : aborts_told form file.names text ≡ []
    none = aborts ∙ ap (map (abort file.declarations)) alone.none

    said : (f : ReportForm) → IsLawfulIn f u file tries text → text ≡ made_in f file (order_told f file.names text) (aborts_told f file.names text)
    said Text l = l.report
    said Json l = l.report
