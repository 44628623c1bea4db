-- Reports of outcomes.
use Rattle.std.specs.Prelude.{None}
use Rattle.std.specs.List.{AllZip}
use Rattle.std.proofs.Common.{◌≡◌, ◌≤◌, ℕ, List, [], ◌∷◌, ◌++◌, length, map, refl, sym, ap, ◌∙◌, subst, arith}
use Rattle.std.proofs.lemmas.List.Elements.{All-nil}
use Rattle.sto_store.specs.declared.objects.Objects.{Objects}
use Rattle.sto_store.specs.ObjectShapes.{AreOf}
use Rattle.sto_store.proofs.ObjectMeanings.{meaning_of, objects_mean}
use Rattle.sto_lang.specs.declared.file.Turns.{Turns}
use Rattle.sto_lang.specs.Objects.{shapes_of}
use Rattle.sto_lang.specs.Scripts.{File}
use Rattle.sto_report_spec.specs.declared.form.ReportForm.{ReportForm}
use Rattle.sto_report_spec.specs.LawfulAborts.{IsLawfulAbort, AreLawful}
use Rattle.sto_report_spec.specs.Lawful.{IsLawfulIn}
use Rattle.sto_report_spec.specs.Orders.{TransactionPlace}
use Rattle.sto_report_spec.specs.Updated.{Updating}
use Rattle.sto_journal.specs.declared.journal.AbortLine.{AbortLine}
use Rattle.sto_journal.specs.declared.journal.Journal.{Journal}
use Rattle.sto_journal.specs.Journals.{places, abort}
use Rattle.sto_checker.specs.Runs.{IsReplay}
use Rattle.sto_run.specs.Meanings.{updating_by}
use Rattle.sto_run.specs.Stores.{means}
use Rattle.sto_run.specs.Alone.{RanAlone}
use Rattle.sto_run.specs.Lawful.{IsLawfulJournal}
use Rattle.sto_run.specs.Forms.{order_told, aborts_told}
use Rattle.sto_run.specs.Stepped.{IsReportOf, IsStepReport}
use Rattle.sto_run.specs.Traced.{IsRunFrom, of_objects}
use Rattle.sto_run.proofs.Reports.{one_report}
use Rattle.sto_run.proofs.RunJournals.{lawful_run}
use Rattle.sto_orders.specs.declared.same_by.SameBy.{SameBy}
use Rattle.sto_orders.specs.declared.outcome.Outcome.{Outcome}
use Rattle.sto_orders.specs.Outcomes.{end_of, order_of}
use Rattle.sto_report_spec.specs.Replay.{final_state}
use Rattle.sto_run_orders.specs.Reports.{told_end, state_told}

-- a journal that is lawful by what the objects mean is so by what their shapes mean
pub lawful_by_shapes : (objects : Objects) (file : File) (tries : ℕ) (journal : Journal) → AreOf objects (shapes_of file.declarations)
    → IsLawfulJournal (updating_by (λ shapes. meaning_of objects)) file tries journal → IsLawfulJournal (updating_by means) file tries journal
lawful_by_shapes objects file tries journal kinds =
    lawful_run objects objects file file tries tries journal (objects_mean objects (shapes_of file.declarations) kinds) (refl, refl, refl)

none_lawful : (u : Updating) (file : File) (tries : ℕ) (order : List TransactionPlace) → AreLawful u file tries order []
none_lawful u file tries order = record {
  each = All-nil (IsLawfulAbort u file order);
  few = λ place. omega arith;
  handed = λ p q same before full. refl;
  sorted = tt;
}

-- a journal of an order without an aborted attempt is lawful
pub order_lawful : (u : Updating) (file : File) (tries : ℕ) (journal : Journal) → IsReplay file journal.lines.items journal.state.items → journal.aborts.items ≡ [] → IsLawfulJournal u file tries journal
order_lawful u file tries journal is none = record {
  order = is.order;
  entries = is.entries;
  aborts = subst (λ (lines : List AbortLine). AreLawful u file tries (places journal.lines.items) (map (abort file.declarations) lines)) (sym none) (none_lawful u file tries (places journal.lines.items));
  final = is.final;
}

-- what `report` says of the text of a lawful journal
pub report_of_journal : (form : ReportForm) (file : File) (tries : ℕ) (journal : Journal) (text : List ℕ) → IsLawfulIn form (updating_by means) file tries text
    → order_told form file.names text ≡ places journal.lines.items → aborts_told form file.names text ≡ map (abort file.declarations) journal.aborts.items → IsReportOf form file tries journal text
report_of_journal form file tries journal text lawful order aborts = record { lawful = lawful; order = order; aborts = aborts }

-- the report of a run by a schedule is what `step` prints of the file with it
pub step_report : (form : ReportForm) (objects : Objects) (file : File) (tries : ℕ) (schedule : List Turns) (journal : Journal) (text : List ℕ) → AreOf objects (shapes_of file.declarations)
    → IsRunFrom of_objects objects file tries schedule None journal None → (length file.threads ≤ 1 → RanAlone file journal) → IsReportOf form file tries journal text → IsStepReport form file tries schedule text
step_report form objects file tries schedule journal text kinds run alone r = record {
  objects = objects;
  kinds = kinds;
  journal = journal;
  run = run;
  report = r;
  alone = λ few. one_report form (updating_by means) file tries journal text (alone few) r.lawful r.order r.aborts;
}

-- it tells what its journal does
pub told_same : (by : SameBy) (form : ReportForm) (file : File) (tries : ℕ) (journal : Journal) (text : List ℕ) (o : Outcome) → IsReportOf form file tries journal text
    → end_of by file (places journal.lines.items) ≡ end_of by file (order_of o) → told_end by form file text ≡ end_of by file (order_of o)
told_same by form file tries journal text o r same = ap (end_of by file) r.order ∙ same

-- and so is its final state
pub state_is : (form : ReportForm) (file : File) (tries : ℕ) (journal : Journal) (text : List ℕ) → IsReportOf form file tries journal text
    → journal.state.items ≡ final_state file (places journal.lines.items) → journal.state.items ≡ state_told form file text
state_is form file tries journal text r final = final ∙ ap (final_state file) (sym r.order)

-- one more of each of two lists
pub zipped_more : {A B : Type 0} (R : A → B → Type 0) (xs : List A) (ys : List B) (x : A) (y : B) → AllZip R xs ys → R x y → AllZip R (xs ++ x ∷ []) (ys ++ y ∷ [])
zipped_more R [] [] x y all here = (here, all)
zipped_more R [] (b ∷ ys) x y all here = absurd all
zipped_more R (a ∷ xs) [] x y all here = absurd all
zipped_more R (a ∷ xs) (b ∷ ys) x y all here = (all.0, zipped_more R xs ys x y all.1 here)
