-- The reports that are asked for, by the states beside them.
use Rattle.std.specs.Prelude.{filter}
use Rattle.std.specs.List.{All}
use Rattle.std.proofs.Common.{◌≡◌, List, [], ◌∷◌, Bool, true, false, cond, refl, ap, ◌∙◌}
use Rattle.std.proofs.lemmas.List.Elements.{All-head, All-tail}
use Rattle.sto_lang.specs.Scripts.{File}
use Rattle.sto_report_spec.specs.declared.form.ReportForm.{ReportForm}
use Rattle.sto_question.specs.Questions.{Question, is_true_of}
use Rattle.sto_run_orders.specs.declared.report.OrderReport.{OrderReport}
use Rattle.sto_run_orders.specs.Reports.{HasTold}
use Rattle.sto_run_orders.specs.Asked.{is_true_in, asked_of}

module _ (form : ReportForm) (file : File) (question : Question) where
  abbrev by_state : OrderReport → Bool
  by_state r = is_true_of question r.state.items

  pub asked_by_state : (reports : List OrderReport) → All (HasTold form file) reports → filter by_state reports ≡ asked_of form file question reports
  asked_by_state [] told = refl
  asked_by_state (r ∷ reports) told =
      let here = ap (is_true_of question) (All-head (HasTold form file) r reports told) in
      let rest = asked_by_state reports (All-tail (HasTold form file) r reports told) in
      (λ i. cond (here i) (r ∷ rest i) (rest i))
