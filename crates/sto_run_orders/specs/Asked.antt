-- The outcomes of which a question is true.
use Rattle.std.specs.Prelude.{ℕ, List, Bool, filter}
use Rattle.sto_lang.specs.Scripts.{File}
use Rattle.sto_report_spec.specs.declared.form.ReportForm.{ReportForm}
use Rattle.sto_question.specs.Questions.{Question, is_true_of}
use Rattle.sto_run_orders.specs.declared.report.OrderReport.{OrderReport}
use Rattle.sto_run_orders.specs.Reports.{state_told}

-- it is true of the final state that a report tells
abbrev pub is_true_in : ReportForm → File → Question → List ℕ → Bool
is_true_in form file question text = is_true_of question (state_told form file text)

-- the reports of which it is true, in their order
abbrev pub asked_of : ReportForm → File → Question → List OrderReport → List OrderReport
asked_of form file question reports = filter (λ r. is_true_in form file question r.report.items) reports
