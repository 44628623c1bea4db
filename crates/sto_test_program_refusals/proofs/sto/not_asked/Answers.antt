use Rattle.std.specs.List.{All}
use Rattle.std.proofs.Common.{◌≡◌, ◌∙◌, sym, subst, true, true≢false}
use Rattle.std.proofs.lemmas.List.Elements.{All-head}
use Rattle.sto_run.specs.Forms.{form_for}
use Rattle.sto_run_orders.specs.declared.report.OrderReport.{OrderReport}
use Rattle.sto_run_orders.specs.Asked.{is_true_in}
use Rattle.sto_test_program_refusals.proofs.Questions.{each_true, each_told, never_silent, never_loud, no_question, found_unasked, found_where}
use Rattle.sto_test_program_refusals.proofs.sto.not_asked.Goals as goal

pub returns-clause-false_told : goal.returns-clause-false_told
returns-clause-false_told c = λ json f q r reports others false_of kept.
    let P : OrderReport → Type 0 = λ x. is_true_in (form_for json) f q x.report.items ≡ true in
    true≢false (sym (All-head P r others (subst (All P) kept (each_true (form_for json) f q reports))) ∙ false_of)

pub returns-clause-left_out : goal.returns-clause-left_out
returns-clause-left_out c = λ json f q r reports among true_of none. none (each_told (form_for json) f q reports r among true_of)

pub returns-clause-never_silent : goal.returns-clause-never_silent
returns-clause-never_silent c = never_silent

pub returns-clause-never_loud : goal.returns-clause-never_loud
returns-clause-never_loud c = never_loud

pub returns-clause-no_question : goal.returns-clause-no_question
returns-clause-no_question c = no_question

pub returns-clause-found_unasked : goal.returns-clause-found_unasked
returns-clause-found_unasked c = found_unasked

pub returns-clause-found_where : goal.returns-clause-found_where
returns-clause-found_where c = found_where
