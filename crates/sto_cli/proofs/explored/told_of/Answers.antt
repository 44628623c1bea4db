use Rattle.std.proofs.Common.{◌≡◌, List, ap, sym, ◌∙◌, length}
use Rattle.sto_lang.specs.Views.{file as view}
use Rattle.sto_run.specs.Forms.{form_for}
use Rattle.sto_question.specs.Views.{question as question_of}
use Rattle.sto_run_orders.specs.Asked.{asked_of}
use Rattle.sto_run_orders.specs.Texts.{asked_in}
use Rattle.sto_run_orders.specs.declared.report.OrderReport.{OrderReport}
use Rattle.sto_run_orders.proofs.ByState.{asked_by_state}
use Rattle.sto_cli.specs.Orders.{answer_for}
use Rattle.sto_cli.proofs.explored.told_of.Goals as goal

pub returns-clause-answer : goal.returns-clause-answer
returns-clause-answer c =
    c.answer_for.ensures ∙ ap (answer_for c.args.asking)
    (c.as_slice-3.ensures.value ∙ c.in_ok-kept.ensures ∙ asked_by_state (form_for c.args.json) (view c.args.file.now) (question_of c.args.question.now) c.args.reports.items c.requires)

pub returns-clause-text : goal.returns-clause-text
returns-clause-text c =
    c.in_ok-text.ensures ∙ ap (λ n. asked_in c.args.json c.args.asking n (view c.args.file.now) c.as_slice-2.result.now) (ap length c.as_slice.ensures.value)
    ∙ ap (asked_in c.args.json c.args.asking (length c.args.reports.items) (view c.args.file.now))
    (c.as_slice-2.ensures.value ∙ c.in_ok-kept.ensures ∙ asked_by_state (form_for c.args.json) (view c.args.file.now) (question_of c.args.question.now) c.args.reports.items c.requires)
