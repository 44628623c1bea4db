use Rattle.std.specs.Prelude.{string_bytes}
use Rattle.std.proofs.Common.{◌≡◌, ◌∙◌, sym, subst}
use Rattle.sto_lang.specs.Views.{file as view}
use Rattle.sto_run.specs.Forms.{form_for}
use Rattle.sto_run.specs.Stepped.{IsReportOf}
use Rattle.sto_run_schedules.proofs.reported.reported.Goals as goal

pub returns-clause-report : goal.returns-clause-report
returns-clause-report c = λ tries lawful.
    let same : string_bytes c.in-Ok.text ≡ c.in_ok-told.told.items = c.in-Ok.ensures.ok ∙ c.as_str.ensures.items in
    subst (IsReportOf (form_for c.args.json) (view c.args.file.now) tries c.args.journal.now) (sym same)
    (record { lawful = c.in_ok-told.ensures.lawful tries lawful; order = c.in_ok-told.ensures.order; aborts = c.in_ok-told.ensures.aborts })
