use Rattle.std.proofs.Common.{◌≡◌, Bool, map, refl, subst, sym}
use Rattle.sto_lang.specs.Views.{file as view}
use Rattle.sto_report_spec.specs.Lawful.{IsLawfulIn}
use Rattle.sto_run.specs.Meanings.{updating_by}
use Rattle.sto_run.specs.Stores.{means}
use Rattle.sto_run.proofs.Printed.{names_of_sound, lawful_rows}
use Rattle.sto_journal.specs.Journals.{places, abort}
use Rattle.sto_run.specs.Forms.{order_told, aborts_told, form_for}
use Rattle.sto_run.proofs.Reports.{lawful_text, lawful_json, printed_threads, printed_aborts}
use Rattle.sto_run.proofs.form.report.Goals as goal

pub json_report-requires-clause-threads : goal.json_report-requires-clause-threads
json_report-requires-clause-threads c = names_of_sound (view c.args.file.now) c.requires.sound

pub json_report-requires-clause-lines : goal.json_report-requires-clause-lines
json_report-requires-clause-lines c = printed_threads (updating_by means) c.args.file.now c.requires.lawful.0 c.args.journal.now c.requires.sound c.requires.lawful.1

pub json_report-requires-clause-aborts : goal.json_report-requires-clause-aborts
json_report-requires-clause-aborts c = printed_aborts (updating_by means) c.args.file.now c.requires.lawful.0 c.args.journal.now c.requires.sound c.requires.lawful.1

pub json_report-requires-clause-rows : goal.json_report-requires-clause-rows
json_report-requires-clause-rows c =
    lawful_rows (updating_by means) (view c.args.file.now) c.requires.lawful.0 c.args.journal.now c.requires.sound c.requires.lawful.1 c.args.file.now.decls.items refl

pub report-requires-clause-threads : goal.report-requires-clause-threads
report-requires-clause-threads c = names_of_sound (view c.args.file.now) c.requires.sound

pub report-requires-clause-lines : goal.report-requires-clause-lines
report-requires-clause-lines c = printed_threads (updating_by means) c.args.file.now c.requires.lawful.0 c.args.journal.now c.requires.sound c.requires.lawful.1

pub report-requires-clause-aborts : goal.report-requires-clause-aborts
report-requires-clause-aborts c = printed_aborts (updating_by means) c.args.file.now c.requires.lawful.0 c.args.journal.now c.requires.sound c.requires.lawful.1

pub report-requires-clause-rows : goal.report-requires-clause-rows
report-requires-clause-rows c =
    lawful_rows (updating_by means) (view c.args.file.now) c.requires.lawful.0 c.args.journal.now c.requires.sound c.requires.lawful.1 c.args.file.now.decls.items refl

pub returns-then-json-clause-lawful : goal.returns-then-json-clause-lawful
returns-then-json-clause-lawful c = λ tries lawful.
    let made = c.in_ok-json_report.ensures in
    let text = c.in_ok-json_report.field-0.items in
    subst (λ (b : Bool). IsLawfulIn (form_for b) (updating_by means) (view c.args.file.now) tries text) (sym c.if-json.true)
    (lawful_json (updating_by means) (view c.args.file.now) tries c.args.journal.now lawful text made.text made.order made.aborts)

pub returns-then-json-clause-aborts : goal.returns-then-json-clause-aborts
returns-then-json-clause-aborts c =
    subst (λ (b : Bool). aborts_told (form_for b) (view c.args.file.now).names c.in_ok-json_report.field-0.items
    ≡ map (abort (view c.args.file.now).declarations) c.args.journal.now.aborts.items) (sym c.if-json.true) c.in_ok-json_report.ensures.aborts

pub returns-clause-lawful : goal.returns-clause-lawful
returns-clause-lawful c = λ tries lawful.
    let made = c.in_ok-report.ensures in
    let text = c.in_ok-report.field-0.items in
    subst (λ (b : Bool). IsLawfulIn (form_for b) (updating_by means) (view c.args.file.now) tries text) (sym c.if-json.false)
    (lawful_text (updating_by means) (view c.args.file.now) tries c.args.journal.now lawful text made.text made.order made.aborts)

pub returns-clause-aborts : goal.returns-clause-aborts
returns-clause-aborts c =
    subst (λ (b : Bool). aborts_told (form_for b) (view c.args.file.now).names c.in_ok-report.field-0.items
    ≡ map (abort (view c.args.file.now).declarations) c.args.journal.now.aborts.items) (sym c.if-json.false) c.in_ok-report.ensures.aborts

pub returns-then-json-clause-order : goal.returns-then-json-clause-order
returns-then-json-clause-order c =
    subst (λ (b : Bool). order_told (form_for b) (view c.args.file.now).names c.in_ok-json_report.field-0.items ≡ places c.args.journal.now.lines.items) (sym c.if-json.true)
    c.in_ok-json_report.ensures.order

pub returns-clause-order : goal.returns-clause-order
returns-clause-order c =
    subst (λ (b : Bool). order_told (form_for b) (view c.args.file.now).names c.in_ok-report.field-0.items ≡ places c.args.journal.now.lines.items) (sym c.if-json.false)
    c.in_ok-report.ensures.order
