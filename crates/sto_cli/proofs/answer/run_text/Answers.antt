use Rattle.std.proofs.Common.{◌∙◌}
use Rattle.sto_run.specs.Meanings.{updating_by}
use Rattle.sto_run.specs.Stores.{means}
use Rattle.sto_run.specs.Forms.{form_for}
use Rattle.sto_run.proofs.Reports.{one_report}
use Rattle.sto_lang.specs.Views.{file as view}
use Rattle.sto_lang.proofs.SoundFiles.{readable_sound}
use Rattle.sto_cli.proofs.answer.run_text.Goals as goal

pub run_file-requires-clause-sound : goal.run_file-requires-clause-sound
run_file-requires-clause-sound g c = λ κs within. readable_sound c.args.bytes.now (view c.in_ok-file.file) c.in_ok-file.ensures.file

pub report-requires-clause-sound : goal.report-requires-clause-sound
report-requires-clause-sound g c = readable_sound c.args.bytes.now (view c.in_ok-file.file) c.in_ok-file.ensures.file

pub report-requires-clause-lawful : goal.report-requires-clause-lawful
report-requires-clause-lawful g c = (c.args.tries, c.in_ok-journal.ensures.lawful)

pub returns-clause-text : goal.returns-clause-text
returns-clause-text g c =
    let file = view c.in_ok-file.file in
    let journal = c.in_ok-journal.journal in (
      file,
      c.in_ok-file.ensures.file,
      c.in_ok-text.ensures.lawful c.args.tries c.in_ok-journal.ensures.lawful,
      λ one. one_report (form_for c.args.json) (updating_by means) file c.args.tries journal c.in_ok-text.text.items (c.in_ok-journal.ensures.alone (c.workers_for.ensures.count ∙ one))
          (c.in_ok-text.ensures.lawful c.args.tries c.in_ok-journal.ensures.lawful) c.in_ok-text.ensures.order c.in_ok-text.ensures.aborts,
    )
