use Rattle.sto_run.specs.Meanings.{updating_by}
use Rattle.sto_run.specs.Stores.{means}
use Rattle.sto_run.specs.Forms.{form_for}
use Rattle.sto_run.proofs.Reports.{one_report}
use Rattle.sto_lang.specs.Views.{file as view}
use Rattle.sto_cli.proofs.answer.step_text.Goals as goal

pub step_file-requires-clause-sound : goal.step_file-requires-clause-sound
step_file-requires-clause-sound c = c.in_ok-file.ensures.sound

pub report-requires-clause-sound : goal.report-requires-clause-sound
report-requires-clause-sound c = c.in_ok-file.ensures.sound

pub report-requires-clause-lawful : goal.report-requires-clause-lawful
report-requires-clause-lawful c = (c.args.tries, c.in_ok-journal.ensures.lawful)

pub returns-clause-text : goal.returns-clause-text
returns-clause-text c =
    let file = view c.in_ok-file.file in
    let journal = c.in_ok-journal.journal in
    let lawful = c.in_ok-text.ensures.lawful c.args.tries c.in_ok-journal.ensures.lawful in (
      file,
      c.in_ok-file.ensures.file,
      record {
        objects = c.in_ok-journal.ensures.stepped.objects;
        kinds = c.in_ok-journal.ensures.stepped.kinds;
        journal = journal;
        run = c.in_ok-journal.ensures.stepped.run;
        report = record { lawful = lawful; order = c.in_ok-text.ensures.order; aborts = c.in_ok-text.ensures.aborts };
        alone = λ least. one_report (form_for c.args.json) (updating_by means) file c.args.tries journal c.in_ok-text.text.items (c.in_ok-journal.ensures.alone least)
            lawful c.in_ok-text.ensures.order c.in_ok-text.ensures.aborts;
      },
    )
