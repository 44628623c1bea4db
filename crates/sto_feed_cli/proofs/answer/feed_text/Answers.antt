use Rattle.std.proofs.Common.{◌∙◌, ap, map}
use Rattle.sto_lang.specs.Views.{file as view}
use Rattle.sto_lang.proofs.SoundFiles.{readable_sound}
use Rattle.sto_console.specs.Journals.{abort}
use Rattle.sto_feed_cli.proofs.answer.feed_text.Goals as goal

pub feed_file-requires-clause-sound : goal.feed_file-requires-clause-sound
feed_file-requires-clause-sound g c = λ κs within. readable_sound c.args.bytes.now (view c.in_ok-file.file) c.in_ok-file.ensures.file

pub report-requires-clause-sound : goal.report-requires-clause-sound
report-requires-clause-sound g c = readable_sound c.args.bytes.now (view c.in_ok-file.file) c.in_ok-file.ensures.file

pub report-requires-clause-lawful : goal.report-requires-clause-lawful
report-requires-clause-lawful g c = (c.args.asked.tries, c.in_ok-journal.ensures.lawful)

pub returns-clause-text : goal.returns-clause-text
returns-clause-text g c =
    let file = view c.in_ok-file.file in
    let journal = c.in_ok-journal.journal in record {
      file = file;
      script = c.in_ok-file.ensures.file;
      lawful = c.in_ok-text.ensures.lawful c.args.asked.tries c.in_ok-journal.ensures.lawful;
      alone = λ one. c.in_ok-text.ensures.aborts ∙ ap (map (abort file.declarations)) (c.in_ok-journal.ensures.alone (c.workers_for-workers.ensures.count ∙ one));
    }
