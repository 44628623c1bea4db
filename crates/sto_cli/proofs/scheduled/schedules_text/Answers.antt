use Rattle.sto_lang.specs.Views.{file as view}
use Rattle.sto_run.specs.Forms.{form_for}
use Rattle.sto_cli.proofs.Printed.{printed}
use Rattle.sto_cli.proofs.scheduled.schedules_text.Goals as goal

pub outcomes_of-requires-clause-sound : goal.outcomes_of-requires-clause-sound
outcomes_of-requires-clause-sound g c = c.in_ok-file.ensures.sound

pub returns-clause-text : goal.returns-clause-text
returns-clause-text g c =
    let file = view c.in_ok-file.file in
    let outcomes = c.in_ok-outcomes.outcomes in (
      file,
      c.in_ok-file.ensures.file,
      record {
        outcomes = outcomes;
        of_file = c.in_ok-outcomes.ensures.outcomes;
        few = c.in_ok-outcomes.ensures.few;
        reports = printed (form_for c.args.json) file c.args.tries outcomes.each.items c.in_ok-outcomes.ensures.reports;
        told = c.in_ok-text.ensures;
      },
    )
