use Rattle.std.proofs.Common.{map, ap, ◌∙◌, subst}
use Rattle.sto_lang.specs.Views.{file as view}
use Rattle.sto_journal.specs.Journals.{home_pair, entry}
use Rattle.sto_picture.specs.Pictures.{picture_of}
use Rattle.sto_draw.specs.Scenes.{scene_for}
use Rattle.sto_run.specs.Logged.{RunLog, kept}
use Rattle.sto_run.specs.Traced.{IsTraceOf}
use Rattle.sto_draw.proofs.draw_file.Goals as goal

pub returns : goal.returns
returns c =
    let file = view c.args.file.now in
    let run = c.in_ok-journal.field-0 in
    let steps = c.in-Some.steps.items in
    let homes = c.as_slice.ensures.value in
    record {
      journal = run.journal;
      homes = map home_pair run.homes.items;
      steps = steps;
      run =
          subst (λ (log : RunLog). IsTraceOf file c.args.tries run.journal (map home_pair run.homes.items) log) (ap kept c.in-Some.is)
          c.in_ok-journal.ensures.traced;
      drawn =
          c.in_ok-text.ensures
          ∙ (λ i. picture_of (scene_for file.names file.declarations (map home_pair (homes i)) steps (map entry run.journal.lines.items) run.journal.state.items));
      lawful = c.in_ok-journal.ensures.lawful;
      alone = c.in_ok-journal.ensures.alone;
    }
