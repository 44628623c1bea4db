use Rattle.std.proofs.Common.{◌≡◌, ℕ, refl, map, ap, ◌∙◌, subst}
use Rattle.std.proofs.lemmas.List.{length-map}
use Rattle.std.proofs.lemmas.Result.{IfOk-weaker}
use Rattle.sto_lang.specs.declared.file.Thread.{Thread}
use Rattle.sto_lang.specs.Views.{file as view, script}
use Rattle.sto_journal.specs.Journals.{home_pair, entry, HaveThreads}
use Rattle.sto_picture.specs.Pictures.{picture_of}
use Rattle.sto_picture.specs.Views.{scene_view}
use Rattle.sto_draw.specs.Scenes.{scene_for}
use Rattle.sto_run.specs.Meanings.{updating_by}
use Rattle.sto_run.specs.Stores.{means}
use Rattle.sto_run.proofs.Printed.{names_of_sound, lawful_rows, lawful_threads}
use Rattle.sto_draw.proofs.draw_run.Goals as goal

pub scene_of-requires-clause-rows : goal.scene_of-requires-clause-rows
scene_of-requires-clause-rows c =
    lawful_rows (updating_by means) (view c.args.file.now) c.requires.lawful.0 c.args.journal.now c.requires.sound c.requires.lawful.1 c.args.file.now.decls.items refl

pub scene_of-requires-clause-threads : goal.scene_of-requires-clause-threads
scene_of-requires-clause-threads c = names_of_sound (view c.args.file.now) c.requires.sound

pub scene_of-requires-clause-lines : goal.scene_of-requires-clause-lines
scene_of-requires-clause-lines c =
    let threads = c.args.file.now.threads.items in
    subst (λ (n : ℕ). HaveThreads n c.args.journal.now.lines.items) (length-map threads (λ (thread : Thread). map script thread.scripts.items))
    (lawful_threads (updating_by means) (view c.args.file.now) c.requires.lawful.0 c.args.journal.now c.requires.sound c.requires.lawful.1)

pub returns : goal.returns
returns c =
    IfOk-weaker c.picture.result
    (λ text. text.items ≡ picture_of (scene_view c.in_ok-scene.scene))
    (λ text. text.items ≡ picture_of (scene_for (view c.args.file.now).names (view c.args.file.now).declarations (map home_pair c.args.homes.now) c.args.steps.items (map entry c.args.journal.now.lines.items) c.args.journal.now.state.items))
    (λ text is. is ∙ ap picture_of c.in_ok-scene.ensures)
    c.picture.ensures.text
