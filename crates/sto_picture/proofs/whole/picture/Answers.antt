use Rattle.std.proofs.Common.{ℕ, List, ◌++◌, ap, ◌∙◌}
use Rattle.sto_picture.specs.Views.{scene_view, frame_view}
use Rattle.sto_picture.specs.Pictures.{drawn}
use Rattle.sto_picture.proofs.Arrows.{arrows_are}
use Rattle.sto_picture.proofs.whole.picture.Goals as goal

pub returns-clause-text : goal.returns-clause-text
returns-clause-text c =
    c.in_ok-push_picture.ensures
    ∙ ap (λ (begun : List ℕ). begun ++ drawn (scene_view c.args.scene.now) (frame_view c.in_ok-frame.frame)) c.new-out.ensures
    ∙ ap (drawn (scene_view c.args.scene.now)) c.in_ok-frame.ensures

pub returns-clause-arrows : goal.returns-clause-arrows
returns-clause-arrows c = arrows_are c.args.scene.now.steps.items

pub returns-in_err-frame-clause-arrows : goal.returns-in_err-frame-clause-arrows
returns-in_err-frame-clause-arrows c = arrows_are c.args.scene.now.steps.items

pub returns-in_err-push_picture-clause-arrows : goal.returns-in_err-push_picture-clause-arrows
returns-in_err-push_picture-clause-arrows c = arrows_are c.args.scene.now.steps.items
