use Rattle.std.proofs.Common.{◌≡◌, ◌++◌, [], slice_get}
use Rattle.std.specs.Option.{option_map_or}
use Rattle.sto_picture.specs.Elements.{each_text}
use Rattle.sto_picture.specs.Views.{scene_view, frame_view}
use Rattle.sto_picture.specs.Attempts.{end_words, sign_text}
use Rattle.sto_picture.proofs.whole.push_signs.Given as goal

abbrev pub invariant-loop-n : goal.invariant-loop-n
invariant-loop-n l = l.out.items ≡ l.initial.out.items ++ each_text (λ n. option_map_or (λ step. sign_text (frame_view l.frame) n step ++ end_words (scene_view l.scene) (frame_view l.frame) n step step.end) (slice_get l.scene.steps.items n) []) l.n
