use Rattle.std.proofs.Common.{◌≡◌, ◌++◌, [], slice_get}
use Rattle.std.specs.Option.{option_map_or}
use Rattle.sto_picture.specs.Elements.{each_text}
use Rattle.sto_picture.specs.Views.{frame_view}
use Rattle.sto_picture.specs.Lanes.{change_text}
use Rattle.sto_picture.proofs.whole.push_changes.Given as goal

abbrev pub invariant-loop-n : goal.invariant-loop-n
invariant-loop-n l = l.out.items ≡ l.initial.out.items ++ each_text (λ n. option_map_or (λ step. change_text (frame_view l.frame) l.scene.steps.items n step.thread step.end) (slice_get l.scene.steps.items n) []) l.n
