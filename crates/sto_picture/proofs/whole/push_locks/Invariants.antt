use Rattle.std.proofs.Common.{◌≡◌, ◌++◌, [], slice_get}
use Rattle.std.specs.Option.{option_map_or}
use Rattle.sto_picture.specs.Elements.{each_text}
use Rattle.sto_picture.specs.Views.{frame_view}
use Rattle.sto_picture.specs.Told.{freed_part}
use Rattle.sto_picture.specs.Lanes.{lock_text}
use Rattle.sto_picture.proofs.whole.push_locks.Given as goal

abbrev pub invariant-loop-n : goal.invariant-loop-n
invariant-loop-n l = l.out.items ≡ l.initial.out.items ++ each_text (λ n. option_map_or (λ step. lock_text (frame_view l.frame) l.scene.steps.items n step.thread (freed_part step.deed)) (slice_get l.scene.steps.items n) []) l.n
