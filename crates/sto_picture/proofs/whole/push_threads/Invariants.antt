use Rattle.std.proofs.Common.{◌≡◌, ◌++◌}
use Rattle.sto_picture.specs.Elements.{each_text}
use Rattle.sto_picture.specs.Views.{bytes_of, text_at}
use Rattle.sto_picture.specs.Places.{thread_top}
use Rattle.sto_picture.specs.Lanes.{lane_text}
use Rattle.sto_picture.proofs.whole.push_threads.Given as goal

abbrev pub invariant-loop-thread : goal.invariant-loop-thread
invariant-loop-thread l = l.out.items ≡ l.initial.out.items ++ each_text (λ thread. lane_text l.width (thread_top thread) (text_at (bytes_of l.scene.threads.items) thread)) l.thread
