use Rattle.std.proofs.Common.{◌≡◌, ◌++◌, unwrap_or, slice_get}
use Rattle.sto_picture.specs.Elements.{each_text}
use Rattle.sto_picture.specs.Views.{frame_view, bytes_of, text_at}
use Rattle.sto_picture.specs.Places.{part_top}
use Rattle.sto_picture.specs.Lanes.{lane_text}
use Rattle.sto_picture.proofs.whole.push_parts.Given as goal

abbrev pub invariant-loop-lane : goal.invariant-loop-lane
invariant-loop-lane l = l.out.items ≡ l.initial.out.items ++ each_text (λ lane. lane_text l.width (part_top (frame_view l.frame) lane) (text_at (bytes_of l.scene.parts.items) (unwrap_or (slice_get l.frame.lanes.items lane) 0))) l.lane
