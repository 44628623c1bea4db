use Rattle.std.proofs.Common.{◌≡◌, ◌++◌, codes}
use Rattle.sto_picture.specs.Elements.{each_text, words_text}
use Rattle.sto_picture.specs.Views.{frame_view, bytes_of, text_at}
use Rattle.sto_picture.specs.Places.{value_line}
use Rattle.sto_picture.proofs.whole.push_value_lines.Given as goal

abbrev pub invariant-loop-place : goal.invariant-loop-place
invariant-loop-place l = l.out.items ≡ l.initial.out.items ++ each_text (λ place. words_text (codes "value") 12 (value_line (frame_view l.frame) place) (text_at (bytes_of l.scene.values.items) place)) l.place
