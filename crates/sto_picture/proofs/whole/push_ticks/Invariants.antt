use Rattle.std.proofs.Common.{◌≡◌, ◌++◌}
use Rattle.sto_picture.specs.Elements.{each_text}
use Rattle.sto_picture.specs.Views.{frame_view}
use Rattle.sto_picture.specs.Pictures.{tick_text}
use Rattle.sto_picture.proofs.whole.push_ticks.Given as goal

abbrev pub invariant-loop-k : goal.invariant-loop-k
invariant-loop-k l = l.out.items ≡ l.initial.out.items ++ each_text (tick_text (frame_view l.frame)) l.k
