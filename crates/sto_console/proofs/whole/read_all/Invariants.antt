use Rattle.std.proofs.Common.{length, ◌-◌, ◌≡◌, ◌≤◌}
use Rattle.sto_console.specs.Told.{Takes}
use Rattle.sto_console.proofs.whole.read_all.Given as goal

abbrev pub invariant-loop-buf : goal.invariant-loop-buf
invariant-loop-buf g l = (length l.bytes.items ≤ l.most)
    × Takes (g.S.Source.left l.initial.source) (g.S.Source.left l.source) l.bytes.items
    × (g.S.Source.faults l.source ≡ g.S.Source.faults l.initial.source)

abbrev pub decreases-loop-buf : goal.decreases-loop-buf
decreases-loop-buf g l = l.most - length l.bytes.items
