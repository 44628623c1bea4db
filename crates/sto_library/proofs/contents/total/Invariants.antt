use Rattle.std.proofs.Common.{◌≡◌, take}
use Rattle.sto_library.specs.Contents.{total}
use Rattle.sto_library.proofs.contents.total.Given as goal

abbrev pub invariant-loop-place : goal.invariant-loop-place
invariant-loop-place l = l.total ≡ total (take l.place l.rows.items)
