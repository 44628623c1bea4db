use Rattle.std.proofs.Common.{◌≡◌, take}
use Rattle.sto_type.specs.Numbered.{numbered}
use Rattle.sto_type.proofs.words.rows_of.Given as goal

abbrev pub invariant-loop-place : goal.invariant-loop-place
invariant-loop-place l = l.rows.items ≡ numbered 0 (take l.place l.words)
