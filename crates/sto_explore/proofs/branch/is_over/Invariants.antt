use Rattle.std.proofs.Common.{◌≡◌, drop}
use Rattle.sto_explore.specs.Exploring.{ended}
use Rattle.sto_explore.proofs.branch.is_over.Given as goal

-- the legs that are left say it
abbrev pub invariant-loop-leg : goal.invariant-loop-leg
invariant-loop-leg l = ended (drop l.leg-index l.legs) l.thread ≡ ended l.legs l.thread
