use Rattle.std.proofs.Common.{◌≡◌, map, take}
use Rattle.sto_run.proofs.whole.homes_of.Given as goal

abbrev pub invariant-loop-part : goal.invariant-loop-part
invariant-loop-part g l = map (λ h. (h.object, h.local)) l.homes.items ≡ take l.part (g.T.TxType.meaning l.ty).homes
