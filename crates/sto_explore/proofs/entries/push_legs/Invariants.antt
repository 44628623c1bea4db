use Rattle.std.proofs.Common.{◌≡◌, ◌++◌, take}
use Rattle.sto_lang.specs.Views.{file as view}
use Rattle.sto_explore.specs.Texts.{legs_text}
use Rattle.sto_explore.proofs.entries.push_legs.Given as goal

abbrev pub invariant-loop-leg : goal.invariant-loop-leg
invariant-loop-leg l = l.out.items ≡ l.initial.out.items ++ legs_text (view l.file) (take l.leg-index l.legs)
