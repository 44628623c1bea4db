use Rattle.std.proofs.Common.{◌≡◌, ◌++◌, flat_map, take}
use Rattle.std.specs.List.{enumerate_from}
use Rattle.sto_lang.specs.Views.{file as view}
use Rattle.sto_explore.specs.Texts.{outcome_text}
use Rattle.sto_explore.proofs.text.push_each.Given as goal

abbrev pub invariant-loop-place : goal.invariant-loop-place
invariant-loop-place l = l.out.items ≡ l.initial.out.items ++ flat_map (outcome_text (view l.file)) (enumerate_from 1 (take l.place l.outcomes))
