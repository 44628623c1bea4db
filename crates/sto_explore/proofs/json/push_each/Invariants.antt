use Rattle.std.proofs.Common.{◌≡◌, ◌∷◌, ◌++◌, flat_map, take}
use Rattle.sto_lang.specs.Views.{file as view}
use Rattle.sto_explore.specs.Texts.{outcome_json}
use Rattle.sto_explore.proofs.json.push_each.Given as goal

abbrev pub invariant-loop-outcome : goal.invariant-loop-outcome
invariant-loop-outcome l = l.out.items ≡ l.initial.out.items ++ flat_map (λ o. 44 ∷ outcome_json (view l.file) o) (take l.outcome-index l.others)
