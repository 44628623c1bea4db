use Rattle.std.proofs.Common.{◌≡◌, ◌∷◌, ◌++◌, flat_map, take}
use Rattle.sto_lang.specs.Views.{file as view}
use Rattle.sto_run_orders.specs.Texts.{report_json}
use Rattle.sto_run_orders.proofs.json.push_each.Given as goal

abbrev pub invariant-loop-report : goal.invariant-loop-report
invariant-loop-report l = l.out.items ≡ l.initial.out.items ++ flat_map (λ r. 44 ∷ report_json (view l.file) r) (take l.report-index l.others)
