use Rattle.std.proofs.Common.{◌≡◌, ◌++◌, flat_map, take}
use Rattle.std.specs.List.{enumerate_from}
use Rattle.sto_lang.specs.Views.{file as view}
use Rattle.sto_run_orders.specs.Texts.{report_text}
use Rattle.sto_run_orders.proofs.text.push_each.Given as goal

abbrev pub invariant-loop-place : goal.invariant-loop-place
invariant-loop-place l = l.out.items ≡ l.initial.out.items ++ flat_map (report_text (view l.file)) (enumerate_from 1 (take l.place l.reports))
