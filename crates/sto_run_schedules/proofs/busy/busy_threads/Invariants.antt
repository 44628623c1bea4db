use Rattle.std.proofs.Common.{◌≡◌, ◌++◌, drop}
use Rattle.sto_lang.specs.Views.{file as view}
use Rattle.sto_run_schedules.specs.Telling.{busy_from, busy_threads}
use Rattle.sto_run_schedules.proofs.busy.busy_threads.Given as goal

abbrev pub invariant-loop-number : goal.invariant-loop-number
invariant-loop-number l = l.busy.items ++ busy_from l.number (drop l.number (view l.file).threads) ≡ busy_threads (view l.file)
