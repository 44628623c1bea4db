use Rattle.std.proofs.Common.{length}
use Rattle.sto_run_threads.proofs.halves.+fn-work_halves-join+arg2+fn-work_halves-join+arg3+work_halves.Given as goal

abbrev pub decreases-join+arg2 : goal.decreases-join+arg2
decreases-join+arg2 g l = length l.workers.items

abbrev pub decreases-join+arg3 : goal.decreases-join+arg3
decreases-join+arg3 g l = length l.others.items

abbrev pub decreases-work_halves : goal.decreases-work_halves
decreases-work_halves g l = length l.workers.items
