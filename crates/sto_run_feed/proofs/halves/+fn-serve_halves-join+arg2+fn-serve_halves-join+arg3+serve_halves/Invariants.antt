use Rattle.std.proofs.Common.{length}
use Rattle.sto_run_feed.proofs.halves.+fn-serve_halves-join+arg2+fn-serve_halves-join+arg3+serve_halves.Given as goal

abbrev pub decreases-join+arg2 : goal.decreases-join+arg2
decreases-join+arg2 g l = length l.servers.items

abbrev pub decreases-join+arg3 : goal.decreases-join+arg3
decreases-join+arg3 g l = length l.others.items

abbrev pub decreases-serve_halves : goal.decreases-serve_halves
decreases-serve_halves g l = length l.servers.items
