use Rattle.std.proofs.Common.{length}
use Rattle.sto_check_cli.proofs.Dividing.{IsPassed}
use Rattle.sto_check_cli.proofs.divide.divide.Given as goal

abbrev pub invariant-loop-line : goal.invariant-loop-line
invariant-loop-line l = IsPassed l.bytes l.before l.rest

abbrev pub decreases-loop-line : goal.decreases-loop-line
decreases-loop-line l = length l.rest
