use Rattle.std.proofs.Common.{◌+◌, ◌*◌, length}
use Rattle.sto_library.proofs.together.+halves.Given as goal

abbrev pub decreases-work_all : goal.decreases-work_all
decreases-work_all g l = 2 * length l.workers.items

abbrev pub decreases-front : goal.decreases-front
decreases-front g l = 2 * length l.workers.items + 1

abbrev pub decreases-back : goal.decreases-back
decreases-back g l = 2 * length l.others.items + 1
