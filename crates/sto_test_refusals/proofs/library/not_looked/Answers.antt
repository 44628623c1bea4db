use Rattle.sto_test_refusals.proofs.Unrun.{look_not_busy, look_not_done}
use Rattle.sto_test_refusals.proofs.library.not_looked.Goals as goal

pub returns-clause-workers : goal.returns-clause-workers
returns-clause-workers g c = λ old new most p looked some. some looked.0

pub returns-clause-done : goal.returns-clause-done
returns-clause-done g c = λ old new most p d looked none. look_not_done old.views looked.others looked.from looked.were none

pub returns-clause-unrun : goal.returns-clause-unrun
returns-clause-unrun g c = λ old new most p e looked none. look_not_done old.views looked.others looked.from looked.were none

pub returns-clause-busy_after_no_start : goal.returns-clause-busy_after_no_start
returns-clause-busy_after_no_start g c = λ old new most told p last. look_not_busy _ old new most told p last
