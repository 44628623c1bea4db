use Rattle.sto_test_refusals.proofs.Closings.{added_rows, no_opening_rows, no_opening_history}
use Rattle.sto_test_refusals.proofs.TwoWorkers.{no_lost_commit}
use Rattle.sto_test_refusals.proofs.library.not_closed.Goals as goal

pub returns-clause-opening_rows : goal.returns-clause-opening_rows
returns-clause-opening_rows g c = no_opening_rows

pub returns-clause-opening_history : goal.returns-clause-opening_history
returns-clause-opening_history g c = no_opening_history

pub returns-clause-other_rows : goal.returns-clause-other_rows
returns-clause-other_rows g c = λ rows after other. other (added_rows rows after)

pub returns-clause-lost_commit : goal.returns-clause-lost_commit
returns-clause-lost_commit g c = no_lost_commit

pub returns-clause-missing : goal.returns-clause-missing
returns-clause-missing g c = λ s store back all. back.1 all
