use Rattle.std.proofs.Common.{arith}
use Rattle.sto_test_refusals.proofs.Untold.{as_many, own_answer, all_back}
use Rattle.sto_test_refusals.proofs.library.not_done.Goals as goal

pub returns-clause-answers : goal.returns-clause-answers
returns-clause-answers g c = λ old new tasks outs done other. other (as_many done)

pub returns-clause-other_answer : goal.returns-clause-other_answer
returns-clause-other_answer g c = λ old new task out done never. own_answer done never

pub returns-clause-lost_worker : goal.returns-clause-lost_worker
returns-clause-lost_worker g c = λ old new tasks outs done lost. lost (all_back done)

pub returns-clause-no_worker : goal.returns-clause-no_worker
returns-clause-no_worker g c = λ old new many failed enough. let few = failed.0 in absurd (omega (arith, few, enough))
