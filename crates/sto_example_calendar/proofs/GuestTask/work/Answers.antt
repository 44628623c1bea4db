use Rattle.sto_type.specs.Traits.{of_type}
use Rattle.sto_library.proofs.Doings.{run_none, run_more}
use Rattle.sto_example_calendar.proofs.GuestTask.work.Goals as goal

pub loop-day-init : goal.loop-day-init
loop-day-init g c = run_none (of_type g.T.Naming g.T.TxType) _ _ _

pub loop-day-preserved : goal.loop-day-preserved
loop-day-preserved g c = run_more (of_type g.T.Naming g.T.TxType) c.loop-day.day c.loop-day.invariant c.run-told.ensures.given.repeated

pub returns-clause-gives : goal.returns-clause-gives
returns-clause-gives g c = c.loop-day.invariant
