use Rattle.std.proofs.Common.{true, false, ◌/◌}
use Rattle.sto_type.specs.Traits.{of_type}
use Rattle.sto_library.proofs.Doings.{run_none, run_more}
use Rattle.sto_example_seats.proofs.GuestTask.work.Goals as goal

pub loop-seat-init : goal.loop-seat-init
loop-seat-init g c = run_none (of_type g.T.Naming g.T.TxType) _ _ _

pub loop-seat-preserved : goal.loop-seat-preserved
loop-seat-preserved g c =
    run_more (of_type g.T.Naming g.T.TxType) (false, c.loop-seat.seat / 3)
    (run_more (of_type g.T.Naming g.T.TxType) (true, c.loop-seat.seat) c.loop-seat.invariant c.run-sold.ensures.given.repeated) c.run-back.ensures.given.repeated

pub returns-clause-gives : goal.returns-clause-gives
returns-clause-gives g c = c.loop-seat.invariant
