use Rattle.std.proofs.Common.{pos}
use Rattle.sto_type.specs.Traits.{of_type}
use Rattle.sto_library.specs.Doings.{HasRunOnly}
use Rattle.sto_example_seats.specs.Evening.{deed}
use Rattle.sto_example_seats.proofs.GuestTask.work.Given as goal

abbrev pub invariant-loop-seat : goal.invariant-loop-seat
invariant-loop-seat g l = HasRunOnly (of_type g.T.Naming g.T.TxType) l.fn.worker l.worker 5 (deed l.fn.self.till l.fn.self.show.hall l.fn.self.show.line l.fn.self.show.price (pos l.fn.self.guest))
