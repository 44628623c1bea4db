use Rattle.std.proofs.Common.{ℕ, pos}
use Rattle.sto_type.specs.Traits.{of_type}
use Rattle.sto_library.specs.Doings.{HasRunOnly}
use Rattle.sto_example_calendar.specs.Bookings.{book}
use Rattle.sto_example_calendar.proofs.GuestTask.work.Given as goal

abbrev pub invariant-loop-day : goal.invariant-loop-day
invariant-loop-day g l = HasRunOnly (of_type g.T.Naming g.T.TxType) l.fn.worker l.worker 2 (λ (day : ℕ). book l.fn.self.room (pos day) (pos l.fn.self.guest))
