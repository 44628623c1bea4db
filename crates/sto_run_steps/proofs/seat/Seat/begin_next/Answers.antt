use Rattle.std.proofs.Common.{arith}
use Rattle.sto_run_threads.proofs.Scripts.{transaction_there}
use Rattle.sto_run_steps.proofs.Seats.{goes_on}
use Rattle.sto_run_steps.proofs.seat.Seat.begin_next.Goals as goal

pub begin-requires-clause-there : goal.begin-requires-clause-there
begin-requires-clause-there g c =
    let s = c.args.self.now in
    let next = (goes_on s.ended s.count s.left c.requires.going c.requires.within).0 in
    let counted = c.requires.counted in
    transaction_there (g.W.Work.plan c.args.work.now).file c.args.thread s.ended (omega (arith, next, counted))
