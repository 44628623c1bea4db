use Rattle.std.proofs.Common.{arith, inl, inr}
use Rattle.sto_run_threads.proofs.Claiming.{count_case}
use Rattle.sto_run_feed.proofs.order.longest.Goals as goal

pub returns : goal.returns
returns g c = λ thread. elim (count_case (g.W.Work.plan c.args.work.now).file.threads thread) [
  | inl low ↦ (let end = c.threads-thread-end.ensures in let far = c.loop-thread-test.false in c.loop-thread.invariant.each thread (omega (arith, low, far, end)))
  | inr none ↦ omega (arith, none)
]
