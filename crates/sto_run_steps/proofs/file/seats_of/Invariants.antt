use Rattle.std.proofs.Common.{◌≡◌, length}
use Rattle.sto_run_steps.specs.Seated.{AreNew}
use Rattle.sto_run_steps.proofs.file.seats_of.Given as goal

abbrev pub invariant-loop-thread : goal.invariant-loop-thread
invariant-loop-thread g l = record {
  many : length l.seats.items ≡ l.thread;
  begun : AreNew (g.W.Work.plan l.work) l.seats.items;
}
