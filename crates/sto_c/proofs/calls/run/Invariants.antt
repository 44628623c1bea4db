-- So many tries were aborted.
use Rattle.std.proofs.Common.{◌≡◌, length, drop}
use Rattle.sto_c.specs.Content.{IsWorker}
use Rattle.sto_c.specs.Steps.{IsOfSameStore}
use Rattle.sto_c.specs.Whole.{HaveAborted}
use Rattle.sto_c.proofs.calls.run.Given as goal

abbrev pub invariant-loop-aborted : goal.invariant-loop-aborted
invariant-loop-aborted l = record {
  worker : IsWorker l.held;
  store : IsOfSameStore l.fn.held l.held;
  long : length l.replies ≡ length l.fn.replies;
  aborted : HaveAborted l.aborted l.calls l.fn.held l.held;
  behind : drop (length l.calls) l.replies ≡ drop (length l.calls) l.fn.replies;
  place : l.place ≡ l.fn.place;
}
