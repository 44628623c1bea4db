-- So many calls were asked, and their replies stand at the front.
use Rattle.std.proofs.Common.{◌≡◌, length, take, drop}
use Rattle.sto_c.specs.Content.{IsWorker}
use Rattle.sto_c.specs.Steps.{IsOfSameStore}
use Rattle.sto_c.specs.Whole.{HaveAsked}
use Rattle.sto_c.proofs.calls.ask_all.Given as goal

abbrev pub invariant-loop-at : goal.invariant-loop-at
invariant-loop-at l = record {
  worker : IsWorker l.held;
  store : IsOfSameStore l.fn.held l.held;
  long : length l.replies ≡ length l.fn.replies;
  asked : HaveAsked (take l.at l.calls) (take l.at l.replies) l.fn.held l.held;
  behind : drop (length l.calls) l.replies ≡ drop (length l.calls) l.fn.replies;
}
