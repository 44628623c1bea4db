-- So many pairs were found, and stand at the front.
use Rattle.std.proofs.Common.{◌≡◌, length, take, drop, Some}
use Rattle.sto_c.specs.Content.{IsWorker}
use Rattle.sto_c.specs.Steps.{IsOfSameStore}
use Rattle.sto_c.specs.Walks.{HaveFound}
use Rattle.sto_c.proofs.walking.walk_on.Given as goal

abbrev pub invariant-loop-place : goal.invariant-loop-place
invariant-loop-place l = record {
  worker : IsWorker l.held;
  store : IsOfSameStore l.fn.held l.held;
  long : length l.pairs ≡ length l.fn.pairs;
  found : HaveFound l.object (Some l.from) (take l.place l.pairs) l.next l.fn.held l.held;
  behind : drop l.place l.pairs ≡ drop l.place l.fn.pairs;
  count : l.count ≡ l.fn.count;
}
