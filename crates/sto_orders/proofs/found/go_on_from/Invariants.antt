use Rattle.std.proofs.Common.{ℕ, suc}
use Rattle.sto_lang.specs.Views.{file as view}
use Rattle.sto_orders.specs.Ways.{AreWays}
use Rattle.sto_orders.specs.Levels.{AreFound, Keeps, HasNextBelow}
use Rattle.sto_orders.proofs.found.go_on_from.Given as goal

abbrev pub invariant-loop-thread : goal.invariant-loop-thread
invariant-loop-thread l = record {
  found : (count : ℕ) → AreWays l.by (view l.file) count l.node.key l.node.ways → AreFound l.by (view l.file) (suc count) l.fn.found → AreFound l.by (view l.file) (suc count) l.found;
  keeps : Keeps l.by (view l.file) l.fn.found l.found;
  next : HasNextBelow l.by (view l.file) l.found l.node.key l.thread;
}
