use Rattle.std.proofs.Common.{◌≡◌, ℕ, suc, ◌<◌, length, Some, slice_get}
use Rattle.sto_lang.specs.Views.{file as view}
use Rattle.sto_orders.specs.declared.level.Node.{Node}
use Rattle.sto_orders.specs.Levels.{AreLevel, AreFound, HasNextBelow}
use Rattle.sto_orders.proofs.level.next_level.Given as goal

abbrev pub invariant-loop-node : goal.invariant-loop-node
invariant-loop-node l = record {
  found : (count : ℕ) → AreLevel l.by (view l.file) count l.nodes → AreFound l.by (view l.file) (suc count) l.found;
  next : (k : ℕ) (p : Node) → k < l.node-index → slice_get l.nodes k ≡ Some p → HasNextBelow l.by (view l.file) l.found p.key (length (view l.file).threads);
}
