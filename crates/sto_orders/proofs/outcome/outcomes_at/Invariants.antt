use Rattle.std.proofs.Common.{◌≡◌, ℕ, take}
use Rattle.sto_lang.specs.Views.{file as view}
use Rattle.sto_orders.specs.Levels.{AreLevel, AreOutcomesAt}
use Rattle.sto_orders.proofs.outcome.outcomes_at.Given as goal

abbrev pub invariant-loop-node : goal.invariant-loop-node
invariant-loop-node l = (count : ℕ) → AreLevel l.by (view l.file) count l.nodes → AreOutcomesAt l.by (view l.file) count (take l.node-index l.nodes) l.outcomes.items
