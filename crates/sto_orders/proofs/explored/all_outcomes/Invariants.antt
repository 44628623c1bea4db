use Rattle.sto_lang.specs.Views.{file as view}
use Rattle.sto_orders.specs.Levels.{AreLevel, AreSeen}
use Rattle.sto_orders.proofs.explored.all_outcomes.Given as goal

abbrev pub invariant-loop-done : goal.invariant-loop-done
invariant-loop-done l = record {
  level : AreLevel l.by (view l.file) l._done l.nodes.items;
  seen : AreSeen l.by (view l.file) l._done l.most l.room;
}
