use Rattle.std.specs.Vec.{vec_capacity}
use Rattle.std.proofs.Common.{◌≡◌, ◌≤◌}
use Rattle.sto_type.specs.Traits.{of_type}
use Rattle.sto_library.specs.Tasks.{AreHired}
use Rattle.sto_library.proofs.together.hire_all.Given as goal

abbrev pub invariant-loop-turn : goal.invariant-loop-turn
invariant-loop-turn g l = record {
  same : (l.store.words ≡ l.fn.store.words) × (l.store.shapes ≡ l.fn.store.shapes);
  hired : AreHired (of_type g.T.Naming g.T.TxType) l.fn.store l.store l._turn l.workers.items;
  room : l.many ≤ vec_capacity l.workers;
}
