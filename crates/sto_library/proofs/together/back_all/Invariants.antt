use Rattle.std.specs.List.{All}
use Rattle.std.proofs.Common.{◌≡◌, ◌++◌, length, reverse}
use Rattle.sto_type.specs.Traits.{of_type}
use Rattle.sto_library.specs.Values.{Serves}
use Rattle.sto_library.specs.Tasks.{views_of}
use Rattle.sto_library.proofs.together.back_all.Given as goal

abbrev pub invariant-loop-worker : goal.invariant-loop-worker
invariant-loop-worker g l = record {
  same : (l.store.words ≡ l.fn.store.words) × (l.store.shapes ≡ l.fn.store.shapes);
  serve : All (λ w. Serves (of_type g.T.Naming g.T.TxType) l.fn.store.words w.rest.seat) l.workers.items;
  more : l.store.views ++ reverse (views_of l.workers.items) ≡ l.fn.store.views ++ reverse (views_of l.fn.workers.items);
}

abbrev pub decreases-loop-worker : goal.decreases-loop-worker
decreases-loop-worker g l = length l.workers.items
