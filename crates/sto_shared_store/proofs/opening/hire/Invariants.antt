use Rattle.std.specs.Prelude.{◌^◌}
use Rattle.std.specs.List.{All}
use Rattle.std.proofs.Common.{◌≡◌, ◌+◌, length}
use Rattle.sto_shared_store.specs.Working.{IsFresh}
use Rattle.sto_shared_store.proofs.opening.hire.Given as goal

abbrev pub invariant-loop-rest : goal.invariant-loop-rest
invariant-loop-rest g l = record {
  fresh : All (λ r. IsFresh (g.T.TxType.meaning l.ty) (g.T.Naming.sizes l.ty) l.shared r.seat) l.rests.items;
  made : All (λ w. IsFresh (g.T.TxType.meaning l.ty) (g.T.Naming.sizes l.ty) l.shared w.rest.seat) l.workers.items;
  left : All (λ w. w.left ≡ 2 ^ 40) l.workers.items;
  many : length l.workers.items + length l.rests.items ≡ length l.fn.rests.items;
}

abbrev pub decreases-loop-rest : goal.decreases-loop-rest
decreases-loop-rest g l = length l.rests.items
