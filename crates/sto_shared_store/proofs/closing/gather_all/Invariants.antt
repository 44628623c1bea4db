use Rattle.std.specs.List.{All}
use Rattle.std.proofs.Common.{◌≡◌, ◌+◌, length, map}
use Rattle.sto_shared_store.specs.Working.{IsWorker, gathered_onto}
use Rattle.sto_shared_store.proofs.closing.gather_all.Given as goal

abbrev pub invariant-loop-other : goal.invariant-loop-other
invariant-loop-other g l = record {
  worker : IsWorker (g.T.TxType.meaning l.ty) (g.T.Naming.sizes l.ty) l.shared l.rest.seat;
  others : All (λ w. IsWorker (g.T.TxType.meaning l.ty) (g.T.Naming.sizes l.ty) l.shared w.rest.seat) l.others.items;
  view : gathered_onto (map (λ w. w.rest.seat.me.0.view) l.others.items) l.rest.seat.me.0.view ≡ gathered_onto (map (λ w. w.rest.seat.me.0.view) l.fn.others.items) l.fn.last.rest.seat.me.0.view;
  gathered : l.rest.seat.me.0.view.gathered + length l.others.items ≡ 1 + length l.fn.others.items;
}

abbrev pub decreases-loop-other : goal.decreases-loop-other
decreases-loop-other g l = length l.others.items
