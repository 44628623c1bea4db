-- One more worker was taken in, or none.
use Rattle.std.proofs.Common.{length, length-append, ap, arith}
use Rattle.sto_type.specs.Traits.{of_type}
use Rattle.sto_shared_store.proofs.GatheredOwned.{gathered_more, same_store, rest_still}
use Rattle.sto_shared_store.proofs.owned_store.OwnedStore.gather.Goals as goal

pub loop-place-preserved : goal.loop-place-preserved
loop-place-preserved g c =
    let i = c.loop-place.invariant in
    let e = c.take_in.ensures in
    record {
      owned = e.owned;
      gathered = gathered_more (of_type g.T.Naming g.T.TxType) i.gathered.0 c.args.self.now c.loop-place.self c.take_in.new.self i.gathered.1 e.taken;
      slots = omega (arith, e.slots);
      room = omega (arith, e.room, i.room);
      few = omega (arith, e.one, i.few, c.loop-place-test.true);
    }

pub returns-clause-store : goal.returns-clause-store
returns-clause-store g c = let h = c.loop-place.invariant.gathered in same_store (of_type g.T.Naming g.T.TxType) h.0 c.args.self.now c.loop-place.self h.1

pub returns-clause-idle : goal.returns-clause-idle
returns-clause-idle g c =
    let h = c.loop-place.invariant.gathered in
    let back = rest_still (of_type g.T.Naming g.T.TxType) h.0 c.args.self.now c.loop-place.self h.1 in
    let many = ap length back.1 in
    let long = length-append c.args.self.now.idle.items back.0 in
    omega (arith, many, long)
