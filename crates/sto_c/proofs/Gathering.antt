-- A store to which workers came back.
use Rattle.std.proofs.Common.{length, length-append, refl, ap, arith}
use Rattle.sto_shared_store.proofs.GatheredOwned.{rest_still, same_store}
use Rattle.sto_c.specs.declared.content.StoreHandle.{StoreHandle}
use Rattle.sto_c.specs.Content.{objects}
use Rattle.sto_c.specs.Stores.{IsSameStore, IsGathered}

-- it is the same one
pub is_same : (h k : StoreHandle) → IsGathered h k → IsSameStore 0 h k
is_same h k g =
    let back = rest_still objects g.1.0 h.store k.store g.1.1 in
    let many = ap length back.1 in
    let long = length-append h.store.idle.items back.0 in
    (same_store objects g.1.0 h.store k.store g.1.1, g.0, omega (arith, many, long))

-- none came back
pub none_back : (h : StoreHandle) → IsGathered h h
none_back h = (refl, (0, (refl, refl, refl)))
