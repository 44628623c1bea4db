-- Objects, kind by kind.
use Rattle.std.specs.Prelude.{List, map}
use Rattle.sto_model.specs.declared.shape.Shape.{Shape}
use Rattle.sto_model.specs.declared.shape.Shape.TheVariants.{Single, Counter, Array, Hash, Tree, Vector}
use Rattle.sto_store.specs.declared.objects.Objects.{Objects}
use Rattle.sto_store.specs.Stores.{AreKinds}

-- the objects are of these shapes
abbrev pub AreOf : Objects → List Shape → Type 0
AreOf x shapes =
    AreKinds (map (λ o. Single o.first) x.store.first)
    (map (λ o. Counter o.first) x.store.second.first)
    (map (λ o. Array o.len o.first) x.store.second.second.kinds.first)
    (map (λ o. Hash o.buckets o.places) x.store.second.second.kinds.second.first)
    (map (λ o. Tree o.leaves) x.store.second.second.kinds.second.second.first)
    (map (λ o. Vector o.capacity) x.store.second.second.kinds.second.second.second)
    shapes
