-- Objects of some shapes mean what their shapes mean.
use Rattle.std.specs.Prelude.{map}
use Rattle.std.proofs.Common.{◌≡◌, List}
use Rattle.sto_model.specs.declared.shape.Shape.{Shape}
use Rattle.sto_model.specs.declared.shape.Shape.TheVariants.{Single, Counter, Array, Hash, Tree, Vector}
use Rattle.sto_type.specs.Meaning.{Meaning}
use Rattle.sto_type.specs.Joined.{joined, all_joined}
use Rattle.sto_store.specs.declared.objects.Objects.{Objects}
use Rattle.sto_store.specs.Stores.{mean_of, means}
use Rattle.sto_store.specs.StoresLaw.{means_is}
use Rattle.sto_store.specs.ObjectShapes.{AreOf}

-- what the objects mean
abbrev pub meaning_of : Objects → Meaning
meaning_of x =
    joined (all_joined (map (λ o. mean_of (Single o.first)) x.store.first))
    (joined (all_joined (map (λ o. mean_of (Counter o.first)) x.store.second.first))
    (joined (all_joined (map (λ o. mean_of (Array o.len o.first)) x.store.second.second.kinds.first))
    (joined (all_joined (map (λ o. mean_of (Hash o.buckets o.places)) x.store.second.second.kinds.second.first))
    (joined (all_joined (map (λ o. mean_of (Tree o.leaves)) x.store.second.second.kinds.second.second.first))
    (all_joined (map (λ o. mean_of (Vector o.capacity)) x.store.second.second.kinds.second.second.second))))))

-- it is what their shapes mean
pub objects_mean : (x : Objects) (shapes : List Shape) → AreOf x shapes → meaning_of x ≡ means shapes
objects_mean x shapes kinds =
    means_is (λ o. Single o.first) (λ o. Counter o.first) (λ o. Array o.len o.first) (λ o. Hash o.buckets o.places) (λ o. Tree o.leaves) (λ o. Vector o.capacity)
    x.store.first x.store.second.first x.store.second.second.kinds.first x.store.second.second.kinds.second.first
    x.store.second.second.kinds.second.second.first x.store.second.second.kinds.second.second.second shapes kinds
