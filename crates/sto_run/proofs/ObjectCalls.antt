-- The calls of a file are calls that its objects take: nothing above names the kinds.
use Rattle.std.proofs.Common.{◌≡◌}
use Rattle.sto_model.specs.declared.shape.Shape.TheVariants.{Single, Counter, Array, Hash, Tree, Vector}
use Rattle.sto_lang.specs.Objects.{shapes_of}
use Rattle.sto_lang.specs.Scripts.{File}
use Rattle.sto_store.specs.declared.objects.Objects.{Objects}
use Rattle.sto_store.specs.ObjectShapes.{AreOf}
use Rattle.sto_store.proofs.ObjectMeanings.{meaning_of}
use Rattle.sto_run_threads.specs.Taken.{IsTaken}
use Rattle.sto_run.specs.Runnable.{AreRunnable}
use Rattle.sto_run.proofs.Asking.{store_takes}
use Rattle.sto_run.proofs.Sound.{sound_in_order}

-- they take each call that a transaction of the file may ask
pub objects_take : (x : Objects) (file : File) → AreOf x (shapes_of file.declarations) → AreRunnable file → IsTaken file (meaning_of x)
objects_take x file kinds runnable = record {
  weighed = λ place script at. (runnable place script at).weighed;
  takes = λ place script at call asks.
      store_takes (λ o. Single o.first) (λ o. Counter o.first) (λ o. Array o.len o.first) (λ o. Hash o.buckets o.places) (λ o. Tree o.leaves) (λ o. Vector o.capacity)
      x.store.first x.store.second.first x.store.second.second.kinds.first x.store.second.second.kinds.second.first
      x.store.second.second.kinds.second.second.first x.store.second.second.kinds.second.second.second (shapes_of file.declarations)
      (sound_in_order file) kinds script.body (runnable place script at).taken call asks;
}
