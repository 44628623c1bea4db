-- What is no gathering of workers that came back: one that loses a worker, and one in which a worker has forgotten a commit.
use Rattle.std.proofs.Common.{◌≡◌, ◌+◌, ℕ, length, length-append, ap, arith}
use Rattle.sto_part.specs.declared.naming.Naming as naming
use Rattle.sto_type.specs.Traits.{OfType}
use Rattle.sto_core.specs.declared.view.Entry.{Entry}
use Rattle.sto_core.specs.declared.view.Fate.TheVariants.{Committed}
use Rattle.sto_core.specs.Lists.{Among}
use Rattle.sto_shared_store.specs.declared.owned_store.OwnedStore.{OwnedStore}
use Rattle.sto_shared_store.specs.Owned.{view_at}
use Rattle.sto_shared_store.specs.Endings.{HasTakenIn, HasGathered}
use Rattle.sto_shared_store.proofs.GatheredOwned.{rest_still, slots_left}

module _ {T : Type 0} {n : naming.Ghosts T} (t : OfType T) (x y : OwnedStore T n) where
  -- some worker is neither at rest nor out
  pub no_worker_is_lost : (many : ℕ) → HasGathered t many x y → (length y.idle.items + length y.slots.items ≡ length x.idle.items + length x.slots.items → ⊥) → ⊥
  no_worker_is_lost many h lost =
      let back = rest_still t many x y h in
      let rest = ap length back.1 in
      let long = length-append x.idle.items back.0 in
      let all = back.2 in
      let out = slots_left t many x y h in
      lost (omega (arith, rest, long, all, out))

  -- the worker that came back does not tell of what it had committed when it was given out
  pub no_commit_is_forgotten : (h : HasTakenIn t x y) (e : Entry) → Among e (view_at h.slot).entries → e.fate ≡ Committed → (Among e h.worker.rest.seat.me.0.view.entries → ⊥) → ⊥
  no_commit_is_forgotten h e there committed forgotten = forgotten (h.back.grows.entries e there committed)
