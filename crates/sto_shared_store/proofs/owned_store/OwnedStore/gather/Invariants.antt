-- The slots that are left, and the room for their workers.
use Rattle.std.proofs.Common.{◌≤◌, ◌<◌, ◌+◌, ◌^◌, ℕ, length}
use Rattle.sto_type.specs.Traits.{of_type}
use Rattle.sto_shared_store.specs.Owned.{IsOwnedStore}
use Rattle.sto_shared_store.specs.Endings.{HasGathered}
use Rattle.sto_shared_store.proofs.owned_store.OwnedStore.gather.Given as goal

abbrev pub invariant-loop-place : goal.invariant-loop-place
invariant-loop-place g l = record {
  owned : IsOwnedStore (of_type g.T.Naming g.T.TxType) l.self;
  gathered : (many : ℕ) × HasGathered (of_type g.T.Naming g.T.TxType) many l.fn.self l.self;
  slots : l.place ≤ length l.self.slots.items;
  room : l.place ≤ l.self.idle.spare;
  few : length l.self.idle.items + l.place < 2 ^ 32;
}

abbrev pub decreases-loop-place : goal.decreases-loop-place
decreases-loop-place g l = l.place
