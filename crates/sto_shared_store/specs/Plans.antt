-- What may be planned: objects in the order of their kinds, each with room for what it is to hold, of parts whose numbers are in u32.
use Rattle.std.specs.Prelude.{◌≡◌, ◌<◌, ◌≤◌, ◌+◌, ◌*◌, ◌^◌, ℕ, max, nat_lt, Bool, true, false, ◌&&◌, ◌⊎◌, List, [], ◌∷◌, ◌++◌, length, sum_by}
use Rattle.sto_model.specs.declared.shape.Shape.{Shape}
use Rattle.sto_model.specs.declared.shape.Shape.TheVariants.{Single, Counter, Array, Hash, Tree, Vector}
use Rattle.sto_model.specs.Sizes.{part_count, rank}
use Rattle.sto_store.specs.Stores.{AreFit, AreInOrder}
use Rattle.sto_shared_store.specs.declared.plan_error.PlanError.{PlanError}
use Rattle.sto_shared_store.specs.declared.plan_error.PlanError.TheVariants.{OutOfOrder, NoRoom, TooMany, NoMemory}

-- the shapes of a store that can be opened
pub record IsPlan (shapes : List Shape) : Type 0 where
  pub order : AreInOrder shapes
  pub fit : AreFit shapes
  pub parts : sum_by part_count shapes < 2 ^ 32

-- the last kind that was planned, by its number
abbrev pub last_rank : List Shape → ℕ
last_rank [] = 0
last_rank (s ∷ ss) = max (rank s) (last_rank ss)

-- the parts and the words of one object are in u32, a hash table has a bucket, and a tree a leaf
abbrev pub has_room : Shape → Bool
has_room (Single v) = true
has_room (Counter v) = true
has_room (Array len v) = true
has_room (Hash buckets places) = nat_lt 0 buckets && (nat_lt (buckets * (1 + places)) (2 ^ 32) && nat_lt (2 * places) (2 ^ 32))
has_room (Tree leaves) = nat_lt 0 leaves && nat_lt (2 + 9 * leaves) (2 ^ 32)
has_room (Vector capacity) = nat_lt (1 + capacity) (2 ^ 32)

-- an object of a shape breaks no rule after these
pub record CanStand (shapes : List Shape) (shape : Shape) : Type 0 where
  pub order : last_rank shapes ≤ rank shape
  pub room : has_room shape ≡ true
  pub parts : sum_by part_count shapes + part_count shape < 2 ^ 32
  pub few : length shapes + 1 < 2 ^ 32

-- each of these shapes does so after those before it, the first of which are given
abbrev pub AllStand : List Shape → List Shape → Type 0
AllStand before [] = Unit {0}
AllStand before (s ∷ ss) = CanStand before s × AllStand (before ++ s ∷ []) ss

-- why an object of a shape cannot be planned after these
abbrev pub IsReason : PlanError → List Shape → Shape → Type 0
IsReason OutOfOrder shapes shape = rank shape < last_rank shapes
IsReason NoRoom shapes shape = has_room shape ≡ false
IsReason TooMany shapes shape = (2 ^ 32 ≤ sum_by part_count shapes + part_count shape) ⊎ (2 ^ 32 ≤ length shapes + 1)
IsReason NoMemory shapes shape = Unit {0}
