-- An object that has room can be built.
use Rattle.std.proofs.Common.{◌≡◌, ◌<◌, ◌≤◌, ◌+◌, ◌*◌, ◌^◌, ℕ, true, arith}
use Rattle.std.proofs.lemmas.Bool.Decides.{nat_tests}
use Rattle.std.proofs.lemmas.Nat.{mul-le}
use Rattle.sto_model.specs.declared.shape.Shape.{Shape}
use Rattle.sto_model.specs.declared.shape.Shape.TheVariants.{Single, Counter, Array, Hash, Tree, Vector}
use Rattle.sto_store.specs.Stores.{IsFit}
use Rattle.sto_shared_store.specs.Plans.{has_room}

pub room_fits : (s : Shape) → has_room s ≡ true → IsFit s
room_fits (Single v) h = tt
room_fits (Counter v) h = tt
room_fits (Array len v) h = tt
room_fits (Hash buckets places) h = (grind (arith, nat_tests, h), grind (arith, nat_tests, h), grind (arith, nat_tests, h))
room_fits (Tree leaves) h = (grind (arith, nat_tests, h), grind (arith, nat_tests, h))
room_fits (Vector capacity) h = grind (arith, nat_tests, h)

-- the parts of a hash table whose numbers are in u32 are in u64
pub few_buckets : (buckets places : ℕ) → buckets < 2 ^ 32 → places < 2 ^ 32 → buckets * (1 + places) < 2 ^ 64
few_buckets buckets places b p =
    let all : buckets * (1 + places) ≤ 4294967295 * 4294967296 = mul-le buckets (1 + places) 4294967295 4294967296 (omega (arith, b)) (omega (arith, p)) in
    omega (arith, all)
