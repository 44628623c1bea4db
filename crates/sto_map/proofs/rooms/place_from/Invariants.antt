use Rattle.std.proofs.Common.{◌≡◌, ◌<◌, ◌≤◌, ◌+◌, ℕ, ℤ, length}
use Rattle.sto_type.specs.Known.{known}
use Rattle.sto_type.specs.Telling.{plan_of}
use Rattle.sto_map.specs.Mapped.{Sizes, place_walk}
use Rattle.sto_map.proofs.rooms.place_from.Given as goal

abbrev pub invariant-loop : goal.invariant-loop
invariant-loop l = record {
  below : l.place < l.size.places;
  many : length l.items.items ≤ l.size.places + 1 + l.size.stripes + l.counter;
  rest : (z : Sizes) → z.places ≡ l.size.places → z.stripes ≡ l.size.stripes → (key : ℤ) → (x : ℤ) → (s : ℕ) → (left : ℕ) → left + l.counter ≡ l.size.places
      → plan_of (place_walk z key x s z.places l.home l.fn.seen.items) (known l.cache) ≡ plan_of (place_walk z key x s left l.place l.items.items) (known l.cache);
}
