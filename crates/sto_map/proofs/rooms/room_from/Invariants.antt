use Rattle.std.proofs.Common.{◌≡◌, ◌<◌, ◌≤◌, ◌+◌, ℕ, ℤ, length}
use Rattle.sto_type.specs.Known.{known}
use Rattle.sto_type.specs.Telling.{plan_of}
use Rattle.sto_map.specs.Mapped.{Sizes, room_walk}
use Rattle.sto_map.proofs.rooms.room_from.Given as goal

abbrev pub invariant-loop : goal.invariant-loop
invariant-loop l = record {
  below : l.at < l.size.stripes;
  many : length l.items.items ≤ l.size.places + 1 + l.counter;
  rest : (z : Sizes) → z.places ≡ l.size.places → z.stripes ≡ l.size.stripes → (key : ℤ) → (x : ℤ) → (left : ℕ) → left + l.counter ≡ l.size.stripes
      → plan_of (room_walk z key x z.stripes l.stripe l.fn.absence.items) (known l.cache) ≡ plan_of (room_walk z key x left l.at l.items.items) (known l.cache);
}
