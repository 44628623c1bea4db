use Rattle.std.proofs.Common.{◌≡◌, ◌<◌, ◌+◌, ℕ, List, [], length}
use Rattle.sto_item.specs.declared.item.Item.{Item}
use Rattle.sto_type.specs.Known.{known}
use Rattle.sto_type.specs.Telling.{Telling, plan_of}
use Rattle.sto_map.specs.Mapped.{Sizes, look}
use Rattle.sto_map.proofs.seeking.seek.Given as goal

abbrev pub invariant-loop : goal.invariant-loop
invariant-loop l = record {
  below : l.place < l.size.places;
  many : length l.items.items ≡ l.counter;
  rest : (z : Sizes) → z.places ≡ l.size.places → z.stripes ≡ l.size.stripes → (f : ℕ → Telling) → (g : List Item → Telling) → (left : ℕ) → left + l.counter ≡ l.size.places
      → plan_of (look z l.key f g z.places l.home []) (known l.cache) ≡ plan_of (look z l.key f g left l.place l.items.items) (known l.cache);
}
