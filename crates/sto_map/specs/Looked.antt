-- What a look comes to, as plain data.
use Rattle.std.specs.Prelude.{◌<◌, ◌≤◌, ◌+◌, ℕ, List, length}
use Rattle.sto_item.specs.declared.item.Item.{Item}
use Rattle.sto_type.specs.Known.{Known}
use Rattle.sto_type.specs.Plans.{Plan, Ask}
use Rattle.sto_type.specs.Telling.{Telling, plan_of}
use Rattle.sto_map.specs.declared.seeking.Look.{Look}
use Rattle.sto_map.specs.declared.seeking.Look.TheVariants.{Found, Absent, Need}

-- what is planned after it
abbrev pub comes_to : Look → (ℕ → Telling) → (List Item → Telling) → Known → Plan
comes_to (Found p) f g k = plan_of (f p) k
comes_to (Absent items) f g k = plan_of (g items.items) k
comes_to (Need p) f g k = Ask p

-- a place that is found is one of them, and what was seen is few
abbrev pub IsBelow : ℕ → Look → Type 0
IsBelow n (Found p) = p < n
IsBelow n (Absent items) = length items.items ≤ n + 1
IsBelow n (Need p) = Unit {0}
