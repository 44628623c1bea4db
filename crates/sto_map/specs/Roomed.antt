-- What the walks of a put come to, as plain data, and what it writes.
use Rattle.std.specs.Prelude.{◌<◌, ◌≤◌, ◌+◌, ℕ, ℤ, pos, negsuc, List, [], ◌∷◌, ◌++◌, length}
use Rattle.sto_part.specs.declared.change.Change.{Change}
use Rattle.sto_part.specs.declared.change.Change.TheVariants as C
use Rattle.sto_item.specs.Pending.{Entry}
use Rattle.sto_model.specs.PlainReplies.{Done, Absent as ToldAbsent, Full as ToldFull}
use Rattle.sto_type.specs.Known.{Known}
use Rattle.sto_type.specs.Plans.{Plan, Ask, Say}
use Rattle.sto_type.specs.Telling.{plan_of}
use Rattle.sto_map.specs.Mapped.{Sizes, key_part, value_part, overs_from, added, place_from_home}
use Rattle.sto_map.specs.declared.rooms.Room.{Room}
use Rattle.sto_map.specs.declared.rooms.Room.TheVariants.{Left, Full, Need}
use Rattle.sto_map.specs.declared.rooms.Free.{Free}
use Rattle.sto_map.specs.declared.rooms.Free.TheVariants.{There, Nowhere, Need as NeedKey}

-- what is planned after the walk over the rooms
abbrev pub room_comes : Sizes → ℤ → ℤ → Room → Known → Plan
room_comes z key x (Left s items) k = plan_of (place_from_home z key x s items.items) k
room_comes z key x (Full items) k = Say ToldFull items.items []
room_comes z key x (Need p) k = Ask p

-- a stripe with room is one of them
abbrev pub IsRoom : ℕ → ℕ → Room → Type 0
IsRoom n m (Left s items) = (s < m) × (length items.items ≤ n + 1 + m)
IsRoom n m (Full items) = Unit {0}
IsRoom n m (Need p) = Unit {0}

-- what is planned after the walk over the places
abbrev pub place_comes : Sizes → ℤ → ℤ → ℕ → Free → Known → Plan
place_comes z key x s (There p items) k = Say Done items.items (added z key x s p)
place_comes z key x s (Nowhere items) k = Say ToldAbsent items.items []
place_comes z key x s (NeedKey p) k = Ask p

-- a free place is one of them
abbrev pub IsFree : ℕ → Free → Type 0
IsFree n (There p items) = p < n
IsFree n (Nowhere items) = Unit {0}
IsFree n (NeedKey p) = Unit {0}

-- a new key's updates, with any changes of the key and the value
abbrev pub added_by : Sizes → ℤ → Change → Change → ℕ → ℕ → List Entry
added_by z k key value s p = (s, C.Add (negsuc 0) ∷ []) ∷ (key_part z p, C.Put (pos 1) ∷ key ∷ []) ∷ (overs_from z k p (pos 1) 0 z.places ++ (value_part z p, value ∷ []) ∷ [])
