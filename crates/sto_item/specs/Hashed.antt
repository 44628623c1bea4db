-- What of an item is hashed.
use Rattle.std.specs.Prelude.{ℕ, List, ◌++◌}
use Rattle.std.specs.Hash as fed
use Rattle.sto_item.specs.declared.item.Item.{Item}
use Rattle.sto_item.specs.declared.item.Item.TheVariants.{Seen, Holds}

-- the part, and of a predicate also its word and its two constants
abbrev pub hashed : Item → List (List ℕ)
hashed (Seen p) = fed.u32 p
hashed (Holds p) = fed.u32 p.part ++ fed.u32 p.word ++ fed.i64 p.shift ++ fed.i64 p.bound
