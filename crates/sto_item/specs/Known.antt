-- A set that holds the items of a list, where the list is not short.
use Rattle.std.specs.Prelude.{◌↔◌, ◌<◌, List, length}
use Rattle.std.specs.List.{Contains}
use Rattle.sto_item.specs.declared.item.Item.{Item}

-- two lists have the same items
abbrev pub HaveSame : List Item → List Item → Type 0
HaveSame xs ys = (x : Item) → Contains xs x ↔ Contains ys x

-- the keys are the items, if these are more than 16
abbrev pub IsKnown : List Item → List Item → Type 0
IsKnown items keys = 16 < length items → HaveSame items keys
