-- Ways to a node.
use Rattle.std.specs.Prelude.{◌≡◌, ◌⊎◌, ◌≤◌, ◌<◌, ℕ, suc, List, [], ◌∷◌, ◌++◌, length, map, Some, slice_get}
use Rattle.sto_lang.specs.Scripts.{File}
use Rattle.sto_report_spec.specs.Orders.{TransactionPlace as Place, count_in}
use Rattle.sto_checker.specs.Reading.{place_of}
use Rattle.sto_checker.specs.Past.{IsBegun}
use Rattle.sto_checker.specs.Shown.{AreInside}
use Rattle.sto_checker.specs.declared.transaction.TransactionPlace.{TransactionPlace}
use Rattle.sto_orders.specs.declared.same_by.SameBy.{SameBy}
use Rattle.sto_orders.specs.declared.key.Key.{Key}
use Rattle.sto_orders.specs.declared.way.Way.{Way}
use Rattle.sto_orders.specs.declared.way.Ways.{Ways}
use Rattle.sto_orders.specs.Keys.{done_in, IsKeyOf}

-- the transactions as places of a file
abbrev pub along : List TransactionPlace → List Place
along order = map place_of order

-- the next transaction of a thread
abbrev pub next_of : List Place → ℕ → Place
next_of order thread = (thread, suc (done_in order thread))

-- so many transactions of a file from its beginning on, those of each thread in rising position
pub record IsBeginning (file : File) (count : ℕ) (order : List Place) : Type 0 where
  pub begun : IsBegun file order
  pub inside : AreInside file order
  pub long : length order ≡ count

-- the way leads to the node with the key
pub record IsWay (by : SameBy) (file : File) (count : ℕ) (key : Key) (way : Way) : Type 0 where
  pub beginning : IsBeginning file count (along way.order.items)
  pub leads : IsKeyOf by file (along way.order.items) key

-- each of some ways was there before, or is this one
abbrev pub AreKept : List Way → Way → List Way → Type 0
AreKept old way new = (k : ℕ) (w : Way) → slice_get new k ≡ Some w → (slice_get old k ≡ Some w) ⊎ (w ≡ way)

-- there is a way to the node, and each leads there
pub record AreWays (by : SameBy) (file : File) (count : ℕ) (key : Key) (ways : Ways) : Type 0 where
  pub some : 1 ≤ length ways.each.items
  pub each : (k : ℕ) (w : Way) → slice_get ways.each.items k ≡ Some w → IsWay by file count key w

-- behind all transactions that lead to the node with a key, this is the next one of a thread
abbrev pub IsNextAt : SameBy → File → Key → ℕ → TransactionPlace → Type 0
IsNextAt by file key thread at =
    (order : List Place) → IsKeyOf by file order key → (next_of order thread ≡ place_of at) × (done_in order thread < count_in file.threads thread)

-- behind all transactions that lead to the node with a key, this one leads to the node with the next key
abbrev pub LeadsOn : SameBy → File → Key → TransactionPlace → Key → Type 0
LeadsOn by file key at next = (order : List Place) → IsKeyOf by file order key → IsKeyOf by file (order ++ place_of at ∷ []) next

-- the only way is one of no transaction
pub record HasNoSteps (ways : Ways) : Type 0 where
  pub way : Way
  pub only : ways.each.items ≡ way ∷ []
  pub none : way.order.items ≡ []
