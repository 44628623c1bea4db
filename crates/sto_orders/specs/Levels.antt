-- All nodes after so many transactions.
use Rattle.std.specs.Prelude.{◌≡◌, ◌+◌, ◌≤◌, ◌<◌, ℕ, suc, List, [], ◌∷◌, ◌++◌, length, map, if◌then◌else◌, Option, None, Some, slice_get}
use Rattle.std.specs.List.{All}
use Rattle.std.specs.List.Sorted.{IsStrictlySortedBy}
use Rattle.std.specs.BTreeMap.{BTreeMap, get, is_at}
use Rattle.sto_lang.specs.Scripts.{File}
use Rattle.sto_report_spec.specs.Orders.{TransactionPlace, count_in}
use Rattle.sto_orders.specs.declared.same_by.SameBy.{SameBy}
use Rattle.sto_orders.specs.declared.key.Key.{Key}
use Rattle.sto_orders.specs.declared.way.Way.{Way}
use Rattle.sto_orders.specs.declared.way.Ways.{Ways}
use Rattle.sto_orders.specs.declared.level.Node.{Node}
use Rattle.sto_journal.specs.Journals.{entry}
use Rattle.sto_report_spec.specs.Replay.{entries_of, final_state}
use Rattle.sto_orders.specs.declared.outcome.Outcome.{Outcome}
use Rattle.sto_orders.specs.Outcomes.{order_of}
use Rattle.sto_orders.specs.Keys.{key_cmp, done_in, IsKeyOf}
use Rattle.sto_orders.specs.Ways.{next_of, IsBeginning, AreKept, AreWays}
use Rattle.sto_orders.specs.declared.limit.OrdersError.{OrdersError}
use Rattle.sto_orders.specs.declared.limit.OrdersError.TheVariants.{NoMemory, AtLeast, TooMany}
use Rattle.sto_orders.specs.Causes.{IsFront, AreApart}

-- the ways to nodes, by their keys
abbrev pub Found : Type 0
Found = BTreeMap Key Ways

-- one of the nodes is where these transactions lead
pub record HasNode (by : SameBy) (file : File) (nodes : List Node) (order : List TransactionPlace) : Type 0 where
  pub at : ℕ
  pub node : Node
  pub stands : slice_get nodes at ≡ Some node
  pub leads : IsKeyOf by file order node.key

-- the nodes after so many transactions: to each there are ways, all such transactions lead to one of them, and none is there twice
pub record AreLevel (by : SameBy) (file : File) (count : ℕ) (nodes : List Node) : Type 0 where
  pub ways : (k : ℕ) (p : Node) → slice_get nodes k ≡ Some p → AreWays by file count p.key p.ways
  pub all : (order : List TransactionPlace) → IsBeginning file count order → HasNode by file nodes order
  pub apart : IsStrictlySortedBy key_cmp (map (λ p. p.key) nodes)

-- the same of some number of transactions, of which a file has no more
pub record IsLevel (by : SameBy) (file : File) (nodes : List Node) : Type 0 where
  pub count : ℕ
  pub few : count ≤ 10000
  pub level : AreLevel by file count nodes

-- there are ways to the node, of some number of transactions
pub record IsNode (by : SameBy) (file : File) (node : Node) : Type 0 where
  pub count : ℕ
  pub few : count ≤ 10000
  pub ways : AreWays by file count node.key node.ways

-- the same of nodes that are found by their keys
pub record HasFound (by : SameBy) (file : File) (found : Found) (order : List TransactionPlace) : Type 0 where
  pub key : Key
  pub ways : Ways
  pub stands : get key_cmp found key ≡ Some ways
  pub leads : IsKeyOf by file order key

abbrev pub AreFound : SameBy → File → ℕ → Found → Type 0
AreFound by file count found = (key : Key) (ways : Ways) → get key_cmp found key ≡ Some ways → AreWays by file count key ways

-- what was found is still found
abbrev pub Keeps : SameBy → File → Found → Found → Type 0
Keeps by file old new = (order : List TransactionPlace) → HasFound by file old order → HasFound by file new order

-- where the thread has a next transaction, that was found with it
abbrev pub HasNext : SameBy → File → Found → List TransactionPlace → ℕ → Type 0
HasNext by file found order thread =
    done_in order thread < count_in file.threads thread → HasFound by file found (order ++ next_of order thread ∷ [])

-- so it is for each of the first threads, for all transactions that lead to the node with the key
abbrev pub HasNextBelow : SameBy → File → Found → Key → ℕ → Type 0
HasNextBelow by file found key threads =
    (order : List TransactionPlace) → IsKeyOf by file order key → (thread : ℕ) → thread < threads → HasNext by file found order thread

-- the ways to a node with one more of them; there may have been none
abbrev pub HasMoreWays : Option Ways → Way → Ways → Type 0
HasMoreWays None way new = new.each.items ≡ way ∷ []
HasMoreWays (Some old) way new = AreKept old.each.items way new.each.items × (1 ≤ length new.each.items)

-- a way was added to the node with a key
pub record IsAdded (old new : Found) (key : Key) (way : Way) : Type 0 where
  pub ways : Ways
  pub here : (other : Key) → get key_cmp new other ≡ (if is_at (key_cmp key) other then Some ways else get key_cmp old other)
  pub more : HasMoreWays (get key_cmp old key) way ways

-- a node by its key and the ways to it
abbrev pub node_of : Key × Ways → Node
node_of e = record { key = e.0; ways = e.1 }

-- the outcome is that of a way to the node
pub record IsOutcomeAt (by : SameBy) (file : File) (count : ℕ) (node : Node) (o : Outcome) : Type 0 where
  pub begins : IsBeginning file count (order_of o)
  pub leads : IsKeyOf by file (order_of o) node.key
  pub entries : map entry o.lines.items ≡ entries_of file (order_of o)
  pub final : o.state.items ≡ final_state file (order_of o)

-- so it is with each of the nodes and the outcome in its place
pub record AreOutcomesAt (by : SameBy) (file : File) (count : ℕ) (nodes : List Node) (outcomes : List Outcome) : Type 0 where
  pub long : length outcomes ≡ length nodes
  pub each : (k : ℕ) (p : Node) (o : Outcome) → slice_get nodes k ≡ Some p → slice_get outcomes k ≡ Some o → IsOutcomeAt by file count p o

-- more nodes were found than may be
abbrev pub AreTooMany : Found → ℕ → OrdersError → Type 0
AreTooMany found room NoMemory = Unit {0}
AreTooMany found room (AtLeast least) = ⊥
AreTooMany found room TooMany = (room < length found.entries) × IsStrictlySortedBy key_cmp (map (λ e. e.0) found.entries)

-- so many beginnings of just so many transactions, of which no two meet
pub record HaveApart (by : SameBy) (file : File) (count many : ℕ) : Type 0 where
  pub orders : List (List TransactionPlace)
  pub long : length orders ≡ many
  pub begun : All (IsBeginning file count) orders
  pub apart : AreApart by file orders

-- more than so many of these
pub record HasMoreAt (by : SameBy) (file : File) (count room : ℕ) : Type 0 where
  pub many : ℕ
  pub more : room < many
  pub are : HaveApart by file count many

-- why there is no next level: it has more nodes than may be
abbrev pub IsLevelCause : SameBy → File → List Node → ℕ → OrdersError → Type 0
IsLevelCause by file nodes room NoMemory = Unit {0}
IsLevelCause by file nodes room (AtLeast least) = ⊥
IsLevelCause by file nodes room TooMany = (count : ℕ) → AreLevel by file count nodes → HasMoreAt by file (suc count) room

-- a beginning of at most so many transactions
pub record IsFrontWithin (file : File) (count : ℕ) (order : List TransactionPlace) : Type 0 where
  pub front : IsFront file order
  pub within : length order ≤ count

-- such beginnings, of which no two meet
pub record AreFronts (by : SameBy) (file : File) (count : ℕ) (orders : List (List TransactionPlace)) : Type 0 where
  pub within : All (IsFrontWithin file count) orders
  pub apart : AreApart by file orders

-- so many of these were met that with the room that is left they are as many as there may be
pub record AreSeen (by : SameBy) (file : File) (count most room : ℕ) : Type 0 where
  pub orders : List (List TransactionPlace)
  pub fronts : AreFronts by file count orders
  pub many : length orders + room ≡ most
