-- Why a file is refused.
use Rattle.std.specs.Prelude.{◌≡◌, ◌*◌, ◌-◌, ◌^◌, ◌<◌, ℕ, suc, min, List, [], ◌∷◌, length, map, Some, slice_get}
use Rattle.std.specs.List.{All}
use Rattle.sto_lang.specs.Scripts.{Script, File}
use Rattle.sto_report_spec.specs.Orders.{TransactionPlace}
use Rattle.sto_checker.specs.Past.{IsBegun}
use Rattle.sto_checker.specs.Shown.{AreInside}
use Rattle.sto_orders.specs.declared.same_by.SameBy.{SameBy}
use Rattle.sto_orders.specs.declared.limit.OrdersError.{OrdersError}
use Rattle.sto_orders.specs.declared.limit.OrdersError.TheVariants.{NoMemory, AtLeast, TooMany}
use Rattle.sto_orders.specs.Outcomes.{end_of, threads_in}
use Rattle.sto_orders.specs.Keys.{done_in}

-- how many nodes there are at least: each thread may have done any number of its transactions, and where these numbers differ the nodes do
abbrev pub least_nodes : List (List Script) → ℕ
least_nodes [] = 1
least_nodes (scripts ∷ threads) = suc (length scripts) * least_nodes threads

-- the same as a number of 64 bits, of which the greatest stands for more, too
abbrev pub least_told : List (List Script) → ℕ
least_told threads = min (least_nodes threads) (2 ^ 64 - 1)

-- an order of the file may begin so: the transactions are those of a front of each thread, in rising position
pub record IsFront (file : File) (order : List TransactionPlace) : Type 0 where
  pub begun : IsBegun file order
  pub inside : AreInside file order

-- two such beginnings meet in a node: they have done as many transactions of each thread, and what is compared of them is the same
pub record DoMeet (by : SameBy) (file : File) (a b : List TransactionPlace) : Type 0 where
  pub done : map (done_in a) (threads_in file) ≡ map (done_in b) (threads_in file)
  pub same : end_of by file a ≡ end_of by file b

-- no two of these meet
abbrev pub AreApart : SameBy → File → List (List TransactionPlace) → Type 0
AreApart by file orders =
    (i j : ℕ) (a b : List TransactionPlace) → slice_get orders i ≡ Some a → slice_get orders j ≡ Some b → DoMeet by file a b → i ≡ j

-- there are more than so many nodes: beginnings of orders, more than so many, of which no two meet
pub record HasMoreNodes (by : SameBy) (file : File) (most : ℕ) : Type 0 where
  pub orders : List (List TransactionPlace)
  pub fronts : All (IsFront file) orders
  pub apart : AreApart by file orders
  pub many : most < length orders

-- why not all orders were run
abbrev pub IsCause : SameBy → File → ℕ → OrdersError → Type 0
IsCause by file most NoMemory = Unit {0}
IsCause by file most (AtLeast least) = (least ≡ least_told file.threads) × (most < least)
IsCause by file most TooMany = HasMoreNodes by file most
