-- The order in which a feeder sends the transactions of a file.
use Rattle.std.specs.Prelude.{◌≡◌, ◌⊎◌, ◌<◌, ◌≤◌, ◌++◌, ℕ, List, [], ◌∷◌, map, if◌then◌else◌, nat_le}
use Rattle.std.specs.List.{All, AllPairs}
use Rattle.sto_run_threads.specs.Scripts.{File}
use Rattle.sto_run_threads.specs.Orders.{TransactionPlace as Place, IsOrder, positions_of}
use Rattle.sto_run_feed.specs.declared.order.TransactionPlace as code

-- the transaction that a place of the code names, and all of an order
abbrev pub place_of : code.TransactionPlace → Place
place_of p = (p.thread, p.position)

abbrev pub places_in : List code.TransactionPlace → List Place
places_in order = map place_of order

-- a lower position, or the same one of a lower thread
abbrev pub Precedes : Place → Place → Type 0
Precedes p q = (p.1 < q.1) ⊎ ((p.1 ≡ q.1) × (p.0 < q.0))

-- every transaction of the file once: the first of each thread in rising thread number, then the second of each, and so on
pub record AreInTurn (file : File) (order : List Place) : Type 0 where
  pub all : IsOrder file order
  pub rising : AllPairs Precedes order

-- the transaction at a position was added of each thread that has so many
pub record HasRound (count : ℕ → ℕ) (position : ℕ) (order more : List code.TransactionPlace) : Type 0 where
  pub later : All (λ p. p.position ≤ position) more
  pub rising : AllPairs Precedes (places_in more)
  pub each : (thread : ℕ) → positions_of thread (places_in more)
      ≡ positions_of thread (places_in order) ++ (if nat_le position (count thread) then position ∷ [] else [])
