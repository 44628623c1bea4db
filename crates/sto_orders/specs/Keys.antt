-- The keys by which equal nodes are found.
use Rattle.std.specs.Prelude.{◌≡◌, ℕ, List, [], ◌∷◌, length, map, string_bytes}
use Rattle.std.specs.declared.cmp.Ordering.{Ordering}
use Rattle.sto_lang.specs.Scripts.{File}
use Rattle.sto_model.specs.Run.{State}
use Rattle.sto_report_spec.specs.Orders.{TransactionPlace, positions_of}
use Rattle.sto_report_spec.specs.Replay.{Entry, entries_of, final_state}
use Rattle.sto_journal.specs.declared.journal.Line.{Line}
use Rattle.sto_journal.specs.Journals.{entry, places}
use Rattle.sto_orders.specs.declared.same_by.SameBy.{SameBy}
use Rattle.sto_orders.specs.declared.key.Key.{Key}
use Rattle.sto_orders.specs.contracts.key.KeyOrd.TheImpl as key_ord
use Rattle.sto_orders.specs.Outcomes.{end_of, threads_in}

-- which of two keys comes first
abbrev pub key_cmp : Key → Key → Ordering
key_cmp = (key_ord.ghosts).cmp

-- how many of the transactions are of a thread
abbrev pub done_in : List TransactionPlace → ℕ → ℕ
done_in order thread = length (positions_of thread order)

-- how many writers there are up to the last entry, with those before the first
abbrev pub last_writers : ℕ → List Entry → ℕ
last_writers writers [] = writers
last_writers writers (e ∷ entries) = last_writers e.writers entries

-- the lines and the state are those of the replay of the transactions so far
pub record IsReplayed (file : File) (lines : List Line) (state : State) : Type 0 where
  pub entries : map entry lines ≡ entries_of file (places lines)
  pub final : state ≡ final_state file (places lines)

-- the key says where the transactions lead
pub record IsKeyOf (by : SameBy) (file : File) (order : List TransactionPlace) (key : Key) : Type 0 where
  pub done : key.done.items ≡ map (done_in order) (threads_in file)
  pub threads : map string_bytes key.threads.items ≡ (end_of by file order).threads
  pub writers : key.writers ≡ (end_of by file order).writers
  pub rows : map (λ rows. rows.items) key.rows.items ≡ (end_of by file order).state
