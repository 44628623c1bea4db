-- What an order of a file's transactions leads to, and what all orders lead to.
use Rattle.std.specs.Prelude.{◌≡◌, ◌==◌, ℕ, List, [], ◌∷◌, ◌++◌, length, map, if◌then◌else◌, Some, slice_get, codes}
use Rattle.std.specs.List.{All, flat_map}
use Rattle.sto_model.specs.Run.{State}
use Rattle.sto_lang.specs.Scripts.{File}
use Rattle.sto_report_spec.specs.EndingTexts.{ending_text}
use Rattle.sto_report_spec.specs.Orders.{TransactionPlace, numbers_from, IsOrder}
use Rattle.sto_report_spec.specs.Replay.{Entry, opening_state, entries_of, final_state}
use Rattle.sto_report_spec.specs.Report.{spaced_reply, line_text}
use Rattle.sto_journal.specs.Journals.{places}
use Rattle.sto_checker.specs.Runs.{IsReplay, writers_from}
use Rattle.sto_orders.specs.declared.same_by.SameBy.{SameBy}
use Rattle.sto_orders.specs.declared.same_by.SameBy.TheVariants as compare
use Rattle.sto_orders.specs.declared.outcome.Outcome.{Outcome}

-- how a transaction ended and what it was answered
abbrev pub answer_text : Entry → List ℕ
answer_text e = ending_text e.ending ++ (flat_map spaced_reply e.replies ++ codes "\n")

-- what is compared of a transaction beside the final state: nothing, its answers, or its whole line
abbrev pub compared_text : SameBy → List (List ℕ) → Entry → List ℕ
compared_text compare.State names e = []
compared_text compare.Answers names e = answer_text e
compared_text compare.Order names e = line_text names e

-- the same where the transaction is one of a thread
abbrev pub own_text : SameBy → List (List ℕ) → ℕ → Entry → List ℕ
own_text by names thread e = if e.place.0 == thread then compared_text by names e else []

-- what is compared of the transactions of a thread
abbrev pub thread_text : SameBy → List (List ℕ) → List Entry → ℕ → List ℕ
thread_text by names entries thread = flat_map (own_text by names thread) entries

-- how many writers there are, where their numbers are compared
abbrev pub counted_by : SameBy → ℕ → ℕ
counted_by compare.State writers = 0
counted_by compare.Answers writers = 0
counted_by compare.Order writers = writers

-- the numbers of a file's threads
abbrev pub threads_in : File → List ℕ
threads_in file = numbers_from 0 (length file.threads)

-- what is compared of an order: for each thread what its transactions did, how many writers there are, and the final state
pub record OrderEnd : Type 0 where
  pub threads : List (List ℕ)
  pub writers : ℕ
  pub state : State

abbrev pub end_of : SameBy → File → List TransactionPlace → OrderEnd
end_of by file order = record {
  threads = map (thread_text by file.names (entries_of file order)) (threads_in file);
  writers = counted_by by (writers_from file 0 (opening_state file) order);
  state = final_state file order;
}

-- the order in which an outcome's transactions ran
abbrev pub order_of : Outcome → List TransactionPlace
order_of o = places o.lines.items

-- its lines and its state are those of an order of the file
abbrev pub IsOrderOutcome : File → Outcome → Type 0
IsOrderOutcome file o = IsReplay file o.lines.items o.state.items

-- one of the outcomes is what an order leads to
pub record HasOutcome (by : SameBy) (file : File) (outcomes : List Outcome) (order : List TransactionPlace) : Type 0 where
  pub at : ℕ
  pub outcome : Outcome
  pub stands : slice_get outcomes at ≡ Some outcome
  pub same : end_of by file (order_of outcome) ≡ end_of by file order

-- no two of the outcomes are the same
abbrev pub AreDistinct : SameBy → File → List Outcome → Type 0
AreDistinct by file outcomes =
    (i j : ℕ) (a b : Outcome) → slice_get outcomes i ≡ Some a → slice_get outcomes j ≡ Some b
    → end_of by file (order_of a) ≡ end_of by file (order_of b) → i ≡ j

-- each outcome is that of an order of the file, each order of the file leads to one of them, and none stands there twice
pub record AreOutcomes (by : SameBy) (file : File) (outcomes : List Outcome) : Type 0 where
  pub each : All (IsOrderOutcome file) outcomes
  pub complete : (order : List TransactionPlace) → IsOrder file order → HasOutcome by file outcomes order
  pub distinct : AreDistinct by file outcomes
