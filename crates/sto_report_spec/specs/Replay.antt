-- The replay of a file in an order: its transactions run one after the other from the declared state.
use Rattle.std.specs.Prelude.{ℕ, zero, suc, List, [], ◌∷◌, Bool, true, false, if◌then◌else◌, Option, None, Some}
use Rattle.sto_model.specs.PlainReplies.{PlainReply}
use Rattle.sto_model.specs.SequentialObjects.{SequentialObject, opening_of}
use Rattle.sto_model.specs.Objects.{machines_of}
use Rattle.sto_model.specs.Run.{State}
use Rattle.sto_model.specs.Serial.{SerialRun, serial_run_of, is_writer_run, ended}
use Rattle.sto_model.specs.declared.run.End.{End}
use Rattle.sto_model.specs.declared.run.End.TheVariants as ends
use Rattle.sto_lang.specs.Objects.{shapes_of}
use Rattle.sto_lang.specs.Scripts.{Script, File}
use Rattle.sto_script.specs.Meaning.{meaning_of}
use Rattle.sto_report_spec.specs.Orders.{TransactionPlace, transaction_at}
use Rattle.sto_report_spec.specs.declared.ending.Ending.{Ending}
use Rattle.sto_report_spec.specs.declared.ending.Ending.TheVariants.{Commit, Read, Cancel}

-- the sequential objects of a file, in the order of their numbers
abbrev pub machines_for : File → List SequentialObject
machines_for file = machines_of (shapes_of file.declarations)

-- the rows of each object at the opening, in the order of their numbers
abbrev pub opening_state : File → State
opening_state file = opening_of (machines_for file)

-- the serial run of a transaction from a state; it makes at most as many calls as its weight
abbrev pub script_run : List SequentialObject → State → Option Script → SerialRun
script_run machines state None = ended state ends.Commit
script_run machines state (Some script) = serial_run_of machines script.weight (meaning_of script) state

-- the serial run of the transaction at a place
abbrev pub run_at : File → State → TransactionPlace → SerialRun
run_at file state place = script_run (machines_for file) state (transaction_at file place)

-- whether a run of a transaction commits with a call that wrote something
abbrev pub is_writer : Option Script → SerialRun → Bool
is_writer None run = false
is_writer (Some script) run = is_writer_run (meaning_of script) run.replies run.end

-- how a run ended, by whether it is a writer run
abbrev pub ending_by : Bool → End → Ending
ending_by writer ends.Cancel = Cancel
ending_by true ends.Commit = Commit
ending_by false ends.Commit = Read

-- the number of writer runs with one more run
abbrev pub counted : Bool → ℕ → ℕ
counted true writers = suc writers
counted false writers = writers

-- what a replay gives for one entry of its order: the number of writer runs up to and with it, its place, its ending and
-- its replies
pub record Entry : Type 0 where
  pub writers : ℕ
  pub place : TransactionPlace
  pub ending : Ending
  pub replies : List PlainReply

-- the entry of a transaction that is run after so many writer runs
abbrev pub entry_of : File → ℕ → TransactionPlace → SerialRun → Entry
entry_of file writers place run =
    let writer = is_writer (transaction_at file place) run in
    record { writers = counted writer writers; place = place; ending = ending_by writer run.end; replies = run.replies }

-- the entry of the transaction at a place that is run from a state, after so many writer runs
abbrev pub entry_at : File → ℕ → State → TransactionPlace → Entry
entry_at file writers state place = entry_of file writers place (run_at file state place)

-- the entries of the transactions that are run from a state on, after so many writer runs
abbrev pub entries_from : File → ℕ → State → List TransactionPlace → List Entry
entries_from file writers state [] = []
entries_from file writers state (place ∷ order) =
    entry_at file writers state place ∷ entries_from file (entry_at file writers state place).writers (run_at file state place).after order

-- the state that they leave
abbrev pub state_from : File → State → List TransactionPlace → State
state_from file state [] = state
state_from file state (place ∷ order) = state_from file (run_at file state place).after order

-- the state that the first so many writer runs leave
abbrev pub shown_from : File → State → List TransactionPlace → ℕ → State
shown_from file state order zero = state
shown_from file state [] (suc count) = state
shown_from file state (place ∷ order) (suc count) =
    if is_writer (transaction_at file place) (run_at file state place)
    then shown_from file (run_at file state place).after order count
    else shown_from file state order (suc count)

-- the entries of a replay
abbrev pub entries_of : File → List TransactionPlace → List Entry
entries_of file order = entries_from file 0 (opening_state file) order

-- the state that a replay leaves
abbrev pub final_state : File → List TransactionPlace → State
final_state file order = state_from file (opening_state file) order

-- the state after the first so many writer runs of a replay
abbrev pub shown : File → List TransactionPlace → ℕ → State
shown file order count = shown_from file (opening_state file) order count
