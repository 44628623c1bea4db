-- When a line of a report is right, after the lines before it.
use Rattle.std.specs.Prelude.{◌≡◌, ℕ, suc, ◌≤◌, ◌<◌, ◌-◌, ◌⊎◌, List, [], ◌∷◌, ◌++◌, length, take, drop, nat_lt, Bool, true, false, Some, slice_get, Contains, codes}
use Rattle.std.specs.List.{list_any, flat_map}
use Rattle.sto_model.specs.Asked.{IsUnsettled}
use Rattle.sto_lang.specs.Objects.{Declaration}
use Rattle.sto_lang.specs.Scripts.{Script, File}
use Rattle.sto_lang.specs.Drafts.{transaction_count}
use Rattle.sto_script.specs.Meaning.{meaning_of}
use Rattle.sto_report_spec.specs.Orders.{TransactionPlace, transaction_at, positions_of}
use Rattle.sto_report_spec.specs.Replay.{Entry, entries_of, opening_state, final_state, entry_at, run_at, shown}
use Rattle.sto_report_spec.specs.Aborts.{Cause, Locked, Changed, Abort, part_in}
use Rattle.sto_report_spec.specs.Report.{line_text, abort_text, object_text}
use Rattle.sto_report_spec.specs.Named.{order_named}
use Rattle.sto_report_spec.specs.NamedAborts.{aborts_named}
use Rattle.sto_report_spec.specs.LawfulAborts.{IsFront, IsBefore, IsAfterOwn, IsPartAsked, IsSorted, HandsBack, count_at}
use Rattle.sto_checker.specs.Runs.{writers_from}
use Rattle.sto_checker.specs.Lines.{is_state_line, until_state, beyond_state}
use Rattle.sto_checker.specs.Written.{written_of}

-- how many transactions the file has: so many lines of a report are those of its journal
abbrev pub total : File → ℕ
total file = transaction_count file.threads

-- the order that the first lines name
abbrev pub order_in : File → List (List ℕ) → List TransactionPlace
order_in file lines = flat_map (order_named file.names) (take (total file) lines)

-- the lines behind those of the journal
abbrev pub behind : File → List (List ℕ) → List (List ℕ)
behind file lines = drop (total file) lines

-- the aborted attempts that those before the line `state` name
abbrev pub aborts_in : File → List (List ℕ) → List Abort
aborts_in file lines = flat_map (aborts_named file.names) (until_state (behind file lines))

-- the transaction is the next one of its thread
pub record IsNext (file : File) (order : List TransactionPlace) (place : TransactionPlace) : Type 0 where
  pub script : Script
  pub transaction : transaction_at file place ≡ Some script
  pub next : place.1 ≡ suc (length (positions_of place.0 order))

-- what the replay gives for a transaction after those of an order
abbrev pub entry_after : File → List TransactionPlace → TransactionPlace → Entry
entry_after file order place = entry_at file (writers_from file 0 (opening_state file) order) (final_state file order) place

-- the line is the journal line of the next transaction of a thread
pub record IsJournalLine (file : File) (order : List TransactionPlace) (line : List ℕ) : Type 0 where
  pub place : TransactionPlace
  pub named : order_named file.names line ≡ place ∷ []
  pub next : IsNext file order place
  pub text : line ≡ line_text file.names (entry_after file order place)

-- the writer with a number, from 1, wrote the object, by what each writer wrote
pub record WroteAt (written : List (List ℕ)) (by object : ℕ) : Type 0 where
  pub objects : List ℕ
  pub writer : slice_get written (by - 1) ≡ Some objects
  pub wrote : Contains objects object

-- the writer run with a number has a call that wrote the object
abbrev pub HasWritten : File → List TransactionPlace → ℕ → ℕ → Type 0
HasWritten file order by object = WroteAt (written_of file order) by object

-- the writer is a later one that the transaction comes after, and one of its calls wrote the object
pub record IsWrittenBy (file : File) (order : List TransactionPlace) (place : TransactionPlace) (seen object by : ℕ) : Type 0 where
  pub later : seen < by
  pub earlier : IsBefore (entries_of file order) place by
  pub written : HasWritten file order by object

-- what the cause says of a writer
abbrev pub IsCauseOf : File → List TransactionPlace → Abort → Declaration → Cause → Type 0
IsCauseOf file order abort d (Locked part) = Unit {0}
IsCauseOf file order abort d (Changed part by) = IsWrittenBy file order abort.place abort.seen d.number by

-- the aborted attempt is lawful by itself, but that the object that its cause names stands for the part
pub record IsRightAlone (file : File) (order : List TransactionPlace) (abort : Abort) : Type 0 where
  pub script : Script
  pub object : Declaration
  pub transaction : transaction_at file abort.place ≡ Some script
  pub replies : IsFront abort.replies (run_at file (shown file order abort.seen) abort.place).replies
  pub after_own : IsAfterOwn (entries_of file order) abort.place abort.seen
  pub earlier : IsBefore (entries_of file order) abort.place abort.seen
  pub unsettled : IsUnsettled (meaning_of script) abort.replies
  pub part : IsPartAsked file script abort.replies (part_in abort.cause) object
  pub cause : IsCauseOf file order abort object abort.cause

-- and so it is after those before it: its transaction has not more than the tries, no earlier one of its thread has as many, and they
-- stand in their order
pub record IsRightAbort (file : File) (tries : ℕ) (order : List TransactionPlace) (before : List Abort) (abort : Abort) : Type 0 where
  pub alone : IsRightAlone file order abort
  pub few : count_at abort.place (before ++ abort ∷ []) ≤ tries
  pub handed : HandsBack tries (before ++ abort ∷ [])
  pub sorted : IsSorted (before ++ abort ∷ [])

-- the line is that of an aborted attempt
pub record IsAbortLine (file : File) (tries : ℕ) (order : List TransactionPlace) (before : List Abort) (line : List ℕ) : Type 0 where
  pub abort : Abort
  pub named : aborts_named file.names line ≡ abort ∷ []
  pub right : IsRightAbort file tries order before abort
  pub text : line ≡ abort_text file.names abort

-- the line is that of the declared object after so many others
pub record IsObjectLine (file : File) (order : List TransactionPlace) (others : ℕ) (line : List ℕ) : Type 0 where
  pub object : Declaration
  pub next : slice_get file.declarations others ≡ Some object
  pub text : line ≡ object_text (final_state file order) object

-- behind the journal: up to the line `state` come aborted attempts, and then the objects
abbrev pub IsRightBehind : Bool → File → ℕ → List (List ℕ) → List ℕ → Type 0
IsRightBehind false file tries lines line = (line ≡ codes "state\n") ⊎ IsAbortLine file tries (order_in file lines) (aborts_in file lines) line
IsRightBehind true file tries lines line = IsObjectLine file (order_in file lines) (length (beyond_state (behind file lines))) line

abbrev pub IsRightIn : Bool → File → ℕ → List (List ℕ) → List ℕ → Type 0
IsRightIn true file tries lines line = IsJournalLine file (order_in file lines) line
IsRightIn false file tries lines line = IsRightBehind (list_any is_state_line (behind file lines)) file tries lines line

-- the line is right after these: as many lines as there are transactions are those of the journal
abbrev pub IsRightAfter : File → ℕ → List (List ℕ) → List ℕ → Type 0
IsRightAfter file tries lines line = IsRightIn (nat_lt (length lines) (total file)) file tries lines line
