-- The JSON report: the object that the text of a report is, written compactly, and a line feed.
use Rattle.std.specs.Prelude.{ℕ, List, [], ◌∷◌, ◌++◌, map, codes}
use Rattle.serde_json.specs.Data.{Data, number, unsigned, string, array, object, Members, no_members, member}
use Rattle.serde_json.specs.View.{items_of}
use Rattle.serde_json.specs.Written.{compact_text}
use Rattle.sto_model.specs.PlainReplies.{PlainReply}
use Rattle.sto_model.specs.Run.{State}
use Rattle.sto_lang.specs.Objects.{Declaration}
use Rattle.sto_lang.specs.Scripts.{File}
use Rattle.sto_report_spec.specs.EndingTexts.{ending_text}
use Rattle.sto_report_spec.specs.Orders.{TransactionPlace}
use Rattle.sto_report_spec.specs.Aborts.{Cause, Locked, Changed, Abort, part_in}
use Rattle.sto_report_spec.specs.Replay.{Entry, entries_of, final_state}
use Rattle.sto_report_spec.specs.Report.{name_at, reply_text, rows_text, rows_of}

-- a list of items
abbrev pub listed : {X : Type 0} → (X → Data) → List X → Data
listed item xs = array (items_of (map item xs))

-- a number
abbrev pub numeral : ℕ → Data
numeral n = number (unsigned n)

-- a reply by its text
abbrev pub reply_data : PlainReply → Data
reply_data reply = string (reply_text reply)

-- a journal entry
abbrev pub entry_data : List (List ℕ) → Entry → Data
entry_data names e =
    object
    (member (codes "end") (string (ending_text e.ending))
    (member (codes "k") (numeral e.writers)
    (member (codes "position") (numeral e.place.1)
    (member (codes "replies") (listed reply_data e.replies)
    (member (codes "thread") (string (name_at names e.place.0)) no_members)))))

-- the writer that changed the part, where one did
abbrev pub with_writer : Cause → Members → Members
with_writer (Locked part) others = others
with_writer (Changed part by) others = member (codes "by") (numeral by) others

-- the word of a cause
abbrev pub cause_word : Cause → List ℕ
cause_word (Locked part) = codes "locked"
cause_word (Changed part by) = codes "changed"

-- an aborted attempt
abbrev pub abort_data : List (List ℕ) → Abort → Data
abort_data names a =
    object
    (member (codes "at") (numeral a.seen)
    (with_writer a.cause
    (member (codes "cause") (string (cause_word a.cause))
    (member (codes "object") (string (part_in a.cause).object)
    (member (codes "part") (numeral (part_in a.cause).part)
    (member (codes "position") (numeral a.place.1)
    (member (codes "saw") (listed reply_data a.replies)
    (member (codes "thread") (string (name_at names a.place.0)) no_members))))))))

-- an object with its rows
abbrev pub object_data : State → Declaration → Data
object_data state d =
    object
    (member (codes "name") (string d.name)
    (member (codes "text") (string (rows_text d.shape (rows_of state d.number))) no_members))

-- the whole report
abbrev pub report_data : List (List ℕ) → List Declaration → List Entry → List Abort → State → Data
report_data names declarations entries aborts state =
    object
    (member (codes "aborts") (listed (abort_data names) aborts)
    (member (codes "journal") (listed (entry_data names) entries)
    (member (codes "state") (listed (object_data state) declarations) no_members)))

-- its line
abbrev pub json_text : List (List ℕ) → List Declaration → List Entry → List Abort → State → List ℕ
json_text names declarations entries aborts state = compact_text (report_data names declarations entries aborts state) ++ codes "\n"

-- the JSON report of an order and of aborted attempts
abbrev pub json_of : File → List TransactionPlace → List Abort → List ℕ
json_of file order aborts = json_text file.names file.declarations (entries_of file order) aborts (final_state file order)
