-- The text of a report.
use Rattle.std.specs.Prelude.{ℕ, List, [], ◌∷◌, ◌++◌, flat_map, true, false, unwrap_or, slice_get, codes, decimal}
use Rattle.std.specs.Fmt.{signed_decimal}
use Rattle.sto_model.specs.PlainReplies.{PlainReply, Done, Value, Flag, Absent, Full, Range, Pairs}
use Rattle.sto_model.specs.Rows.{Row}
use Rattle.sto_model.specs.Run.{State}
use Rattle.sto_model.specs.Objects.{only_value}
use Rattle.sto_model.specs.declared.shape.Shape.{Shape}
use Rattle.sto_model.specs.declared.shape.Shape.TheVariants.{Single, Counter, Array, Hash, Tree, Vector}
use Rattle.sto_lang.specs.Objects.{Declaration}
use Rattle.sto_lang.specs.Scripts.{File}
use Rattle.sto_report_spec.specs.EndingTexts.{ending_text}
use Rattle.sto_report_spec.specs.Orders.{TransactionPlace}
use Rattle.sto_report_spec.specs.Replay.{Entry, entries_of, final_state}
use Rattle.sto_report_spec.specs.Aborts.{LocalPart, Cause, Locked, Changed, Abort}

-- the others of a list, each behind a comma
abbrev pub others_text : {X : Type 0} → (X → List ℕ) → List X → List ℕ
others_text text xs = flat_map (λ x. codes "," ++ text x) xs

-- a list in brackets, its items with commas between them
abbrev pub listed_text : {X : Type 0} → (X → List ℕ) → List X → List ℕ
listed_text text [] = codes "[]"
listed_text text (x ∷ xs) = codes "[" ++ (text x ++ (others_text text xs ++ codes "]"))

-- a key and its value
abbrev pub row_text : Row → List ℕ
row_text row = signed_decimal row.0 ++ (codes ":" ++ signed_decimal row.1)

-- a reply
abbrev pub reply_text : PlainReply → List ℕ
reply_text Done = codes "ok"
reply_text (Value value) = signed_decimal value
reply_text (Flag true) = codes "yes"
reply_text (Flag false) = codes "no"
reply_text Absent = codes "none"
reply_text Full = codes "full"
reply_text Range = codes "range"
reply_text (Pairs pairs) = listed_text row_text pairs

-- a space, and the reply
abbrev pub spaced_reply : PlainReply → List ℕ
spaced_reply reply = codes " " ++ reply_text reply

-- the name of the thread with a number
abbrev pub name_at : List (List ℕ) → ℕ → List ℕ
name_at names thread = unwrap_or (slice_get names thread) []

-- a journal line, by the names of the threads
abbrev pub line_text : List (List ℕ) → Entry → List ℕ
line_text names e =
    decimal e.writers ++ (codes " " ++ (name_at names e.place.0 ++ (codes "." ++ (decimal e.place.1 ++ (codes " " ++ (ending_text e.ending ++ (flat_map spaced_reply e.replies ++ codes "\n")))))))

-- a part by its object's name
abbrev pub part_text : LocalPart → List ℕ
part_text p = p.object ++ (codes " " ++ decimal p.part)

-- a cause
abbrev pub cause_text : Cause → List ℕ
cause_text (Locked part) = codes "locked " ++ part_text part
cause_text (Changed part by) = codes "changed " ++ (part_text part ++ (codes " by " ++ decimal by))

-- an abort line
abbrev pub abort_text : List (List ℕ) → Abort → List ℕ
abort_text names a =
    codes "abort " ++ (name_at names a.place.0 ++ (codes "." ++ (decimal a.place.1 ++ (codes " at " ++ (decimal a.seen ++ (codes " saw" ++ (flat_map spaced_reply a.replies ++ (codes " " ++ (cause_text a.cause ++ codes "\n")))))))))

-- the rows of an object
abbrev pub rows_text : Shape → List Row → List ℕ
rows_text (Single value) rows = signed_decimal (only_value rows)
rows_text (Counter value) rows = signed_decimal (only_value rows)
rows_text (Array len value) rows = listed_text (λ row. signed_decimal row.1) rows
rows_text (Hash buckets places) rows = listed_text row_text rows
rows_text (Tree leaves) rows = listed_text row_text rows
rows_text (Vector capacity) rows = listed_text (λ row. signed_decimal row.1) rows

-- the rows of the object with a number
abbrev pub rows_of : State → ℕ → List Row
rows_of state number = unwrap_or (slice_get state number) []

-- the line of a declared object
abbrev pub object_text : State → Declaration → List ℕ
object_text state d = d.name ++ (codes " = " ++ (rows_text d.shape (rows_of state d.number) ++ codes "\n"))

-- the journal lines, the abort lines, the line `state`, and the line of each declared object in file order
abbrev pub text_of : List (List ℕ) → List Declaration → List Entry → List Abort → State → List ℕ
text_of names declarations entries aborts state =
    flat_map (line_text names) entries ++ (flat_map (abort_text names) aborts ++ (codes "state\n" ++ flat_map (object_text state) declarations))

-- the report of an order and of aborted attempts
abbrev pub report_of : File → List TransactionPlace → List Abort → List ℕ
report_of file order aborts = text_of file.names file.declarations (entries_of file order) aborts (final_state file order)
