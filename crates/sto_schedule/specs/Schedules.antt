-- Which words are a schedule of a file; else their fault.
use Rattle.std.specs.Prelude.{◌≡◌, ℕ, List, [], ◌∷◌, length, map, not, if◌then◌else◌, Option, None, Some, Result, Ok, Err}
use Rattle.std.specs.List.{list_all}
use Rattle.sto_syntax.specs.Forms.{ScheduleEntry, all_of, entry_of}
use Rattle.sto_syntax.specs.Lines.{words_of}
use Rattle.sto_syntax.specs.Numbers.{is_good_entry}
use Rattle.sto_lang.specs.declared.fault.FaultKind.{FaultKind}
use Rattle.sto_lang.specs.declared.fault.FaultKind.TheVariants.{BadLine, BadNumber, UnknownName, OutOfLimits}
use Rattle.sto_lang.specs.declared.file.Turns.{Turns}
use Rattle.sto_lang.specs.Drafts.{turns_of}
use Rattle.sto_lang.specs.Limits.{is_turn}
use Rattle.sto_lang.specs.Scripts.{File}
use Rattle.sto_lang.specs.Uses.{is_known_thread}
use Rattle.sto_schedule.specs.declared.read.ScheduleError.{ScheduleError}
use Rattle.sto_schedule.specs.declared.read.ScheduleError.TheVariants.{Fault, NoMemory}

-- the entries as those of a schedule of the file; else the first kind of fault that applies, as on a line of the file
abbrev pub entries_in : File → List ScheduleEntry → Result (List Turns) FaultKind
entries_in file entries =
    if not (list_all is_good_entry entries) then Err BadNumber
    else if not (list_all (λ entry. is_known_thread file.names entry.thread) entries) then Err UnknownName
    else if not (list_all (is_turn (length file.threads)) entries) then Err OutOfLimits
    else Ok (map (turns_of file.names) entries)

-- words that are no entries, or none at all, are no schedule
abbrev pub schedule_from : File → Option (List ScheduleEntry) → Result (List Turns) FaultKind
schedule_from file None = Err BadLine
schedule_from file (Some []) = Err BadLine
schedule_from file (Some (entry ∷ entries)) = entries_in file (entry ∷ entries)

-- the schedule that the words of a text are, as behind the word `schedule` of a line
abbrev pub schedule_of : File → List ℕ → Result (List Turns) FaultKind
schedule_of file text = schedule_from file (all_of (entry_of file.version) (words_of text))

-- the file with a schedule in the place of its own
abbrev pub with_turns : File → Result (List Turns) FaultKind → Result File FaultKind
with_turns file (Ok turns) = Ok (record file { schedule = Some turns })
with_turns file (Err kind) = Err kind

abbrev pub with_schedule : File → List ℕ → Result File FaultKind
with_schedule file text = with_turns file (schedule_of file text)

-- a result of the definition is this fault, or memory could not be had
abbrev pub IsFault : {A : Type 0} → Result A FaultKind → ScheduleError → Type 0
IsFault told (Fault kind) = told ≡ Err kind
IsFault told NoMemory = Unit {0}

-- why words were not taken: the fault that is told is theirs, and want of memory may come at any time
abbrev pub IsCause : File → List ℕ → ScheduleError → Type 0
IsCause file text error = IsFault (with_schedule file text) error
