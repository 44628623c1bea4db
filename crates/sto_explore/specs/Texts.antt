-- What `explore` prints of the outcomes of a file.
use Rattle.std.specs.Prelude.{ℕ, ◌-◌, List, [], ◌++◌, length, map, flat_map, take, Bool, if◌then◌else◌, nat_eq, codes, decimal, string_bytes}
use Rattle.std.specs.List.{enumerate_from, join_with_byte}
use Rattle.sto_lang.specs.declared.file.Turns.{Turns}
use Rattle.sto_lang.specs.Scripts.{File}
use Rattle.sto_write.specs.Texts.{entries_text}
use Rattle.sto_explore.specs.declared.leg.Leg.{Leg}
use Rattle.sto_explore.specs.declared.outcome.Outcome.{Outcome}
use Rattle.sto_explore.specs.declared.outcome.Outcomes.{Outcomes}

-- a leg as an entry of a schedule: so many steps of its thread
abbrev pub entry_of : Leg → Turns
entry_of leg = record { thread = leg.thread; steps = leg.turns }

abbrev pub entries_of : List Leg → List Turns
entries_of legs = map entry_of legs

-- legs as the schedule of a file names them
abbrev pub legs_text : File → List Leg → List ℕ
legs_text file legs = entries_text file.version file.names (entries_of legs)

-- the schedule that leads to an outcome, as the last line of the file would have it; nothing where nothing is to be run
abbrev pub schedule_text : File → Outcome → List ℕ
schedule_text file o = if nat_eq (length o.legs.items) 0 then [] else codes "schedule" ++ legs_text file o.legs.items

-- Text.

-- the line of that schedule, where there is one
abbrev pub schedule_line : File → Outcome → List ℕ
schedule_line file o = if nat_eq (length o.legs.items) 0 then [] else schedule_text file o ++ codes "\n"

-- an outcome by its number: how many schedules lead to it, one that does, and its report
abbrev pub outcome_text : File → ℕ × Outcome → List ℕ
outcome_text file (number, o) =
    codes "outcome " ++ (decimal number ++ (codes " schedules " ++ (decimal o.schedules ++ (codes "\n"
    ++ (schedule_line file o ++ (codes "report\n" ++ string_bytes o.text))))))

-- all schedules, how many outcomes they lead to, and the aborted attempts of all their runs, by cause
abbrev pub sum_line : Outcomes → List ℕ
sum_line outcomes =
    codes "sum schedules " ++ (decimal outcomes.schedules ++ (codes " outcomes " ++ (decimal (length outcomes.each.items)
    ++ (codes " locked " ++ (decimal outcomes.aborted.locked ++ (codes " changed " ++ (decimal outcomes.aborted.changed ++ codes "\n")))))))

-- the outcomes, numbered from 1, and then the line of their sums
abbrev pub outcomes_text : File → Outcomes → List ℕ
outcomes_text file outcomes = flat_map (outcome_text file) (enumerate_from 1 outcomes.each.items) ++ sum_line outcomes

-- JSON: objects on one line, their members in rising order of their names.

-- the text of a report without the end of its last line
abbrev pub without_end : List ℕ → List ℕ
without_end text = take (length text - 1) text

-- an outcome: its report, which is an object itself, a schedule that leads to it, and how many do
abbrev pub outcome_json : File → Outcome → List ℕ
outcome_json file o =
    codes "{\"report\":" ++ (without_end (string_bytes o.text) ++ (codes ",\"schedule\":\"" ++ (schedule_text file o
    ++ (codes "\",\"schedules\":" ++ (decimal o.schedules ++ codes "}")))))

-- the outcomes as an array, with a comma between each two, among what the line of their sums says
abbrev pub outcomes_json : File → Outcomes → List ℕ
outcomes_json file outcomes =
    codes "{\"changed\":" ++ (decimal outcomes.aborted.changed ++ (codes ",\"locked\":" ++ (decimal outcomes.aborted.locked
    ++ (codes ",\"outcomes\":[" ++ (join_with_byte 44 (map (outcome_json file) outcomes.each.items)
    ++ (codes "],\"schedules\":" ++ (decimal outcomes.schedules ++ codes "}\n")))))))

-- what is printed, in the form that is asked for
abbrev pub outcomes_in : Bool → File → Outcomes → List ℕ
outcomes_in json file outcomes = if json then outcomes_json file outcomes else outcomes_text file outcomes
