-- What `explore` prints of the orders of a file.
use Rattle.std.specs.Prelude.{ℕ, ◌-◌, ◌^◌, List, [], ◌∷◌, ◌++◌, length, map, flat_map, take, sum_by, Bool, if◌then◌else◌, Option, None, Some, nat_eq, nat_lt, codes, decimal}
use Rattle.std.specs.List.{enumerate_from, join_with_byte}
use Rattle.sto_lang.specs.declared.file.Turns.{Turns}
use Rattle.sto_lang.specs.Scripts.{File}
use Rattle.sto_write.specs.Texts.{entries_text}
use Rattle.sto_run_orders.specs.declared.asked.Asking.{Asking}
use Rattle.sto_run_orders.specs.declared.asked.Asking.TheVariants.{Where, Never}
use Rattle.sto_run_orders.specs.declared.report.OrderReport.{OrderReport}
use Rattle.sto_run_orders.specs.Reports.{entries_in}

-- a number of orders, below 2^64, or else `many`
abbrev pub count_text : Option ℕ → List ℕ
count_text None = codes "many"
count_text (Some count) = decimal count

-- a schedule as the last line of the file would have it; nothing where it has no entry
abbrev pub schedule_text : File → List Turns → List ℕ
schedule_text file entries = if nat_eq (length entries) 0 then [] else codes "schedule" ++ entries_text file.version file.names entries

-- Text.

-- the line of a schedule, where it has an entry
abbrev pub schedule_line : File → List Turns → List ℕ
schedule_line file entries = if nat_eq (length entries) 0 then [] else schedule_text file entries ++ codes "\n"

-- the number of an outcome, and how many orders lead to it
abbrev pub heading : ℕ → Option ℕ → List ℕ
heading number orders = codes "outcome " ++ (decimal number ++ (codes " orders " ++ (count_text orders ++ codes "\n")))

-- an outcome by its number: how many orders lead to it, a schedule that does, and its report
abbrev pub report_text : File → ℕ × OrderReport → List ℕ
report_text file (number, r) = heading number r.orders ++ (schedule_line file (entries_in r.schedule) ++ (codes "report\n" ++ r.report.items))

-- how many orders there are where so many lead to each outcome
abbrev pub orders_at_least : Option ℕ → ℕ
orders_at_least None = 2 ^ 64
orders_at_least (Some count) = count

abbrev pub told_below : ℕ → ℕ → Option ℕ
told_below limit count = if nat_lt count limit then Some count else None

abbrev pub all_orders : List OrderReport → Option ℕ
all_orders reports = told_below (2 ^ 64) (sum_by (λ r. orders_at_least r.orders) reports)

-- all orders, and how many outcomes they lead to
abbrev pub sum_line : List OrderReport → List ℕ
sum_line reports = codes "sum orders " ++ (count_text (all_orders reports) ++ (codes " outcomes " ++ (decimal (length reports) ++ codes "\n")))

-- the outcomes, numbered from 1, and then the line of their sums
abbrev pub reports_text : File → List OrderReport → List ℕ
reports_text file reports = flat_map (report_text file) (enumerate_from 1 reports) ++ sum_line reports

-- Text of the outcomes alone that were asked for.

-- the word by which they were asked for
abbrev pub asking_word : Asking → List ℕ
asking_word Where = codes "where"
asking_word Never = codes "never"

-- how many they are, of so many
abbrev pub asked_line : Asking → ℕ → List OrderReport → List ℕ
asked_line asking all kept = asking_word asking ++ (codes " " ++ (decimal (length kept) ++ (codes " of " ++ (decimal all ++ codes "\n"))))

-- these, numbered from 1, and then that line
abbrev pub asked_text : Asking → ℕ → File → List OrderReport → List ℕ
asked_text asking all file kept = flat_map (report_text file) (enumerate_from 1 kept) ++ asked_line asking all kept

-- JSON: objects on one line, their members in rising order of their names.

-- a number of orders; `many` is a text
abbrev pub count_json : Option ℕ → List ℕ
count_json None = codes "\"many\""
count_json (Some count) = decimal count

-- the text of a report without the end of its last line
abbrev pub without_end : List ℕ → List ℕ
without_end text = take (length text - 1) text

-- an outcome: how many orders lead to it, its report, which is an object itself, and a schedule that leads to it
abbrev pub report_json : File → OrderReport → List ℕ
report_json file r =
    codes "{\"orders\":" ++ (count_json r.orders ++ (codes ",\"report\":" ++ (without_end r.report.items
    ++ (codes ",\"schedule\":\"" ++ (schedule_text file (entries_in r.schedule) ++ codes "\"}")))))

-- all orders, and the outcomes as an array, with a comma between each two
abbrev pub reports_json : File → List OrderReport → List ℕ
reports_json file reports =
    codes "{\"orders\":" ++ (count_json (all_orders reports) ++ (codes ",\"outcomes\":["
    ++ (join_with_byte 44 (map (report_json file) reports) ++ codes "]}\n")))

-- of how many outcomes some were asked for, and these as an array
abbrev pub of_json : ℕ → File → List OrderReport → List ℕ
of_json all file kept =
    codes "\"of\":" ++ (decimal all ++ (codes ",\"outcomes\":[" ++ (join_with_byte 44 (map (report_json file) kept) ++ codes "]")))

-- the same, and how many they are
abbrev pub asked_json : Asking → ℕ → File → List OrderReport → List ℕ
asked_json Where all file kept = codes "{" ++ (of_json all file kept ++ (codes ",\"where\":" ++ (decimal (length kept) ++ codes "}\n")))
asked_json Never all file kept = codes "{\"never\":" ++ (decimal (length kept) ++ (codes "," ++ (of_json all file kept ++ codes "}\n")))

-- what is printed of the outcomes that were asked for, in the form that is asked for
abbrev pub asked_in : Bool → Asking → ℕ → File → List OrderReport → List ℕ
asked_in json asking all file kept = if json then asked_json asking all file kept else asked_text asking all file kept

-- what is printed, in the form that is asked for
abbrev pub reports_in : Bool → File → List OrderReport → List ℕ
reports_in json file reports = if json then reports_json file reports else reports_text file reports
