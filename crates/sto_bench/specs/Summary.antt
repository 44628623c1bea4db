-- The summary of a run of a generated file: its number, how many transactions were run, and what the objects hold at the end.
use Rattle.std.specs.Prelude.{◌≡◌, ℕ, ℤ, pos, ◌+ℤ◌, List, ◌++◌, length, fold, codes, decimal, Option, None, Some}
use Rattle.std.specs.Fmt.{signed_decimal}
use Rattle.sto_model.specs.Rows.{Row}
use Rattle.sto_model.specs.Run.{State}
use Rattle.sto_lang.specs.Objects.{Declaration}
use Rattle.sto_report_spec.specs.Report.{rows_of}
use Rattle.sto_report_spec.specs.LawfulAborts.{declared_as}
use Rattle.sto_gen.specs.Generated.{objects}

-- the number of an object, where it is declared
abbrev pub number_of : Option Declaration → ℕ
number_of None = 0
number_of (Some d) = d.number

-- the rows of a generated file's object with a name
abbrev pub rows_named : State → List ℕ → List Row
rows_named state name = rows_of state (number_of (declared_as name objects))

-- the sum of the values, over the integers
abbrev pub total_of : List Row → ℤ
total_of rows = fold (λ total row. total +ℤ row.1) (pos 0) rows

-- a word and a number
abbrev pub line_of : List ℕ → List ℕ → List ℕ
line_of word number = word ++ (codes " " ++ (number ++ codes "\n"))

-- the five lines
abbrev pub summary_of : ℕ → ℕ → State → List ℕ
summary_of number transactions state =
    line_of (codes "bench") (decimal number)
    ++ (line_of (codes "transactions") (decimal transactions)
    ++ (line_of (codes "acct") (signed_decimal (total_of (rows_named state (codes "acct"))))
    ++ (line_of (codes "log") (decimal (length (rows_named state (codes "log"))))
    ++ line_of (codes "owner") (decimal (length (rows_named state (codes "owner")))))))

-- the accounts hold 64,000 together, the log has 160 pairs, and the table of owners has 128
pub record HasTotals (state : State) : Type 0 where
  pub accounts : total_of (rows_named state (codes "acct")) ≡ pos 64000
  pub log : length (rows_named state (codes "log")) ≡ 160
  pub owners : length (rows_named state (codes "owner")) ≡ 128
