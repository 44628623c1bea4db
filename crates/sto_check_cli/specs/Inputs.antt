-- What the checker reads: a script, a line `report`, and a report.
use Rattle.std.specs.Prelude.{◌||◌, ℕ, List, [], ◌∷◌, length, Bool, nat_lt, codes, if◌then◌else◌, Result, Ok, Err}
use Rattle.std.specs.List.{list_any, concat}
use Rattle.std.specs.Str.{bytes_eq}
use Rattle.sto_lang.specs.Scripts.{File}
use Rattle.sto_lang.specs.Files.{file_of}
use Rattle.sto_lang.specs.declared.fault.ScriptFault.{ScriptFault}
use Rattle.sto_lang.specs.declared.fault.FaultKind.TheVariants.{TooLarge}
use Rattle.sto_checker.specs.Lines.{lines_of}
use Rattle.sto_console.specs.declared.refusal.InputFault.{InputFault}
use Rattle.sto_console.specs.declared.refusal.InputFault.TheVariants.{Script, NoReport}

-- a line of exactly these six bytes; the last line of what is read may lack its line feed
abbrev pub is_report_line : List ℕ → Bool
is_report_line line = bytes_eq line (codes "report\n") || bytes_eq line (codes "report")

abbrev pub has_report : List ℕ → Bool
has_report bytes = list_any is_report_line (lines_of bytes)

-- the lines before the first such line; all where there is none
abbrev pub lines_before : List (List ℕ) → List (List ℕ)
lines_before [] = []
lines_before (line ∷ lines) = if is_report_line line then [] else line ∷ lines_before lines

-- the lines behind it; none where there is none
abbrev pub lines_behind : List (List ℕ) → List (List ℕ)
lines_behind [] = []
lines_behind (line ∷ lines) = if is_report_line line then lines else lines_behind lines

abbrev pub script_in : List ℕ → List ℕ
script_in bytes = concat (lines_before (lines_of bytes))

abbrev pub report_in : List ℕ → List ℕ
report_in bytes = concat (lines_behind (lines_of bytes))

-- a file, and the bytes of a report of it
pub record Input : Type 0 where
  pub file : File
  pub report : List ℕ

abbrev pub with_report : List ℕ → Result File ScriptFault → Result Input InputFault
with_report report (Ok file) = Ok (record { file = file; report = report })
with_report report (Err fault) = Err (Script fault)

abbrev pub divided : List ℕ → Result Input InputFault
divided bytes = if has_report bytes then with_report (report_in bytes) (file_of (script_in bytes)) else Err NoReport

-- the input that the bytes are, or else their first fault in this order: too many bytes, no report, a fault of the script
abbrev pub input_of : List ℕ → Result Input InputFault
input_of bytes = if nat_lt 16777216 (length bytes) then Err (Script (record { line = 0; kind = TooLarge })) else divided bytes
