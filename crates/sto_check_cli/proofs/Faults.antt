-- What is wrong with bytes that were read is wrong with all that was left.
use Rattle.std.proofs.Common.{◌≡◌, ℕ, ◌+◌, ◌<◌, ◌≤◌, List, [], ◌++◌, length, refl, sym, ap, ◌∙◌, append-nil, arith, Bool, true, false, length-append, Option, Result, Ok, Err, true≢false}
use Rattle.std.specs.Prelude.{nat_lt, if◌then◌else◌}
use Rattle.std.specs.Result.{is_ok}
use Rattle.std.proofs.lemmas.Bool.{lt-ltb, le-ltb}
use Rattle.std.proofs.lemmas.Bool.Decides.{nat_tests}
use Rattle.sto_console.specs.Told.{Takes, AtEnd}
use Rattle.sto_lang.specs.Scripts.{File}
use Rattle.sto_lang.specs.Files.{file_of}
use Rattle.sto_lang.specs.declared.fault.ScriptFault.{ScriptFault}
use Rattle.sto_lang.specs.declared.fault.FaultKind.TheVariants.{TooLarge}
use Rattle.sto_check_cli.specs.Inputs.{Input, has_report, script_in, report_in, with_report, divided, input_of}
use Rattle.sto_args.specs.declared.asked.Checking.{Checking}
use Rattle.sto_console.specs.declared.refusal.InputFault.{InputFault}
use Rattle.sto_console.specs.declared.refusal.InputFault.TheVariants.{Script, NoReport}
use Rattle.sto_console.specs.declared.refusal.Refusal.{Refusal}
use Rattle.sto_console.specs.declared.refusal.Refusal.TheVariants.{Usage, ReadFault, WriteFault, NoMemory}
use Rattle.sto_console.specs.declared.refusal.Refusal.TheVariants as refusals
use Rattle.sto_console.specs.Ends.{Unmade}
use Rattle.sto_console.proofs.Reading.{if_told}
use Rattle.sto_check_cli.specs.Answers.{IsInputRefusal}
use Rattle.sto_check_cli.specs.Programs.{program}

abbrev too_large : Result Input InputFault
too_large = Err (Script (record { line = 0; kind = TooLarge }))

pub large : (bytes : List ℕ) → 16777216 < length bytes → input_of bytes ≡ too_large
large bytes l = ap (λ (b : Bool). if b then too_large else divided bytes) (lt-ltb 16777216 (length bytes) l)

small : (bytes : List ℕ) → length bytes ≤ 16777216 → input_of bytes ≡ divided bytes
small bytes l = ap (λ (b : Bool). if b then too_large else divided bytes) (le-ltb 16777216 (length bytes) l)

-- what stands on both sides of the line `report`
module _ (bytes script report : List ℕ) (l : length bytes ≤ 16777216) (some : has_report bytes ≡ true) (before : script ≡ script_in bytes) (after : report ≡ report_in bytes) where
  pub read_so : (read : Result File ScriptFault) → file_of script ≡ read → input_of bytes ≡ with_report report read
  read_so read e = small bytes l
      ∙ ap (λ (b : Bool). if b then with_report (report_in bytes) (file_of (script_in bytes)) else Err NoReport) some
      ∙ (λ i. with_report (sym after i) (file_of (sym before i)))
      ∙ ap (with_report report) e

by_size : (b : Bool) (bytes : List ℕ) (input : Input) → nat_lt 16777216 (length bytes) ≡ b → (if b then too_large else divided bytes) ≡ Ok input → length bytes < 16777217
by_size true bytes input e f = absurd (true≢false (sym (ap is_ok f)))
by_size false bytes input e f = grind (arith, nat_tests)

-- an input has so few bytes that reading it came to the end
pub small_input : (bytes : List ℕ) (input : Input) → input_of bytes ≡ Ok input → length bytes < 16777217
small_input bytes input e = by_size (nat_lt 16777216 (length bytes)) bytes input refl e

-- what was read to the end or past the limit is the input that all of it is
module _ (taken rest : List ℕ) (end : length taken < 16777217 → rest ≡ []) where
  pub same_input : input_of (taken ++ rest) ≡ input_of taken
  same_input = by (nat_lt (length taken) 16777217) refl
    where
      by : (b : Bool) → nat_lt (length taken) 16777217 ≡ b → input_of (taken ++ rest) ≡ input_of taken
      by true e = ap input_of (ap (λ (xs : List ℕ). taken ++ xs) (end (grind (arith, nat_tests))) ∙ append-nil taken)
      by false e =
          let l : 16777216 < length taken = grind (arith, nat_tests) in
          let n = length-append taken rest in
          large (taken ++ rest) (omega (arith, l, n)) ∙ sym (large taken l)

-- a fault of the input is one of all that was left
pub unmade : (asked : Checking) (left rest : Option (List ℕ)) (taken : List ℕ) (refusal : Refusal) → Takes left rest taken → (length taken < 16777217 → AtEnd rest)
    → IsInputRefusal refusal taken → Unmade program refusal asked left rest
unmade asked left rest taken (refusals.Input fault) t end e =
    (refl, if_told (λ (bytes : List ℕ). input_of bytes ≡ Err fault) 16777217 left rest taken t end (λ more last h. same_input taken more last ∙ h) e)
unmade asked left rest taken NoMemory t end e = tt
unmade asked left rest taken Usage t end e = absurd e
unmade asked left rest taken ReadFault t end e = absurd e
unmade asked left rest taken WriteFault t end e = absurd e
