-- A file has at most so many bytes that reading it came to the end, and a fault of bytes that were read is one of all that was left.
use Rattle.std.proofs.Common.{◌≡◌, ℕ, ◌<◌, List, [], ◌++◌, length, length-append, append-nil, refl, sym, ap, ◌∙◌, Bool, true, false, cond, nat_lt, Option, Result, Ok, Err, arith}
use Rattle.std.proofs.lemmas.Bool.{lt-ltb}
use Rattle.std.proofs.lemmas.Bool.Decides.{nat_tests}
use Rattle.sto_lang.specs.Lines.{lines_of}
use Rattle.sto_lang.specs.declared.fault.FaultKind.TheVariants.{TooLarge}
use Rattle.sto_lang.specs.declared.fault.ScriptFault.{ScriptFault}
use Rattle.sto_lang.specs.Scripts.{File}
use Rattle.sto_lang.specs.Drafts.{opening}
use Rattle.sto_lang.specs.Files.{fault, with_lines, file_of}
use Rattle.sto_console.specs.Told.{Takes, AtEnd}
use Rattle.sto_console.specs.Read.{IfTold}
use Rattle.sto_console.proofs.Reading.{if_told}

not_large : (n : ℕ) → nat_lt 1048576 n ≡ false → n < 1048577
not_large n e = grind (arith, nat_tests)

by_size : (large : Bool) (n : ℕ) (rest : Result File ScriptFault) (file : File) → nat_lt 1048576 n ≡ large → cond large (fault 0 TooLarge) rest ≡ Ok file → n < 1048577
by_size true n rest file e f = absurd cc
by_size false n rest file e f = not_large n e

pub small_file : (bytes : List ℕ) (file : File) → file_of bytes ≡ Ok file → length bytes < 1048577
small_file bytes file e = by_size (nat_lt 1048576 (length bytes)) (length bytes) (with_lines opening 1 (lines_of bytes)) file refl e

large : (bytes : List ℕ) → 1048576 < length bytes → file_of bytes ≡ fault 0 TooLarge
large bytes l = ap (λ (b : Bool). cond b (fault {A = File} 0 TooLarge) (with_lines opening 1 (lines_of bytes))) (lt-ltb 1048576 (length bytes) l)

-- what was read to the end or past the limit is what all of it is
same_file : (taken more : List ℕ) → (length taken < 1048577 → more ≡ []) → file_of (taken ++ more) ≡ file_of taken
same_file taken more end = by (nat_lt (length taken) 1048577) refl
  where
    by : (b : Bool) → nat_lt (length taken) 1048577 ≡ b → file_of (taken ++ more) ≡ file_of taken
    by true e = ap file_of (ap (λ (xs : List ℕ). taken ++ xs) (end (grind (arith, nat_tests))) ∙ append-nil taken)
    by false e =
        let l : 1048576 < length taken = grind (arith, nat_tests) in
        let n = length-append taken more in
        large (taken ++ more) (omega (arith, l, n)) ∙ sym (large taken l)

pub told_fault : (left rest : Option (List ℕ)) (taken : List ℕ) (e : ScriptFault) → Takes left rest taken → (length taken < 1048577 → AtEnd rest) → file_of taken ≡ Err e
    → IfTold left rest (λ bytes. file_of bytes ≡ Err e)
told_fault left rest taken e t end h = if_told (λ (bytes : List ℕ). file_of bytes ≡ Err e) 1048577 left rest taken t end (λ more last f. same_file taken more last ∙ f) h
