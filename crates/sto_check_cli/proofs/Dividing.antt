-- Lines that are looked through for a line `report`.
use Rattle.std.proofs.Common.{◌≡◌, ℕ, ◌+◌, ◌<◌, ◌≤◌, List, [], ◌∷◌, ◌++◌, length, take, drop, refl, sym, ap, ◌∙◌, append_assoc, append-nil, arith, Bool, true, false, cond, ◌||◌, length-append, length-drop}
use Rattle.std.specs.List.{list_any, concat}
use Rattle.std.proofs.lemmas.List.{drop-drop}
use Rattle.std.proofs.Math.Seq.{take-add, drop-append_seam, take-append_seam}
use Rattle.sto_checker.specs.Lines.{is_line_feed, onto_line, lines_of}
use Rattle.sto_check_cli.specs.Inputs.{is_report_line, has_report, lines_before, lines_behind, script_in, report_in}

onto_all : (b : ℕ) (lines : List (List ℕ)) → concat (onto_line b lines) ≡ b ∷ concat lines
onto_all b [] = refl
onto_all b (line ∷ lines) = refl

-- the lines of bytes are all of them
pub all_lines : (bytes : List ℕ) → concat (lines_of bytes) ≡ bytes
all_lines [] = refl
all_lines (b ∷ bytes) = by (is_line_feed b) (all_lines bytes)
  where
    by : (t : Bool) → concat (lines_of bytes) ≡ bytes → concat (cond t ((b ∷ []) ∷ lines_of bytes) (onto_line b (lines_of bytes))) ≡ b ∷ bytes
    by true rest = ap (λ (xs : List ℕ). b ∷ xs) rest
    by false rest = onto_all b (lines_of bytes) ∙ ap (λ (xs : List ℕ). b ∷ xs) rest

-- a line and what follows it
pub line_and : (bytes line more : List ℕ) → lines_of bytes ≡ line ∷ lines_of more → bytes ≡ line ++ more
line_and bytes line more e = sym (all_lines bytes) ∙ ap concat e ∙ ap (λ (xs : List ℕ). line ++ xs) (all_lines more)

-- so many bytes were passed, and no line of them is `report`
pub record IsPassed (bytes : List ℕ) (before : ℕ) (rest : List ℕ) : Type 0 where
  pub any : has_report bytes ≡ has_report rest
  pub script : script_in bytes ≡ take before bytes ++ script_in rest
  pub behind : report_in bytes ≡ report_in rest
  pub left : drop before bytes ≡ rest
  pub within : before ≤ length bytes

module _ (bytes : List ℕ) (before : ℕ) (rest line more : List ℕ) (h : IsPassed bytes before rest) (e : lines_of rest ≡ line ∷ lines_of more) where
  rest_is : rest ≡ line ++ more
  rest_is = line_and rest line more e

  count : length bytes ≡ before + length rest
  count = let n = ap length h.left in let within = h.within in let d = length-drop before bytes in omega (arith, n, within, d)

  longer : length rest ≡ length line + length more
  longer = ap length rest_is ∙ length-append line more

  -- one more line is passed
  pub passed_more : is_report_line line ≡ false → IsPassed bytes (before + length line) more
  passed_more n = record {
    any = h.any ∙ ap (list_any is_report_line) e ∙ ap (λ (b : Bool). b || has_report more) n;
    script = h.script ∙ ap (λ (xs : List ℕ). take before bytes ++ xs) (ap (λ (ls : List (List ℕ)). concat (lines_before ls)) e
        ∙ ap (λ (b : Bool). concat (cond b [] (line ∷ lines_before (lines_of more)))) n)
        ∙ sym (append_assoc (take before bytes) line (script_in more))
        ∙ ap (λ (xs : List ℕ). (take before bytes ++ xs) ++ script_in more) (sym (ap (take (length line)) (h.left ∙ rest_is) ∙ take-append_seam line more))
        ∙ ap (λ (xs : List ℕ). xs ++ script_in more) (sym (take-add before (length line) bytes));
    behind = h.behind ∙ ap (λ (ls : List (List ℕ)). concat (lines_behind ls)) e ∙ ap (λ (b : Bool). concat (cond b (lines_of more) (lines_behind (lines_of more)))) n;
    left = sym (drop-drop (length line) before bytes) ∙ ap (drop (length line)) (h.left ∙ rest_is) ∙ drop-append_seam line more;
    within = omega (arith, count, longer);
  }

  -- the line divides the bytes
  pub found_any : is_report_line line ≡ true → has_report bytes ≡ true
  found_any y = h.any ∙ ap (list_any is_report_line) e ∙ ap (λ (b : Bool). b || has_report more) y

  pub found_script : is_report_line line ≡ true → take before bytes ≡ script_in bytes
  found_script y = sym (h.script ∙ ap (λ (xs : List ℕ). take before bytes ++ xs) (ap (λ (ls : List (List ℕ)). concat (lines_before ls)) e
      ∙ ap (λ (b : Bool). concat (cond b [] (line ∷ lines_before (lines_of more)))) y) ∙ append-nil (take before bytes))

  pub found_report : is_report_line line ≡ true → more ≡ report_in bytes
  found_report y = sym (h.behind ∙ ap (λ (ls : List (List ℕ)). concat (lines_behind ls)) e
      ∙ ap (λ (b : Bool). concat (cond b (lines_of more) (lines_behind (lines_of more)))) y ∙ all_lines more)

  pub found_less : length more < length rest → length more < length bytes
  found_less less = omega (arith, count, less)
