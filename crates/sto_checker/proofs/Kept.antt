-- What is kept of journal lines, with one more of them.
use Rattle.std.proofs.Common.{◌≡◌, ◌⊎◌, ℕ, zero, suc, ◌+◌, ◌<◌, ◌≤◌, ◌^◌, List, [], ◌∷◌, ◌++◌, length, map, refl, sym, ap, ◌∙◌, subst, Bool, true, false, cond, ◌==◌, Option, None, Some, slice_get, slice_set, option_and_then, replicate, arith, append-nil, inl, inr}
use Rattle.std.specs.Option.{option_map}
use Rattle.std.specs.List.{slice_split, flat_map, All}
use Rattle.std.proofs.lemmas.List.Elements.{All-nil, All-cons, All-head, All-tail}
use Rattle.std.proofs.lemmas.List.{length-map, map-append}
use Rattle.std.proofs.lemmas.Option.{slice_get_within, slice_get-map}
use Rattle.std.proofs.lemmas.Bool.Decides.{nat_tests}
use Rattle.sto_model.specs.PlainReplies.{PlainReply, plain_reply}
use Rattle.sto_model.specs.Run.{State, Behaviour}
use Rattle.sto_model.specs.Serial.{SerialRun, is_writer_run, has_written}
use Rattle.sto_model.specs.declared.run.End.{End}
use Rattle.sto_model.specs.declared.run.End.TheVariants as ends
use Rattle.sto_lang.specs.Scripts.{Script, File}
use Rattle.sto_script.specs.Meaning.{meaning_of}
use Rattle.sto_report_spec.specs.Orders.{TransactionPlace, at_position, transaction_at, count_in, positions_of}
use Rattle.sto_report_spec.specs.Replay.{Entry, run_at, is_writer, ending_by, counted, entry_at, entries_from, state_from, opening_state, final_state}
use Rattle.sto_report_spec.specs.Named.{is_line_feed, is_space, named_in, places_in, order_named}
use Rattle.sto_report_spec.specs.declared.ending.Ending.{Ending}
use Rattle.sto_report_spec.specs.declared.ending.Ending.TheVariants.{Commit, Read, Cancel}
use Rattle.sto_journal.specs.declared.journal.Line.{Line}
use Rattle.sto_journal.specs.Journals.{entry, places}
use Rattle.sto_checker.specs.Runs.{writers_from, IsSoFar}
use Rattle.sto_checker.proofs.OneMore.{entries_from-more}
use Rattle.sto_checker.specs.Lines.{HasContent}
use Rattle.sto_checker.specs.Written.{objects_along, objects_in, written_from, written_of}
use Rattle.sto_checker.specs.declared.past.Past.{Past}
use Rattle.sto_checker.specs.Past.{told_objects, IsPast}
use Rattle.sto_checker.specs.Right.{entry_after}
use Rattle.sto_checker.specs.Shown.{IsInside}

-- Places in lists.

pub at_end : {X : Type 0} (xs : List X) (x : X) → slice_get (xs ++ x ∷ []) (length xs) ≡ Some x
at_end [] x = refl
at_end (y ∷ xs) x = at_end xs x

pub all_zero : (n t c : ℕ) → slice_get (replicate n 0) t ≡ Some c → c ≡ 0
all_zero zero zero c e = absurd cc
all_zero zero (suc t) c e = absurd cc
all_zero (suc n) zero c e = cc
all_zero (suc n) (suc t) c e = all_zero n t c e

pub set_at : (xs : List ℕ) (i v t c : ℕ) → i < length xs → slice_get (slice_set xs i v) t ≡ Some c → ((t ≡ i) × (c ≡ v)) ⊎ ((t ≡ i → ⊥) × (slice_get xs t ≡ Some c))
set_at [] i v t c l e = absurd (omega (arith, l))
set_at (x ∷ xs) zero v zero c l e = inl (refl, cc)
set_at (x ∷ xs) zero v (suc t) c l e = inr ((λ f. absurd (omega (arith, f))), e)
set_at (x ∷ xs) (suc i) v zero c l e = inr ((λ f. absurd (omega (arith, f))), e)
set_at (x ∷ xs) (suc i) v (suc t) c l e = by (set_at xs i v t c (omega (arith, l)) e)
  where
    by : ((t ≡ i) × (c ≡ v)) ⊎ ((t ≡ i → ⊥) × (slice_get xs t ≡ Some c)) → ((suc t ≡ suc i) × (c ≡ v)) ⊎ ((suc t ≡ suc i → ⊥) × (slice_get xs t ≡ Some c))
    by (inl h) = inl (ap suc h.0, h.1)
    by (inr h) = inr ((λ f. h.0 (omega (arith, f))), h.1)

-- Transactions.

in_scripts : (position : ℕ) (scripts : List Script) (s : Script) → at_position position scripts ≡ Some s → (1 ≤ position) × (position ≤ length scripts)
in_scripts zero scripts s e = absurd cc
in_scripts (suc earlier) scripts s e = let l = slice_get_within scripts earlier s e in (omega arith, omega (arith, l))

inside : (threads : List (List Script)) (thread position : ℕ) (s : Script) → option_and_then (at_position position) (slice_get threads thread) ≡ Some s
    → (thread < length threads) × (1 ≤ position) × (position ≤ count_in threads thread)
inside [] zero position s e = absurd cc
inside [] (suc thread) position s e = absurd cc
inside (scripts ∷ threads) zero position s e = let h = in_scripts position scripts s e in (omega arith, h.0, h.1)
inside (scripts ∷ threads) (suc thread) position s e = let h = inside threads thread position s e in (let l = h.0 in omega (arith, l), h.1, h.2)

pub is_inside : (f : File) (place : TransactionPlace) (s : Script) → transaction_at f place ≡ Some s → IsInside f.threads place
is_inside f place s e = let h = inside f.threads place.0 place.1 s e in record { thread = h.0; first = h.1; last = h.2 }

pub positions_of-more : (t : ℕ) (order : List TransactionPlace) (place : TransactionPlace) → positions_of t (order ++ place ∷ []) ≡ positions_of t order ++ positions_of t (place ∷ [])
positions_of-more t [] place = refl
positions_of-more t (p ∷ order) place = by (p.0 == t) (positions_of-more t order place)
  where
    by : (b : Bool) → positions_of t (order ++ place ∷ []) ≡ positions_of t order ++ positions_of t (place ∷ [])
        → cond b (p.1 ∷ positions_of t (order ++ place ∷ [])) (positions_of t (order ++ place ∷ []))
        ≡ cond b (p.1 ∷ positions_of t order) (positions_of t order) ++ positions_of t (place ∷ [])
    by true h = ap (λ (ns : List ℕ). p.1 ∷ ns) h
    by false h = h

same_thread : (a b : ℕ) → a ≡ b → (a == b) ≡ true
same_thread a b e = grind (arith, nat_tests)

other_thread : (a b : ℕ) → (a ≡ b → ⊥) → (a == b) ≡ false
other_thread a b e = grind (arith, nat_tests)

-- how many of a thread there are with one more
pub count_same : (order : List TransactionPlace) (place : TransactionPlace) (t c : ℕ) → t ≡ place.0 → c ≡ suc (length (positions_of place.0 order)) → c ≡ length (positions_of t (order ++ place ∷ []))
count_same order place t c e h =
    let more : positions_of place.0 (order ++ place ∷ []) ≡ positions_of place.0 order ++ place.1 ∷ [] =
    positions_of-more place.0 order place ∙ ap (λ (b : Bool). positions_of place.0 order ++ cond b (place.1 ∷ []) []) (same_thread place.0 place.0 refl) in
    h ∙ sym (length_more (positions_of place.0 order) place.1) ∙ sym (ap length more) ∙ ap (λ (n : ℕ). length (positions_of n (order ++ place ∷ []))) (sym e)
  where
    length_more : (ns : List ℕ) (n : ℕ) → length (ns ++ n ∷ []) ≡ suc (length ns)
    length_more [] n = refl
    length_more (m ∷ ns) n = ap suc (length_more ns n)

pub count_other : (order : List TransactionPlace) (place : TransactionPlace) (t c : ℕ) → (t ≡ place.0 → ⊥) → c ≡ length (positions_of t order) → c ≡ length (positions_of t (order ++ place ∷ []))
count_other order place t c e h =
    h
    ∙ sym (ap length (positions_of-more t order place ∙ ap (λ (b : Bool). positions_of t order ++ cond b (place.1 ∷ []) []) (other_thread place.0 t (λ f. e (sym f))) ∙ append-nil (positions_of t order)))

-- The last line.

pub last_entry : (f : File) (old new : List Line) (place : TransactionPlace) (line : Line)
    → map entry old ≡ entries_from f 0 (opening_state f) (places old) → map entry new ≡ entries_from f 0 (opening_state f) (places new)
    → places new ≡ places old ++ place ∷ [] → slice_get new (length old) ≡ Some line → entry line ≡ entry_after f (places old) place
last_entry f old new place line told_old told_new placed stands =
    let made : map entry new ≡ map entry old ++ entry_after f (places old) place ∷ [] =
    told_new
    ∙ ap (entries_from f 0 (opening_state f)) placed
    ∙ entries_from-more f 0 (opening_state f) (places old) place
    ∙ ap (λ (es : List Entry). es ++ entry_after f (places old) place ∷ []) (sym told_old) in
    let long : length (map entry old) ≡ length old = length-map old entry in
    let here : slice_get (map entry new) (length old) ≡ Some (entry line) = slice_get-map entry new (length old) ∙ ap (option_map entry) stands in
    let there : slice_get (map entry new) (length old) ≡ Some (entry_after f (places old) place) =
    ap (λ (es : List Entry). slice_get es (length old)) made
    ∙ ap (slice_get (map entry old ++ entry_after f (places old) place ∷ [])) (sym long)
    ∙ at_end (map entry old) (entry_after f (places old) place) in
    some_same (entry line) (entry_after f (places old) place) (sym here ∙ there)
  where
    some_same : (a b : Entry) → Some a ≡ Some b → a ≡ b
    some_same a b e = cc

-- What writers wrote.

abbrev pub written_at : File → State → TransactionPlace → List (List ℕ)
written_at f st place = cond (is_writer (transaction_at f place) (run_at f st place)) (objects_in (transaction_at f place) (run_at f st place) ∷ []) []

pub written_from-more : (f : File) (st : State) (order : List TransactionPlace) (place : TransactionPlace) → written_from f st (order ++ place ∷ []) ≡ written_from f st order ++ written_at f (state_from f st order) place
written_from-more f st [] place = refl
written_from-more f st (p ∷ order) place = by (is_writer (transaction_at f p) (run_at f st p)) (written_from-more f (run_at f st p).after order place)
  where
    by : (b : Bool) → written_from f (run_at f st p).after (order ++ place ∷ []) ≡ written_from f (run_at f st p).after order ++ written_at f (state_from f (run_at f st p).after order) place
        → cond b (objects_in (transaction_at f p) (run_at f st p) ∷ written_from f (run_at f st p).after (order ++ place ∷ [])) (written_from f (run_at f st p).after (order ++ place ∷ []))
        ≡ cond b (objects_in (transaction_at f p) (run_at f st p) ∷ written_from f (run_at f st p).after order) (written_from f (run_at f st p).after order) ++ written_at f (state_from f (run_at f st p).after order) place
    by true h = ap (λ (os : List (List ℕ)). objects_in (transaction_at f p) (run_at f st p) ∷ os) h
    by false h = h

pub length-written : (f : File) (st : State) (order : List TransactionPlace) → length (written_from f st order) ≤ length order
length-written f st [] = omega arith
length-written f st (p ∷ order) = by (is_writer (transaction_at f p) (run_at f st p)) (length-written f (run_at f st p).after order)
  where
    by : (b : Bool) → length (written_from f (run_at f st p).after order) ≤ length order
        → length (cond b (objects_in (transaction_at f p) (run_at f st p) ∷ written_from f (run_at f st p).after order) (written_from f (run_at f st p).after order)) ≤ length (p ∷ order)
    by true h = omega (arith, h)
    by false h = omega (arith, h)

told_by : (steps : Behaviour) (replies : List PlainReply) (end : End) → cond (is_writer_run steps replies end) (objects_along steps replies ∷ []) [] ≡ told_objects (ending_by (is_writer_run steps replies end) end) (objects_along steps replies)
told_by steps replies ends.Commit = by (has_written steps replies)
  where
    by : (b : Bool) → cond b (objects_along steps replies ∷ []) [] ≡ told_objects (ending_by b ends.Commit) (objects_along steps replies)
    by true = refl
    by false = refl
told_by steps replies ends.Cancel = refl

-- what the line tells of a transaction is what it wrote
pub written_told : (f : File) (st : State) (place : TransactionPlace) (s : Script) (end : Ending) (replies : List PlainReply) → transaction_at f place ≡ Some s
    → end ≡ ending_by (is_writer (transaction_at f place) (run_at f st place)) (run_at f st place).end → replies ≡ (run_at f st place).replies
    → written_at f st place ≡ told_objects end (objects_along (meaning_of s) replies)
written_told f st place s end replies at e r =
    let run : SerialRun = run_at f st place in
    ap (λ (t : Option Script). cond (is_writer t run) (objects_in t run ∷ []) []) at
    ∙ told_by (meaning_of s) run.replies run.end
    ∙ ap (λ (rs : List PlainReply). told_objects (ending_by (is_writer_run (meaning_of s) run.replies run.end) run.end) (objects_along (meaning_of s) rs)) (sym r)
    ∙ ap (λ (x : Ending). told_objects x (objects_along (meaning_of s) replies)) (sym (e ∙ ap (λ (t : Option Script). ending_by (is_writer t run) run.end) at))

-- Names.

pub named_once : (names : List (List ℕ)) (line content : List ℕ) → HasContent line content → order_named names line ≡ named_in names (slice_split is_space content)
named_once names line content (inl e) = ap (places_in names) e ∙ append-nil (named_in names (slice_split is_space content))
named_once names line content (inr e) = ap (places_in names) e ∙ append-nil (named_in names (slice_split is_space content))

-- What holds of all lines holds of their entries.

pub entries_all : (P : Entry → Type 0) (lines : List Line) → All (λ (l : Line). P (entry l)) lines → All P (map entry lines)
entries_all P [] h = All-nil P
entries_all P (l ∷ lines) h = All-cons P (entry l) (map entry lines) (All-head (λ (x : Line). P (entry x)) l lines h) (entries_all P lines (All-tail (λ (x : Line). P (entry x)) l lines h))

pub lines_all : (P : Entry → Type 0) (lines : List Line) → All P (map entry lines) → All (λ (l : Line). P (entry l)) lines
lines_all P [] h = All-nil (λ (l : Line). P (entry l))
lines_all P (l ∷ lines) h = All-cons (λ (x : Line). P (entry x)) l lines (All-head P (entry l) (map entry lines) h) (lines_all P lines (All-tail P (entry l) (map entry lines) h))

-- there are no more writers than lines
pub few_written : (f : File) (past : Past) → IsPast f past → length past.written.items ≤ length past.run.lines.items
few_written f past h =
    let made = ap length h.written in
    let long = length-map past.written.items (λ objects. objects.items) in
    let most = length-written f (opening_state f) (places past.run.lines.items) in
    let mapped = length-map (map entry past.run.lines.items) (λ (e : Entry). e.place) in
    let lines = length-map past.run.lines.items entry in
    omega (arith, made, long, most, mapped, lines)
