-- The lines of a lawful report are all right.
use Rattle.std.proofs.Common.{◌≡◌, ◌⊎◌, ℕ, zero, suc, ◌+◌, ◌-◌, ◌<◌, ◌≤◌, ◌^◌, List, [], ◌∷◌, ◌++◌, length, map, take, drop, refl, sym, ap, ◌∙◌, subst, Bool, true, false, cond, ◌==◌, ◌||◌, ◌&&◌, Option, None, Some, slice_get, option_and_then, codes, arith, inl, inr, append_assoc, append-nil}
use Rattle.std.specs.List.{list_any, flat_map, All, slice_split}
use Rattle.std.specs.Str.{bytes_eq}
use Rattle.std.specs.Str.Parse.{digits_value}
use Rattle.std.proofs.lemmas.Bool.Decides.{nat_tests}
use Rattle.std.proofs.lemmas.List.{length-map, length-append}
use Rattle.std.proofs.lemmas.Slice.Eq.{bytes_eq-Decides}
use Rattle.std.proofs.lemmas.List.Elements.{All-nil, All-cons, All-head, All-tail, All-weaker}
use Rattle.sto_model.specs.Run.{State}
use Rattle.sto_model.specs.Sizes.{part_count}
use Rattle.sto_syntax.specs.Words.{is_name}
use Rattle.sto_lang.specs.Objects.{Declaration, HaveNames}
use Rattle.sto_lang.specs.Scripts.{Script, File}
use Rattle.sto_lang.specs.Sound.{IsSound}
use Rattle.sto_report_spec.specs.Orders.{TransactionPlace, at_position, transaction_at, count_in, positions_of, numbers_from, IsOrder}
use Rattle.sto_report_spec.specs.Replay.{Entry, run_at, is_writer, counted, entry_at, entries_from, entries_of, opening_state, final_state, state_from}
use Rattle.sto_report_spec.specs.Aborts.{Cause, Locked, Changed, Abort, part_in}
use Rattle.sto_report_spec.specs.Report.{line_text, abort_text, object_text, report_of}
use Rattle.sto_report_spec.specs.Named.{is_line_feed, is_space, is_dot, place_of_pieces, order_named, AreNames, IsNamable}
use Rattle.sto_report_spec.specs.NamedAborts.{aborts_named, aborts_in, abort_by, heard_in, Heard, aborts_among}
use Rattle.sto_report_spec.specs.LawfulAborts.{IsSorted, HandsBack, count_at, declared_as, IsLawfulAbort, IsCause}
use Rattle.sto_report_spec.specs.Lawful.{IsLawful}
use Rattle.sto_report_spec.specs.Updated.{Updating}
use Rattle.sto_report_spec.specs.Short.{IsShortEntry, AreShortEntries}
use Rattle.sto_report_spec.proofs.Naming.{HasWord, has_word, journal_names}
use Rattle.sto_report_spec.proofs.NamingAborts.{journal_names_none, objects_name_none, state_names_none}
use Rattle.sto_report_spec.proofs.Splits.{split_at}
use Rattle.sto_checker.specs.Runs.{writers_from}
use Rattle.sto_checker.proofs.SoundRuns.{sound_runnable}
use Rattle.sto_checker.specs.Lines.{lines_of, is_state_line, until_state, beyond_state}
use Rattle.sto_checker.specs.Shown.{IsInside}
use Rattle.sto_checker.specs.Right.{total, order_in, behind, entry_after, IsJournalLine, IsCauseOf, IsAbortLine, IsObjectLine, IsRightAfter}
use Rattle.sto_checker.specs.Right as right_lines
use Rattle.sto_checker.specs.Answer.{AreRight, IsWhole, IsAnswer}
use Rattle.sto_checker.specs.Exact.{UpdatesWritten}
use Rattle.sto_checker.specs.declared.found.Found.TheVariants.{Lawful}
use Rattle.sto_checker.proofs.Kept.{is_inside}
use Rattle.sto_checker.proofs.Stages.{take_whole, journal_right, abort_right, object_right, right_at}
use Rattle.sto_checker.proofs.Complete.{order_count}
use Rattle.sto_checker.proofs.Order.{count_cons}
use Rattle.sto_checker.proofs.Sound.{joined}
use Rattle.sto_checker.proofs.Splitting.{InFirst, InSecond, cut_append, cut_map, cut_at_place, same_first, same_rest}
use Rattle.sto_checker.proofs.Texts.{IsOneLine, AreLines, lines_append, lines_are, joined_map, joined_append, journal_line, object_line_is, abort_line, state_line_is, abort_no_state}

-- Orders.

abbrev pub Each : {X : Type 0} → (X → Type 0) → List X → Type 0
Each P [] = Unit {0}
Each P (x ∷ xs) = P x × Each P xs

from_each : {X : Type 0} (P : X → Type 0) (xs : List X) → Each P xs → All P xs
from_each P [] h = All-nil P
from_each P (x ∷ xs) h = All-cons P x xs h.0 (from_each P xs h.1)

to_each : {X : Type 0} (P : X → Type 0) (xs : List X) → All P xs → Each P xs
to_each P [] h = tt
to_each P (x ∷ xs) h = (All-head P x xs h, to_each P xs (All-tail P x xs h))

each_weaker : {X : Type 0} (P Q : X → Type 0) → ((x : X) → P x → Q x) → (xs : List X) → Each P xs → Each Q xs
each_weaker P Q f [] h = tt
each_weaker P Q f (x ∷ xs) h = (f x h.0, each_weaker P Q f xs h.1)

-- at a cut
each_at : {X : Type 0} (P : X → Type 0) (front : List X) (x : X) (back : List X) → Each P (front ++ x ∷ back) → P x
each_at P [] x back h = h.0
each_at P (y ∷ front) x back h = each_at P front x back h.1

each_front : {X : Type 0} (P : X → Type 0) (front back : List X) → Each P (front ++ back) → Each P front
each_front P [] back h = tt
each_front P (y ∷ front) back h = (h.0, each_front P front back h.1)

swap_all : (Q : ℕ → TransactionPlace → Type 0) (order : List TransactionPlace) → ((t : ℕ) → All (Q t) order) → Each (λ (p : TransactionPlace). (t : ℕ) → Q t p) order
swap_all Q [] h = tt
swap_all Q (p ∷ order) h = ((λ t. All-head (Q t) p order (h t)), swap_all Q order (λ t. All-tail (Q t) p order (h t)))

is_thread : (a b : ℕ) → a ≡ b → (a == b) ≡ true
is_thread a b e = grind (arith, nat_tests)

own_positions : (P : ℕ → Type 0) (t : ℕ) (order : List TransactionPlace) → All P (positions_of t order) → All (λ (p : TransactionPlace). p.0 ≡ t → P p.1) order
own_positions P t [] h = All-nil (λ (p : TransactionPlace). p.0 ≡ t → P p.1)
own_positions P t (p ∷ order) h = by (p.0 == t) refl h (own_positions P t order)
  where
    by : (b : Bool) → (p.0 == t) ≡ b → All P (cond b (p.1 ∷ positions_of t order) (positions_of t order)) → (All P (positions_of t order) → All (λ (q : TransactionPlace). q.0 ≡ t → P q.1) order) → All (λ (q : TransactionPlace). q.0 ≡ t → P q.1) (p ∷ order)
    by true k h more = All-cons (λ (q : TransactionPlace). q.0 ≡ t → P q.1) p order (λ _. All-head P p.1 (positions_of t order) h) (more (All-tail P p.1 (positions_of t order) h))
    by false k h more = All-cons (λ (q : TransactionPlace). q.0 ≡ t → P q.1) p order (λ f. absurd (let yes = is_thread p.0 t f in let no : true ≡ false = sym yes ∙ k in cc)) (more h)

all_numbers : (first count : ℕ) → All (λ (n : ℕ). (first ≤ n) × (n < first + count)) (numbers_from first count)
all_numbers first zero = All-nil (λ (n : ℕ). (first ≤ n) × (n < first + zero))
all_numbers first (suc count) =
    All-cons (λ (n : ℕ). (first ≤ n) × (n < first + suc count)) first (numbers_from (suc first) count) (omega arith, omega arith)
    (All-weaker (λ (n : ℕ). (suc first ≤ n) × (n < suc first + count)) (λ (n : ℕ). (first ≤ n) × (n < first + suc count))
    (λ n h. (let l = h.0 in omega (arith, l), let m = h.1 in omega (arith, m))) (numbers_from (suc first) count) (all_numbers (suc first) count))

-- a thread that has a transaction is one of the file
has_thread : (threads : List (List Script)) (t : ℕ) → 1 ≤ count_in threads t → t < length threads
has_thread [] t l = absurd (omega (arith, l))
has_thread (scripts ∷ threads) zero l = omega arith
has_thread (scripts ∷ threads) (suc t) l = let more = has_thread threads t l in omega (arith, more)

at_place : (scripts : List Script) (position : ℕ) → 1 ≤ position → position ≤ length scripts → (s : Script) × (at_position position scripts ≡ Some s)
at_place [] zero l m = absurd (omega (arith, l))
at_place [] (suc position) l m = absurd (omega (arith, m))
at_place (s ∷ scripts) zero l m = absurd (omega (arith, l))
at_place (s ∷ scripts) (suc zero) l m = (s, refl)
at_place (s ∷ scripts) (suc (suc position)) l m = at_place scripts (suc position) (omega arith) (omega (arith, m))

has_transaction : (threads : List (List Script)) (t position : ℕ) → 1 ≤ position → position ≤ count_in threads t → (s : Script) × (option_and_then (at_position position) (slice_get threads t) ≡ Some s)
has_transaction [] t position l m = absurd (omega (arith, l, m))
has_transaction (scripts ∷ threads) zero position l m = at_place scripts position l m
has_transaction (scripts ∷ threads) (suc t) position l m = has_transaction threads t position l m

-- what an order has, the file has
pub in_order : (file : File) (order : List TransactionPlace) → IsOrder file order → Each (IsInside file.threads) order
in_order file order whole = each order (swap_all (λ t p. p.0 ≡ t → (1 ≤ p.1) × (p.1 < 1 + count_in file.threads t)) order all)
  where
    all : (t : ℕ) → All (λ (p : TransactionPlace). p.0 ≡ t → (1 ≤ p.1) × (p.1 < 1 + count_in file.threads t)) order
    all t =
        own_positions (λ (n : ℕ). (1 ≤ n) × (n < 1 + count_in file.threads t)) t order
        (subst (All (λ (n : ℕ). (1 ≤ n) × (n < 1 + count_in file.threads t))) (sym (whole t)) (all_numbers 1 (count_in file.threads t)))

    each : (ps : List TransactionPlace) → Each (λ (p : TransactionPlace). (t : ℕ) → p.0 ≡ t → (1 ≤ p.1) × (p.1 < 1 + count_in file.threads t)) ps → Each (IsInside file.threads) ps
    each [] h = tt
    each (p ∷ ps) h =
        let own = h.0 p.0 refl in
        let low = own.0 in
        let high = own.1 in (
          record { thread = has_thread file.threads p.0 (omega (arith, low, high)); first = low; last = omega (arith, high) },
          each ps h.1,
        )

-- positions before a cut
number_at : (first count : ℕ) (front : List ℕ) (n : ℕ) (back : List ℕ) → numbers_from first count ≡ front ++ n ∷ back → n ≡ first + length front
number_at first zero [] n back e = absurd cc
number_at first zero (m ∷ front) n back e = absurd cc
number_at first (suc count) [] n back e = let same = same_first first n (numbers_from (suc first) count) back e in omega (arith, same)
number_at first (suc count) (m ∷ front) n back e =
    let more = number_at (suc first) count front n back (same_rest first m (numbers_from (suc first) count) (front ++ n ∷ back) e) in
    omega (arith, more)

positions_cut : (t : ℕ) (front : List TransactionPlace) (p : TransactionPlace) (back : List TransactionPlace) → p.0 ≡ t → positions_of t (front ++ p ∷ back) ≡ positions_of t front ++ p.1 ∷ positions_of t back
positions_cut t [] p back e = ap (λ (b : Bool). cond b (p.1 ∷ positions_of t back) (positions_of t back)) (is_thread p.0 t e)
positions_cut t (q ∷ front) p back e = by (q.0 == t) (positions_cut t front p back e)
  where
    by : (b : Bool) → positions_of t (front ++ p ∷ back) ≡ positions_of t front ++ p.1 ∷ positions_of t back
        → cond b (q.1 ∷ positions_of t (front ++ p ∷ back)) (positions_of t (front ++ p ∷ back)) ≡ cond b (q.1 ∷ positions_of t front) (positions_of t front) ++ p.1 ∷ positions_of t back
    by true h = ap (λ (ns : List ℕ). q.1 ∷ ns) h
    by false h = h

-- Entries.

pub record CutEntries (f : File) (w : ℕ) (st : State) (order : List TransactionPlace) (front : List Entry) (e : Entry) : Type 0 where
  pub before : List TransactionPlace
  pub place : TransactionPlace
  pub after : List TransactionPlace
  pub are : order ≡ before ++ place ∷ after
  pub front_is : front ≡ entries_from f w st before
  pub is : e ≡ entry_at f (writers_from f w st before) (state_from f st before) place

cut_entries : (f : File) (w : ℕ) (st : State) (order : List TransactionPlace) (front : List Entry) (e : Entry) (back : List Entry) → entries_from f w st order ≡ front ++ e ∷ back → CutEntries f w st order front e
cut_entries f w st [] [] e back q = absurd cc
cut_entries f w st [] (x ∷ front) e back q = absurd cc
cut_entries f w st (p ∷ order) [] e back q =
    record { before = []; place = p; after = order; are = refl; front_is = refl; is = sym (same_first (entry_at f w st p) e (entries_from f (entry_at f w st p).writers (run_at f st p).after order) back q) }
cut_entries f w st (p ∷ order) (x ∷ front) e back q =
    let rest : List Entry = entries_from f (entry_at f w st p).writers (run_at f st p).after order in
    let more = cut_entries f (entry_at f w st p).writers (run_at f st p).after order front e back (same_rest (entry_at f w st p) x rest (front ++ e ∷ back) q) in
    record {
      before = p ∷ more.before;
      place = more.place;
      after = more.after;
      are = ap (λ (o : List TransactionPlace). p ∷ o) more.are;
      front_is = ap (λ (y : Entry). y ∷ front) (sym (same_first (entry_at f w st p) x rest (front ++ e ∷ back) q)) ∙ ap (λ (es : List Entry). entry_at f w st p ∷ es) more.front_is;
      is = more.is;
    }

counted_up : (b : Bool) (w : ℕ) → counted b w ≤ suc w
counted_up true w = omega arith
counted_up false w = omega arith

entries_short : (f : File) (w : ℕ) (st : State) (order : List TransactionPlace) → w + length order < 2 ^ 64 → Each (IsNamable f.names) order → AreShortEntries f.names (entries_from f w st order)
entries_short f w st [] l h = tt
entries_short f w st (p ∷ order) l h =
    let one = counted_up (is_writer (transaction_at f p) (run_at f st p)) w in (
      record { place = h.0; writers = omega (arith, l, one) },
      entries_short f (entry_at f w st p).writers (run_at f st p).after order (omega (arith, l, one)) h.1,
    )

entries_words : (f : File) (w : ℕ) (st : State) (order : List TransactionPlace) → Each (HasWord f.names) order → AreLines (map (line_text f.names) (entries_from f w st order))
entries_words f w st [] h = tt
entries_words f w st (p ∷ order) h =
    (journal_line f.names (entry_at f w st p) h.0, entries_words f (entry_at f w st p).writers (run_at f st p).after order h.1)

entries_long : (f : File) (w : ℕ) (st : State) (order : List TransactionPlace) → length (entries_from f w st order) ≡ length order
entries_long f w st [] = refl
entries_long f w st (p ∷ order) = ap suc (entries_long f (entry_at f w st p).writers (run_at f st p).after order)

-- Aborted attempts.

-- each that is told is named once, where all of them are
few_named : (f : Abort → List Abort) (aborts : List Abort) → Each (λ (a : Abort). length (f a) ≤ 1) aborts → length (flat_map f aborts) ≤ length aborts
few_named f [] h = omega arith
few_named f (a ∷ aborts) h =
    let more = few_named f aborts h.1 in
    let one = h.0 in
    let both = length-append (f a) (flat_map f aborts) in
    omega (arith, more, one, both)

each_named : (f : Abort → List Abort) (aborts : List Abort) → Each (λ (a : Abort). length (f a) ≤ 1) aborts → flat_map f aborts ≡ aborts → Each (λ (a : Abort). f a ≡ a ∷ []) aborts
each_named f [] h e = tt
each_named f (x ∷ aborts) h e = by (f x) refl h.0 (each_named f aborts h.1) (few_named f aborts h.1)
  where
    by : (named : List Abort) → f x ≡ named → length (f x) ≤ 1 → (flat_map f aborts ≡ aborts → Each (λ (a : Abort). f a ≡ a ∷ []) aborts) → length (flat_map f aborts) ≤ length aborts
        → (f x ≡ x ∷ []) × Each (λ (a : Abort). f a ≡ a ∷ []) aborts
    by [] k l more few =
        absurd (
        let all : flat_map f aborts ≡ x ∷ aborts = sym (ap (λ (n : List Abort). n ++ flat_map f aborts) k) ∙ e in
        let long = ap length all in
        omega (arith, long, few)
        )
    by (y ∷ []) k l more few =
        let all : y ∷ flat_map f aborts ≡ x ∷ aborts = sym (ap (λ (n : List Abort). n ++ flat_map f aborts) k) ∙ e in
        (k ∙ ap (λ (z : Abort). z ∷ []) (same_first y x (flat_map f aborts) aborts all), more (same_rest y x (flat_map f aborts) aborts all))
    by (y ∷ z ∷ named) k l more few = absurd (let long = ap length k in omega (arith, long, l))

named_all : (f : Abort → List Abort) (aborts : List Abort) → Each (λ (a : Abort). f a ≡ a ∷ []) aborts → flat_map f aborts ≡ aborts
named_all f [] h = refl
named_all f (a ∷ aborts) h = ap (λ (n : List Abort). n ++ flat_map f aborts) h.0 ∙ ap (λ (n : List Abort). a ∷ n) (named_all f aborts h.1)

-- a line names one attempt at most
one_by : (places : List TransactionPlace) (seen : ℕ) (h : Option Heard) → length (abort_by places seen h) ≤ 1
one_by [] seen None = omega arith
one_by [] seen (Some h) = omega arith
one_by (p ∷ []) seen None = omega arith
one_by (p ∷ []) seen (Some h) = omega arith
one_by (p ∷ q ∷ places) seen None = omega arith
one_by (p ∷ q ∷ places) seen (Some h) = omega arith

few_in : (names : List (List ℕ)) (words : List (List ℕ)) → length (aborts_in names words) ≤ 1
few_in names [] = omega arith
few_in names (a ∷ []) = omega arith
few_in names (a ∷ b ∷ []) = omega arith
few_in names (a ∷ b ∷ c ∷ []) = omega arith
few_in names (a ∷ b ∷ c ∷ d ∷ []) = omega arith
few_in names (a ∷ place ∷ c ∷ seen ∷ d ∷ words) = by (bytes_eq a (codes "abort")) (one_by (place_of_pieces names (slice_split is_dot place)) (digits_value 10 seen) (heard_in words))
  where
    by : (t : Bool) → length (abort_by (place_of_pieces names (slice_split is_dot place)) (digits_value 10 seen) (heard_in words)) ≤ 1
        → length (cond t (abort_by (place_of_pieces names (slice_split is_dot place)) (digits_value 10 seen) (heard_in words)) []) ≤ 1
    by true h = h
    by false h = omega arith

-- what a line names, before others
named_line : (names : List (List ℕ)) (line rest : List ℕ) → IsOneLine line → aborts_named names (line ++ rest) ≡ aborts_named names line ++ aborts_named names rest
named_line names line rest one =
    ap (λ (l : List ℕ). aborts_named names (l ++ rest)) one.is
    ∙ ap (aborts_named names) (append_assoc one.content (10 ∷ []) rest)
    ∙ ap (aborts_among names) (split_at is_line_feed one.content 10 rest one.lacks refl)
    ∙ ap (λ (n : List Abort). n ++ aborts_named names rest) (sym (alone_named))
  where
    alone_named : aborts_named names line ≡ aborts_in names (slice_split is_space one.content)
    alone_named =
        ap (aborts_named names) one.is
        ∙ ap (aborts_among names) (split_at is_line_feed one.content 10 [] one.lacks refl)
        ∙ append-nil (aborts_in names (slice_split is_space one.content))

one_named : (names : List (List ℕ)) (line : List ℕ) → IsOneLine line → length (aborts_named names line) ≤ 1
one_named names line one =
    subst (λ (n : List Abort). length n ≤ 1)
    (sym (ap (aborts_named names) one.is
    ∙ ap (aborts_among names) (split_at is_line_feed one.content 10 [] one.lacks refl)
    ∙ append-nil (aborts_in names (slice_split is_space one.content)))) (few_in names (slice_split is_space one.content))

named_lines : (names : List (List ℕ)) (aborts : List Abort) (rest : List ℕ) → Each (λ (a : Abort). IsOneLine (abort_text names a)) aborts
    → aborts_named names (flat_map (abort_text names) aborts ++ rest) ≡ flat_map (λ (a : Abort). aborts_named names (abort_text names a)) aborts ++ aborts_named names rest
named_lines names [] rest h = refl
named_lines names (a ∷ aborts) rest h =
    ap (aborts_named names) (append_assoc (abort_text names a) (flat_map (abort_text names) aborts) rest)
    ∙ named_line names (abort_text names a) (flat_map (abort_text names) aborts ++ rest) h.0
    ∙ ap (λ (n : List Abort). aborts_named names (abort_text names a) ++ n) (named_lines names aborts rest h.1)
    ∙ sym (append_assoc (aborts_named names (abort_text names a)) (flat_map (λ (x : Abort). aborts_named names (abort_text names x)) aborts) (aborts_named names rest))

-- objects have names
declared_name : (name : List ℕ) (ds : List Declaration) (d : Declaration) → HaveNames ds → declared_as name ds ≡ Some d → is_name name ≡ true
declared_name name [] d h e = absurd cc
declared_name name (x ∷ ds) d h e = by (bytes_eq name x.name) refl (declared_name name ds d h.1) e
  where
    by : (b : Bool) → bytes_eq name x.name ≡ b → (declared_as name ds ≡ Some d → is_name name ≡ true) → cond b (Some x) (declared_as name ds) ≡ Some d → is_name name ≡ true
    by true k more e = subst (λ (n : List ℕ). is_name n ≡ true) (sym ((bytes_eq-Decides name x.name).0 k)) h.0
    by false k more e = more e

-- fronts of what is sorted and counted

sorted_front : (front : List Abort) (a : Abort) (back : List Abort) → IsSorted (front ++ a ∷ back) → IsSorted (front ++ a ∷ [])
sorted_front [] a back h = tt
sorted_front (x ∷ []) a [] h = (h.0, tt)
sorted_front (x ∷ []) a (b ∷ back) h = (h.0, tt)
sorted_front (x ∷ y ∷ front) a back h = (h.0, sorted_front (y ∷ front) a back h.1)

count_front : (q : TransactionPlace) (front back : List Abort) → count_at q front ≤ count_at q (front ++ back)
count_front q [] back = omega arith
count_front q (a ∷ front) back =
    let more = count_front q front back in
    let one = count_cons a front q in
    let all = count_cons a (front ++ back) q in
    omega (arith, more, one, all)

regroup : {X : Type 0} (front : List X) (x : X) (back : List X) → front ++ x ∷ back ≡ (front ++ x ∷ []) ++ back
regroup [] x back = refl
regroup (y ∷ front) x back = ap (λ l. y ∷ l) (regroup front x back)

handed_front : (tries : ℕ) (front : List Abort) (a : Abort) (back : List Abort) → ((q : TransactionPlace) → count_at q (front ++ a ∷ back) ≤ tries) → HandsBack tries (front ++ a ∷ back) → HandsBack tries (front ++ a ∷ [])
handed_front tries front a back few h p q own low used =
    let whole = regroup front a back in
    let part_p = count_front p (front ++ a ∷ []) back in
    let part_q = count_front q (front ++ a ∷ []) back in
    let same_p = ap (count_at p) whole in
    let same_q = ap (count_at q) whole in
    let most = few p in
    let none = h p q own low (omega (arith, part_p, same_p, most, used)) in omega (arith, part_q, same_q, none)

-- the first so many lines and the others

take_all : {X : Type 0} (xs ys : List X) (n : ℕ) → length xs ≡ n → take n (xs ++ ys) ≡ xs
take_all [] [] zero e = refl
take_all [] (y ∷ ys) zero e = refl
take_all [] ys (suc n) e = absurd (omega (arith, e))
take_all (x ∷ xs) ys zero e = absurd (omega (arith, e))
take_all (x ∷ xs) ys (suc n) e = ap (λ l. x ∷ l) (take_all xs ys n (omega (arith, e)))

drop_all : {X : Type 0} (xs ys : List X) (n : ℕ) → length xs ≡ n → drop n (xs ++ ys) ≡ ys
drop_all [] [] zero e = refl
drop_all [] (y ∷ ys) zero e = refl
drop_all [] ys (suc n) e = absurd (omega (arith, e))
drop_all (x ∷ xs) ys zero e = absurd (omega (arith, e))
drop_all (x ∷ xs) ys (suc n) e = drop_all xs ys n (omega (arith, e))

flat_mapped : {X Y Z : Type 0} (g : Y → List Z) (f : X → Y) (xs : List X) → flat_map g (map f xs) ≡ flat_map (λ x. g (f x)) xs
flat_mapped g f [] = refl
flat_mapped g f (x ∷ xs) = ap (λ l. g (f x) ++ l) (flat_mapped g f xs)

module _ (names : List (List ℕ)) where
  no_state : (aborts : List Abort) → list_any is_state_line (map (abort_text names) aborts) ≡ false
  no_state [] = refl
  no_state (a ∷ aborts) = ap (λ (b : Bool). b || list_any is_state_line (map (abort_text names) aborts)) (abort_no_state names a) ∙ no_state aborts

  all_until : (aborts : List Abort) → until_state (map (abort_text names) aborts) ≡ map (abort_text names) aborts
  all_until [] = refl
  all_until (a ∷ aborts) =
      ap (λ (b : Bool). cond b [] (abort_text names a ∷ until_state (map (abort_text names) aborts))) (abort_no_state names a)
      ∙ ap (λ (ls : List (List ℕ)). abort_text names a ∷ ls) (all_until aborts)

  some_state : (aborts : List Abort) (more : List (List ℕ)) → list_any is_state_line (map (abort_text names) aborts ++ codes "state\n" ∷ more) ≡ true
  some_state [] more = refl
  some_state (a ∷ aborts) more = ap (λ (b : Bool). b || list_any is_state_line (map (abort_text names) aborts ++ codes "state\n" ∷ more)) (abort_no_state names a) ∙ some_state aborts more

  all_beyond : (aborts : List Abort) (more : List (List ℕ)) → beyond_state (map (abort_text names) aborts ++ codes "state\n" ∷ more) ≡ more
  all_beyond [] more = refl
  all_beyond (a ∷ aborts) more =
      ap (λ (b : Bool). cond b (map (abort_text names) aborts ++ codes "state\n" ∷ more) (beyond_state (map (abort_text names) aborts ++ codes "state\n" ∷ more))) (abort_no_state names a)
      ∙ all_beyond aborts more

names_are : (names : List (List ℕ)) (st : State) (ds : List Declaration) → HaveNames ds → AreLines (map (object_text st) ds)
names_are names st [] h = tt
names_are names st (d ∷ ds) h = (object_line_is st d h.0, names_are names st ds h.1)

lines_each : (names : List (List ℕ)) (aborts : List Abort) → Each (λ (a : Abort). IsOneLine (abort_text names a)) aborts → AreLines (map (abort_text names) aborts)
lines_each names [] h = tt
lines_each names (a ∷ aborts) h = (h.0, lines_each names aborts h.1)

object_at : (front : List Declaration) (d : Declaration) (back : List Declaration) → slice_get (front ++ d ∷ back) (length front) ≡ Some d
object_at [] d back = refl
object_at (x ∷ front) d back = object_at front d back

module _ (file : File) (sound : IsSound file) (tries : ℕ) (u : Updating) (law : UpdatesWritten u file) (text : List ℕ) (lawful : IsLawful u file tries text) where
  abbrev order : List TransactionPlace
  order = order_named file.names text

  abbrev aborts : List Abort
  aborts = aborts_named file.names text

  abbrev last : State
  last = final_state file order

  abbrev journal : List (List ℕ)
  journal = map (line_text file.names) (entries_of file order)

  abbrev abort_lines : List (List ℕ)
  abort_lines = map (abort_text file.names) aborts

  abbrev objects : List (List ℕ)
  objects = map (object_text last) file.declarations

  abbrev all_lines : List (List ℕ)
  all_lines = journal ++ (abort_lines ++ codes "state\n" ∷ objects)

  known : AreNames file.names
  known = record { each = sound.thread_names.are_names; differ = sound.thread_names.differ }

  inside : Each (IsInside file.threads) order
  inside = in_order file order lawful.order

  count : length order ≡ total file
  count = order_count file order lawful.order (from_each (IsInside file.threads) order inside)

  namable : (p : TransactionPlace) → IsInside file.threads p → IsNamable file.names p
  namable p i = record {
    thread = let l = i.thread in let e = sound.thread_names.each in omega (arith, l, e);
    position = let l = i.last in let m = (sound_runnable file sound).few_transactions p.0 in omega (arith, l, m);
  }

  word : (p : TransactionPlace) → IsInside file.threads p → HasWord file.names p
  word p i = has_word file.names p known (namable p i)

  few : length order < 2 ^ 64
  few = let c = count in let m = sound.few_transactions in omega (arith, c, m)

  long : length journal ≡ total file
  long = length-map (entries_of file order) (line_text file.names) ∙ entries_long file 0 (opening_state file) order ∙ count

  one_lines : Each (λ (a : Abort). IsOneLine (abort_text file.names a)) aborts
  one_lines =
      each_weaker (IsLawfulAbort u file order) (λ (a : Abort). IsOneLine (abort_text file.names a))
      (λ a h. abort_line file.names a (word a.place (is_inside file a.place h.script h.transaction)) (declared_name (part_in a.cause).object file.declarations h.object sound.named h.part.declared))
      aborts (to_each (IsLawfulAbort u file order) aborts lawful.aborts.each)

  lines_is : lines_of text ≡ all_lines
  lines_is =
      ap lines_of (lawful.report ∙ sym told)
      ∙ lines_are all_lines
      (lines_append journal (abort_lines ++ codes "state\n" ∷ objects)
      (entries_words file 0 (opening_state file) order (each_weaker (IsInside file.threads) (HasWord file.names) word order inside))
      (lines_append abort_lines (codes "state\n" ∷ objects) (lines_each file.names aborts one_lines) (state_line_is, names_are file.names last file.declarations sound.named)))
    where
      told : joined all_lines ≡ report_of file order aborts
      told =
          joined_append journal (abort_lines ++ codes "state\n" ∷ objects)
          ∙ ap (λ (l : List ℕ). l ++ joined (abort_lines ++ codes "state\n" ∷ objects)) (joined_map (line_text file.names) (entries_of file order))
          ∙ ap (λ (l : List ℕ). flat_map (line_text file.names) (entries_of file order) ++ l)
          (joined_append abort_lines (codes "state\n" ∷ objects)
          ∙ ap (λ (l : List ℕ). l ++ joined (codes "state\n" ∷ objects)) (joined_map (abort_text file.names) aborts)
          ∙ ap (λ (l : List ℕ). flat_map (abort_text file.names) aborts ++ (codes "state\n" ++ l)) (joined_map (object_text last) file.declarations))

  short : AreShortEntries file.names (entries_of file order)
  short = entries_short file 0 (opening_state file) order (let l = few in omega (arith, l)) (each_weaker (IsInside file.threads) (IsNamable file.names) namable order inside)

  -- each abort line names its attempt
  named_each : Each (λ (a : Abort). aborts_named file.names (abort_text file.names a) ≡ a ∷ []) aborts
  named_each =
      each_named (λ (a : Abort). aborts_named file.names (abort_text file.names a)) aborts
      (each_weaker (λ (a : Abort). IsOneLine (abort_text file.names a)) (λ (a : Abort). length (aborts_named file.names (abort_text file.names a)) ≤ 1) (λ a h. one_named file.names (abort_text file.names a) h) aborts one_lines)
      (sym all_named)
    where
      all_named : aborts ≡ flat_map (λ (a : Abort). aborts_named file.names (abort_text file.names a)) aborts
      all_named =
          ap (aborts_named file.names) lawful.report
          ∙ journal_names_none file.names known (entries_of file order) (flat_map (abort_text file.names) aborts ++ (codes "state\n" ++ flat_map (object_text last) file.declarations)) short
          ∙ named_lines file.names aborts (codes "state\n" ++ flat_map (object_text last) file.declarations) one_lines
          ∙ ap (λ (n : List Abort). flat_map (λ (a : Abort). aborts_named file.names (abort_text file.names a)) aborts ++ n)
          (state_names_none file.names (flat_map (object_text last) file.declarations) ∙ objects_name_none file.names last file.declarations sound.named)
          ∙ append-nil (flat_map (λ (a : Abort). aborts_named file.names (abort_text file.names a)) aborts)

  -- so many journal lines name the transactions of their entries
  named_order : (o : List TransactionPlace) → Each (IsInside file.threads) o → length o < 2 ^ 64 → flat_map (order_named file.names) (map (line_text file.names) (entries_of file o)) ≡ o
  named_order o i l = each_line 0 (opening_state file) o (omega (arith, l)) i
    where
      each_line : (w : ℕ) (st : State) (o : List TransactionPlace) → w + length o < 2 ^ 64 → Each (IsInside file.threads) o → flat_map (order_named file.names) (map (line_text file.names) (entries_from file w st o)) ≡ o
      each_line w st [] l i = refl
      each_line w st (p ∷ o) l i =
          let e : Entry = entry_at file w st p in
          let one = counted_up (is_writer (transaction_at file p) (run_at file st p)) w in
          let small : IsShortEntry file.names e = record { place = namable p i.0; writers = omega (arith, l, one) } in
          let here : order_named file.names (line_text file.names e) ≡ p ∷ [] =
          ap (order_named file.names) (sym (append-nil (line_text file.names e ++ []) ∙ append-nil (line_text file.names e))) ∙ journal_names file.names known (e ∷ []) [] (small, tt) in
          ap (λ (ps : List TransactionPlace). ps ++ flat_map (order_named file.names) (map (line_text file.names) (entries_from file e.writers (run_at file st p).after o))) here
          ∙ ap (λ (ps : List TransactionPlace). p ∷ ps) (each_line e.writers (run_at file st p).after o (omega (arith, l, one)) i.1)

  order_whole : (more : List (List ℕ)) → order_in file (journal ++ more) ≡ order
  order_whole more = ap (flat_map (order_named file.names)) (take_all journal more (total file) long) ∙ named_order order inside few

  behind_is : (more : List (List ℕ)) → behind file (journal ++ more) ≡ more
  behind_is more = drop_all journal more (total file) long

  past : (more : List (List ℕ)) → total file ≤ length (journal ++ more)
  past more = let both = length-append journal more in let l = long in omega (arith, both, l)

  -- a journal line
  journal_is_right : (front : List (List ℕ)) (line : List ℕ) → InFirst journal front line → IsRightAfter file tries front line
  journal_is_right front line h =
      let m = cut_map (line_text file.names) (entries_of file order) front line h.back h.are in
      let c = cut_entries file 0 (opening_state file) order m.before m.item m.after m.are in
      let i : IsInside file.threads c.place = each_at (IsInside file.threads) c.before c.place c.after (subst (Each (IsInside file.threads)) c.are inside) in
      let before_inside : Each (IsInside file.threads) c.before = each_front (IsInside file.threads) c.before (c.place ∷ c.after) (subst (Each (IsInside file.threads)) c.are inside) in
      let parts = ap length c.are ∙ length-append c.before (c.place ∷ c.after) in
      let few_before : length c.before < length order = omega (arith, parts) in
      let front_is : front ≡ map (line_text file.names) (entries_of file c.before) = m.front_is ∙ ap (map (line_text file.names)) c.front_is in
      let front_long : length front ≡ length c.before = ap length front_is ∙ length-map (entries_of file c.before) (line_text file.names) ∙ entries_long file 0 (opening_state file) c.before in
      let all = count in
      let below : length front < total file = omega (arith, front_long, few_before, all) in
      let order_is : order_in file front ≡ c.before =
      ap (flat_map (order_named file.names)) (take_whole front (total file) (omega (arith, below)) ∙ front_is) ∙ named_order c.before before_inside (let l = few in omega (arith, few_before, l)) in
      let script = has_transaction file.threads c.place.0 c.place.1 i.first i.last in
      let cut : numbers_from 1 (count_in file.threads c.place.0) ≡ positions_of c.place.0 c.before ++ c.place.1 ∷ positions_of c.place.0 c.after =
      sym (lawful.order c.place.0) ∙ ap (positions_of c.place.0) c.are ∙ positions_cut c.place.0 c.before c.place c.after refl in
      let position = number_at 1 (count_in file.threads c.place.0) (positions_of c.place.0 c.before) c.place.1 (positions_of c.place.0 c.after) cut in
      let entry_is : m.item ≡ entry_after file c.before c.place = c.is in
      let entry : Entry = entry_after file c.before c.place in
      let small : IsShortEntry file.names entry = record {
        place = namable c.place i;
        writers =
            let up = writers_up_to file 0 (opening_state file) c.before in
            let one = counted_up (is_writer (transaction_at file c.place) (run_at file (final_state file c.before) c.place)) (writers_from file 0 (opening_state file) c.before) in
            let l = few in
            omega (arith, up, one, few_before, l);
      } in
      journal_right file tries front line below
      (subst (λ (o : List TransactionPlace). IsJournalLine file o line) (sym order_is) (record {
        place = c.place;
        named =
            ap (order_named file.names) (m.is ∙ ap (line_text file.names) entry_is)
            ∙ ap (order_named file.names) (sym (append-nil (line_text file.names entry ++ []) ∙ append-nil (line_text file.names entry)))
            ∙ journal_names file.names known (entry ∷ []) [] (small, tt);
        next = record { script = script.0; transaction = script.1; next = omega (arith, position) };
        text = m.is ∙ ap (line_text file.names) entry_is;
      }))
    where
      writers_up_to : (f : File) (w : ℕ) (st : State) (o : List TransactionPlace) → writers_from f w st o ≤ w + length o
      writers_up_to f w st [] = omega arith
      writers_up_to f w st (p ∷ o) =
          let more = writers_up_to f (entry_at f w st p).writers (run_at f st p).after o in
          let one = counted_up (is_writer (transaction_at f p) (run_at f st p)) w in
          omega (arith, more, one)

  -- an abort line
  cause_right : (a : Abort) (d : Declaration) (c : Cause) → declared_as (part_in c).object file.declarations ≡ Some d → (part_in c).part < part_count d.shape → IsCause u file order a d c → IsCauseOf file order a d c
  cause_right a d (Locked part) e l h = tt
  cause_right a d (Changed part by) e l h = record {
    later = h.later;
    earlier = h.earlier;
    written = law order lawful.order part.object d e part.part l by (let k = h.later in omega (arith, k)) h.written.0 h.written.1 h.written.2;
  }

  abort_is_right : (more : List (List ℕ)) (line : List ℕ) → InFirst abort_lines more line → IsRightAfter file tries (journal ++ more) line
  abort_is_right more line h =
      let m = cut_map (abort_text file.names) aborts more line h.back h.are in
      let front : List (List ℕ) = journal ++ more in
      let none : list_any is_state_line (behind file front) ≡ false = ap (list_any is_state_line) (behind_is more ∙ m.front_is) ∙ no_state file.names m.before in
      let before_is : right_lines.aborts_in file front ≡ m.before =
      ap (λ (ls : List (List ℕ)). flat_map (aborts_named file.names) (until_state ls)) (behind_is more ∙ m.front_is)
      ∙ ap (flat_map (aborts_named file.names)) (all_until file.names m.before)
      ∙ flat_mapped (aborts_named file.names) (abort_text file.names) m.before
      ∙ named_all (λ (a : Abort). aborts_named file.names (abort_text file.names a)) m.before
      (each_front (λ (a : Abort). aborts_named file.names (abort_text file.names a) ≡ a ∷ []) m.before (m.item ∷ m.after) (subst (Each (λ (a : Abort). aborts_named file.names (abort_text file.names a) ≡ a ∷ [])) m.are named_each)) in
      let own = each_at (λ (a : Abort). aborts_named file.names (abort_text file.names a) ≡ a ∷ []) m.before m.item m.after (subst (Each (λ (a : Abort). aborts_named file.names (abort_text file.names a) ≡ a ∷ [])) m.are named_each) in
      let alone : IsLawfulAbort u file order m.item =
      each_at (IsLawfulAbort u file order) m.before m.item m.after (subst (Each (IsLawfulAbort u file order)) m.are (to_each (IsLawfulAbort u file order) aborts lawful.aborts.each)) in
      let right : IsAbortLine file tries order m.before line = record {
        abort = m.item;
        named = ap (aborts_named file.names) m.is ∙ own;
        right = record {
          alone = record {
            script = alone.script;
            object = alone.object;
            transaction = alone.transaction;
            replies = alone.replies;
            after_own = alone.after_own;
            earlier = alone.before;
            unsettled = alone.unsettled;
            part = alone.part;
            cause = cause_right m.item alone.object m.item.cause alone.part.declared alone.part.inside alone.cause;
          };
          few =
              let most = lawful.aborts.few m.item.place in
              let part = count_front m.item.place (m.before ++ m.item ∷ []) m.after in
              let same = ap (count_at m.item.place) (m.are ∙ regroup m.before m.item m.after) in
              omega (arith, most, part, same);
          handed = handed_front tries m.before m.item m.after (subst (λ (l : List Abort). (q : TransactionPlace) → count_at q l ≤ tries) m.are lawful.aborts.few) (subst (HandsBack tries) m.are lawful.aborts.handed);
          sorted = sorted_front m.before m.item m.after (subst IsSorted m.are lawful.aborts.sorted);
        };
        text = m.is;
      } in
      abort_right file tries front line (past more) none
      (inr (subst (λ (listed : List Abort). IsAbortLine file tries (order_in file front) listed line) (sym before_is) (subst (λ (o : List TransactionPlace). IsAbortLine file tries o m.before line) (sym (order_whole more)) right)))

  -- the line `state`
  state_is_right : IsRightAfter file tries (journal ++ abort_lines) (codes "state\n")
  state_is_right =
      abort_right file tries (journal ++ abort_lines) (codes "state\n") (past abort_lines) (ap (list_any is_state_line) (behind_is abort_lines) ∙ no_state file.names aborts) (inl refl)

  -- the line of an object
  object_is_right : (more : List (List ℕ)) (line : List ℕ) → InFirst objects more line → IsRightAfter file tries (journal ++ (abort_lines ++ codes "state\n" ∷ more)) line
  object_is_right more line h =
      let m = cut_map (object_text last) file.declarations more line h.back h.are in
      let behind_it : List (List ℕ) = abort_lines ++ codes "state\n" ∷ more in
      let front : List (List ℕ) = journal ++ behind_it in
      let some : list_any is_state_line (behind file front) ≡ true = ap (list_any is_state_line) (behind_is behind_it) ∙ some_state file.names aborts more in
      let others : length (beyond_state (behind file front)) ≡ length m.before =
      ap (λ (ls : List (List ℕ)). length (beyond_state ls)) (behind_is behind_it) ∙ ap length (all_beyond file.names aborts more) ∙ ap length m.front_is ∙ length-map m.before (object_text last) in
      let right : IsObjectLine file order (length m.before) line = record { object = m.item; next = ap (λ (ds : List Declaration). slice_get ds (length m.before)) m.are ∙ object_at m.before m.item m.after; text = m.is } in
      object_right file tries front line (past behind_it) some
      (subst (λ (n : ℕ). IsObjectLine file (order_in file front) n line) (sym others) (subst (λ (o : List TransactionPlace). IsObjectLine file o (length m.before) line) (sym (order_whole behind_it)) right))

  each_right : (front : List (List ℕ)) (line : List ℕ) (back : List (List ℕ)) → all_lines ≡ front ++ line ∷ back → IsRightAfter file tries front line
  each_right front line back e = by (cut_append journal (abort_lines ++ codes "state\n" ∷ objects) front line back e)
    where
      in_objects : (more : List (List ℕ)) → codes "state\n" ∷ objects ≡ more ++ line ∷ back → IsRightAfter file tries (journal ++ (abort_lines ++ more)) line
      in_objects [] q =
          subst (λ (l : List ℕ). IsRightAfter file tries (journal ++ (abort_lines ++ [])) l) (same_first (codes "state\n") line objects back q)
          (subst (λ (ls : List (List ℕ)). IsRightAfter file tries (journal ++ ls) (codes "state\n")) (sym (append-nil abort_lines)) state_is_right)
      in_objects (first ∷ more) q =
          subst (λ (l : List ℕ). IsRightAfter file tries (journal ++ (abort_lines ++ l ∷ more)) line) (same_first (codes "state\n") first objects (more ++ line ∷ back) q)
          (object_is_right more line (record { back = back; are = same_rest (codes "state\n") first objects (more ++ line ∷ back) q }))

      in_rest : (more : List (List ℕ)) → InFirst abort_lines more line ⊎ InSecond abort_lines (codes "state\n" ∷ objects) more line back → IsRightAfter file tries (journal ++ more) line
      in_rest more (inl h) = abort_is_right more line h
      in_rest more (inr h) = subst (λ (ls : List (List ℕ)). IsRightAfter file tries (journal ++ ls) line) (sym h.front_is) (in_objects h.more h.are)

      by : InFirst journal front line ⊎ InSecond journal (abort_lines ++ codes "state\n" ∷ objects) front line back → IsRightAfter file tries front line
      by (inl h) = journal_is_right front line h
      by (inr h) = subst (λ (ls : List (List ℕ)). IsRightAfter file tries ls line) (sym h.front_is) (in_rest h.more (cut_append abort_lines (codes "state\n" ∷ objects) h.more line back h.are))

  pub lawful_found : IsAnswer file tries (lines_of text) Lawful
  lawful_found = subst (λ (ls : List (List ℕ)). IsAnswer file tries ls Lawful) (sym lines_is) (right, whole)
    where
      right : AreRight file tries all_lines (length all_lines)
      right place l =
          let c = cut_at_place all_lines place l in
          right_at file tries all_lines place c.item c.stands (each_right (take place all_lines) c.item (drop (suc place) all_lines) c.are)

      whole : IsWhole file all_lines
      whole = record {
        state = ap (list_any is_state_line) (behind_is (abort_lines ++ codes "state\n" ∷ objects)) ∙ some_state file.names aborts objects;
        objects =
            ap (λ (ls : List (List ℕ)). length (beyond_state ls)) (behind_is (abort_lines ++ codes "state\n" ∷ objects))
            ∙ ap length (all_beyond file.names aborts objects)
            ∙ length-map file.declarations (object_text last);
      }
