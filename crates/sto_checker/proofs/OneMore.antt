-- Replays with one more transaction, and the order thread by thread.
use Rattle.std.proofs.Common.{◌≡◌, ℕ, zero, suc, ◌+◌, ◌<◌, ◌≤◌, List, [], ◌∷◌, ◌++◌, length, map, take, refl, sym, ap, ◌∙◌, Bool, true, false, cond, ◌==◌, Option, Some, arith, append_assoc, append-nil, length-append}
use Rattle.std.proofs.lemmas.List.{map-append}
use Rattle.std.proofs.lemmas.Bool.Decides.{nat_tests}
use Rattle.sto_model.specs.PlainReplies.{plain_reply}
use Rattle.sto_model.specs.Run.{State}
use Rattle.sto_model.specs.Serial.{SerialRun, serial_run_of, is_writer_run}
use Rattle.sto_model.specs.declared.run.End.{End}
use Rattle.sto_lang.specs.Scripts.{Script, File}
use Rattle.sto_script.specs.Meaning.{meaning_of}
use Rattle.sto_report_spec.specs.Orders.{TransactionPlace, transaction_at, count_in, positions_of, numbers_from, IsOrder}
use Rattle.sto_report_spec.specs.Replay.{Entry, machines_for, opening_state, script_run, run_at, is_writer, ending_by, counted, entry_at, entries_from, state_from}
use Rattle.sto_journal.specs.declared.journal.Line.{Line}
use Rattle.sto_journal.specs.Journals.{entry, places}
use Rattle.sto_checker.specs.Runs.{writers_from, IsSoFar, places_of, places_from, thread_order}

-- one more transaction at the end of an order

pub entries_from-more : (f : File) (writers : ℕ) (st : State) (order : List TransactionPlace) (place : TransactionPlace)
    → entries_from f writers st (order ++ place ∷ []) ≡ entries_from f writers st order ++ entry_at f (writers_from f writers st order) (state_from f st order) place ∷ []
entries_from-more f writers st [] place = refl
entries_from-more f writers st (p ∷ order) place =
    ap (λ (es : List Entry). entry_at f writers st p ∷ es) (entries_from-more f (entry_at f writers st p).writers (run_at f st p).after order place)

pub writers_from-more : (f : File) (writers : ℕ) (st : State) (order : List TransactionPlace) (place : TransactionPlace)
    → writers_from f writers st (order ++ place ∷ []) ≡ (entry_at f (writers_from f writers st order) (state_from f st order) place).writers
writers_from-more f writers st [] place = refl
writers_from-more f writers st (p ∷ order) place = writers_from-more f (entry_at f writers st p).writers (run_at f st p).after order place

pub state_from-more : (f : File) (st : State) (order : List TransactionPlace) (place : TransactionPlace)
    → state_from f st (order ++ place ∷ []) ≡ (run_at f (state_from f st order) place).after
state_from-more f st [] place = refl
state_from-more f st (p ∷ order) place = state_from-more f (run_at f st p).after order place

pub places-more : (lines : List Line) (line : Line) → places (lines ++ line ∷ []) ≡ places lines ++ (line.thread, line.position) ∷ []
places-more [] line = refl
places-more (l ∷ lines) line = ap (λ (ps : List TransactionPlace). (entry l).place ∷ ps) (places-more lines line)

-- what a transaction did, and the line that tells it
pub record IsTold (f : File) (writers : ℕ) (before after : State) (line : Line) : Type 0 where
  pub entry_is : entry_at f writers before (line.thread, line.position) ≡ entry line
  pub after_is : (run_at f before (line.thread, line.position)).after ≡ after

-- the entry of a run
abbrev entry_by : ℕ → TransactionPlace → Bool → SerialRun → Entry
entry_by writers place writer run = record { writers = counted writer writers; place = place; ending = ending_by writer run.end; replies = run.replies }

pub is_told : (f : File) (s : Script) (writers : ℕ) (before after : State) (line : Line) (end : End) (writer : Bool)
    → transaction_at f (line.thread, line.position) ≡ Some s
    → serial_run_of (machines_for f) s.weight (meaning_of s) before ≡ record { replies = map plain_reply line.replies.items; end = end; after = after }
    → writer ≡ is_writer_run (meaning_of s) (map plain_reply line.replies.items) end
    → line.k ≡ counted writer writers
    → line.end ≡ ending_by writer end
    → IsTold f writers before after line
is_told f s writers before after line end writer at run wrote k ends =
    let place : TransactionPlace = (line.thread, line.position) in
    let done : SerialRun = record { replies = map plain_reply line.replies.items; end = end; after = after } in
    let run_is : run_at f before place ≡ done = ap (script_run (machines_for f) before) at ∙ run in
    let writer_is : is_writer (transaction_at f place) (run_at f before place) ≡ writer =
    ap (λ (t : Option Script). is_writer t (run_at f before place)) at ∙ ap (λ (r : SerialRun). is_writer (Some s) r) run_is ∙ sym wrote in
    record {
      entry_is =
          ap (λ (w : Bool). entry_by writers place w (run_at f before place)) writer_is
          ∙ ap (entry_by writers place writer) run_is
          ∙ ap (λ (n : ℕ). let e : Entry = record { writers = n; place = place; ending = ending_by writer end; replies = map plain_reply line.replies.items } in e) (sym k)
          ∙ ap (λ (x : _). let e : Entry = record { writers = line.k; place = place; ending = x; replies = map plain_reply line.replies.items } in e) (sym ends);
      after_is = ap (λ (r : SerialRun). r.after) run_is;
    }

-- what has been done so far, with one more transaction
pub so_far-more : (f : File) (old new : List Line) (line : Line) (writers : ℕ) (before after : State)
    → new ≡ old ++ line ∷ []
    → line.k ≤ writers + 1
    → length after ≡ length before
    → IsTold f writers before after line
    → IsSoFar f old writers before
    → IsSoFar f new line.k after
so_far-more f old new line writers before after more few same is h =
    let place : TransactionPlace = (line.thread, line.position) in
    let st : State = opening_state f in
    let placed : places new ≡ places old ++ place ∷ [] = ap places more ∙ places-more old line in
    let told_at : (w : ℕ) (s : State) → writers ≡ w → before ≡ s → entry_at f w s place ≡ entry line =
    λ w s e g. ap (λ (n : ℕ). entry_at f n s place) (sym e) ∙ ap (λ (x : State). entry_at f writers x place) (sym g) ∙ is.entry_is in
    let here : entry_at f (writers_from f 0 st (places old)) (state_from f st (places old)) place ≡ entry line =
    told_at (writers_from f 0 st (places old)) (state_from f st (places old)) h.writers_are h.state_is in
    record {
      entries =
          ap (map entry) more
          ∙ map-append entry old (line ∷ [])
          ∙ ap (λ (es : List Entry). es ++ entry line ∷ []) h.entries
          ∙ ap (λ (e : Entry). entries_from f 0 st (places old) ++ e ∷ []) (sym here)
          ∙ sym (entries_from-more f 0 st (places old) place)
          ∙ ap (entries_from f 0 st) (sym placed);
      writers_are =
          ap (λ (e : Entry). e.writers) (sym here) ∙ sym (writers_from-more f 0 st (places old) place) ∙ ap (writers_from f 0 st) (sym placed);
      state_is =
          sym is.after_is ∙ ap (λ (x : State). (run_at f x place).after) h.state_is ∙ sym (state_from-more f st (places old) place) ∙ ap (state_from f st) (sym placed);
      few = omega (arith, h.few, ap length more, length-append old (line ∷ []));
      objects = same ∙ h.objects;
    }

-- the order thread by thread

pub numbers_from-more : (first count : ℕ) → numbers_from first (suc count) ≡ numbers_from first count ++ (first + count) ∷ []
numbers_from-more first zero = let same : first ≡ first + 0 = omega arith in ap (λ (n : ℕ). n ∷ []) same
numbers_from-more first (suc count) =
    let same : suc first + count ≡ first + suc count = omega arith in
    ap (λ (ns : List ℕ). first ∷ ns) (numbers_from-more (suc first) count ∙ ap (λ (n : ℕ). numbers_from (suc first) count ++ n ∷ []) same)

pub places_of-more : (thread count : ℕ) → places_of thread (count + 1) ≡ places_of thread count ++ (thread, count + 1) ∷ []
places_of-more thread count =
    let next : count + 1 ≡ suc count = omega arith in
    let last : 1 + count ≡ count + 1 = omega arith in
    ap (places_of thread) next
    ∙ ap (map (λ (n : ℕ). let p : TransactionPlace = (thread, n) in p)) (numbers_from-more 1 count)
    ∙ map-append (λ (n : ℕ). let p : TransactionPlace = (thread, n) in p) (numbers_from 1 count) ((1 + count) ∷ [])
    ∙ ap (λ (n : ℕ). let p : TransactionPlace = (thread, n) in places_of thread count ++ p ∷ []) last

pub places_from-more : (first : ℕ) (threads : List (List Script)) (k : ℕ) → k < length threads
    → places_from first (take (suc k) threads) ≡ places_from first (take k threads) ++ places_of (first + k) (count_in threads k)
places_from-more first [] k h = absurd (omega arith)
places_from-more first (scripts ∷ threads) zero h =
    let same : first ≡ first + 0 = omega arith in
    append-nil (places_of first (length scripts)) ∙ ap (λ (n : ℕ). places_of n (length scripts)) same
places_from-more first (scripts ∷ threads) (suc k) h =
    let same : suc first + k ≡ first + suc k = omega arith in
    ap (λ (ps : List TransactionPlace). places_of first (length scripts) ++ ps) (places_from-more (suc first) threads k (omega arith))
    ∙ sym (append_assoc (places_of first (length scripts)) (places_from (suc first) (take k threads)) (places_of (suc first + k) (count_in threads k)))
    ∙ ap (λ (n : ℕ). (places_of first (length scripts) ++ places_from (suc first) (take k threads)) ++ places_of n (count_in threads k)) same

onto-append : (b : Bool) (n : ℕ) (both xs ys : List ℕ) → both ≡ xs ++ ys → cond b (n ∷ both) both ≡ cond b (n ∷ xs) xs ++ ys
onto-append true n both xs ys e = ap (λ (ns : List ℕ). n ∷ ns) e
onto-append false n both xs ys e = e

positions-append : (thread : ℕ) (xs ys : List TransactionPlace) → positions_of thread (xs ++ ys) ≡ positions_of thread xs ++ positions_of thread ys
positions-append thread [] ys = refl
positions-append thread (x ∷ xs) ys = onto-append (x.0 == thread) x.1 (positions_of thread (xs ++ ys)) (positions_of thread xs) (positions_of thread ys) (positions-append thread xs ys)

own_places : (thread : ℕ) (numbers : List ℕ) → positions_of thread (map (λ (n : ℕ). let p : TransactionPlace = (thread, n) in p) numbers) ≡ numbers
own_places thread [] = refl
own_places thread (n ∷ numbers) =
    let same : (thread == thread) ≡ true = grind (arith, nat_tests) in
    ap (λ (b : Bool). cond b (n ∷ positions_of thread (map (λ (n : ℕ). let p : TransactionPlace = (thread, n) in p) numbers)) (positions_of thread (map (λ (n : ℕ). let p : TransactionPlace = (thread, n) in p) numbers))) same
    ∙ ap (λ (ns : List ℕ). n ∷ ns) (own_places thread numbers)

other_places : (thread other : ℕ) (numbers : List ℕ) → (other == thread) ≡ false → positions_of thread (map (λ (n : ℕ). let p : TransactionPlace = (other, n) in p) numbers) ≡ []
other_places thread other [] e = refl
other_places thread other (n ∷ numbers) e =
    ap (λ (b : Bool). cond b (n ∷ positions_of thread (map (λ (n : ℕ). let p : TransactionPlace = (other, n) in p) numbers)) (positions_of thread (map (λ (n : ℕ). let p : TransactionPlace = (other, n) in p) numbers))) e
    ∙ other_places thread other numbers e

above : (first : ℕ) (threads : List (List Script)) (thread : ℕ) → thread < first → positions_of thread (places_from first threads) ≡ []
above first [] thread h = refl
above first (scripts ∷ threads) thread h =
    positions-append thread (places_of first (length scripts)) (places_from (suc first) threads)
    ∙ ap (λ (ns : List ℕ). ns ++ positions_of thread (places_from (suc first) threads)) (other_places thread first (numbers_from 1 (length scripts)) (grind (arith, nat_tests)))
    ∙ above (suc first) threads thread (omega arith)

each_thread : (first : ℕ) (threads : List (List Script)) (k : ℕ) → positions_of (first + k) (places_from first threads) ≡ numbers_from 1 (count_in threads k)
each_thread first [] k = refl
each_thread first (scripts ∷ threads) zero =
    let here : first + 0 ≡ first = omega arith in
    ap (λ (n : ℕ). positions_of n (places_from first (scripts ∷ threads))) here
    ∙ positions-append first (places_of first (length scripts)) (places_from (suc first) threads)
    ∙ ap (λ (ns : List ℕ). ns ++ positions_of first (places_from (suc first) threads)) (own_places first (numbers_from 1 (length scripts)))
    ∙ ap (λ (ns : List ℕ). numbers_from 1 (length scripts) ++ ns) (above (suc first) threads first (omega arith))
    ∙ append-nil (numbers_from 1 (length scripts))
each_thread first (scripts ∷ threads) (suc k) =
    let there : first + suc k ≡ suc first + k = omega arith in
    let other : (first == first + suc k) ≡ false = grind (arith, nat_tests) in
    positions-append (first + suc k) (places_of first (length scripts)) (places_from (suc first) threads)
    ∙ ap (λ (ns : List ℕ). ns ++ positions_of (first + suc k) (places_from (suc first) threads)) (other_places (first + suc k) first (numbers_from 1 (length scripts)) other)
    ∙ ap (λ (n : ℕ). positions_of n (places_from (suc first) threads)) there
    ∙ each_thread (suc first) threads k

-- thread by thread is an order of the file
pub thread_order-is_order : (f : File) → IsOrder f (thread_order f)
thread_order-is_order f thread =
    let same : thread ≡ 0 + thread = omega arith in
    ap (λ (n : ℕ). positions_of n (thread_order f)) same ∙ each_thread 0 f.threads thread
