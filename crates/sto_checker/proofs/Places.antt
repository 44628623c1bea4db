-- The transactions of a file, as the code reaches them.
use Rattle.std.proofs.Common.{◌≡◌, ℕ, zero, suc, ◌+◌, ◌<◌, ◌≤◌, List, [], ◌∷◌, length, map, ap, sym, ◌∙◌, subst, Some, slice_get, option_and_then, arith}
use Rattle.std.specs.Option.{option_map}
use Rattle.std.specs.List.{All}
use Rattle.std.proofs.lemmas.List.{length-map}
use Rattle.std.proofs.lemmas.List.Elements.{All-nil, All-cons, All-head, All-tail, All-append}
use Rattle.std.proofs.lemmas.Option.{slice_get-map}
use Rattle.sto_model.specs.SequentialObjects.{SequentialObject, opening_of}
use Rattle.sto_model.specs.Objects.{machine_of, machines_of}
use Rattle.sto_model.specs.Run.{State}
use Rattle.sto_model.specs.declared.shape.Shape.{Shape}
use Rattle.sto_lang.specs.declared.file.Decl.{Decl}
use Rattle.sto_lang.specs.declared.file.Script as code
use Rattle.sto_lang.specs.declared.file.Thread.{Thread}
use Rattle.sto_lang.specs.declared.file.File as whole
use Rattle.sto_lang.specs.Objects.{Declaration}
use Rattle.sto_lang.specs.Scripts.{Script, File}
use Rattle.sto_lang.specs.Views.{declaration, script, threads_of, file}
use Rattle.sto_report_spec.specs.Orders.{TransactionPlace, numbers_from, at_position, transaction_at, count_in}
use Rattle.sto_journal.specs.declared.journal.Line.{Line}
use Rattle.sto_journal.specs.Journals.{HaveRows, HaveThreads, places}
use Rattle.sto_checker.specs.Runs.{places_of, places_from, thread_order}

count_where : (threads : List (List Script)) (t : ℕ) (scripts : List Script) → slice_get threads t ≡ Some scripts → count_in threads t ≡ length scripts
count_where [] t scripts e = absurd cc
count_where (s ∷ threads) zero scripts e = cc
count_where (s ∷ threads) (suc t) scripts e = count_where threads t scripts e

thread_where : (threads : List Thread) (t : ℕ) (thread : Thread) → slice_get threads t ≡ Some thread → slice_get (threads_of threads) t ≡ Some (map script thread.scripts.items)
thread_where threads t thread e =
    slice_get-map (λ (x : Thread). map script x.scripts.items) threads t ∙ ap (option_map (λ (x : Thread). map script x.scripts.items)) e

-- how many transactions a thread of the code has
pub count_at : (threads : List Thread) (t : ℕ) (thread : Thread) → slice_get threads t ≡ Some thread → count_in (threads_of threads) t ≡ length thread.scripts.items
count_at threads t thread e = count_where (threads_of threads) t (map script thread.scripts.items) (thread_where threads t thread e) ∙ length-map thread.scripts.items script

-- the transaction that the code finds at a place
pub at_place : (f : whole.File) (t p q : ℕ) (thread : Thread) (s : code.Script) → p ≡ suc q → slice_get f.threads.items t ≡ Some thread → slice_get thread.scripts.items q ≡ Some s → transaction_at (file f) (t, p) ≡ Some (script s)
at_place f t p q thread s e g h =
    ap (λ (n : ℕ). let place : TransactionPlace = (t, n) in transaction_at (file f) place) e
    ∙ ap (option_and_then (at_position (suc q))) (thread_where f.threads.items t thread g)
    ∙ slice_get-map script thread.scripts.items q
    ∙ ap (option_map script) h

-- the code has as many threads as the file
pub length-threads : (threads : List Thread) → length (threads_of threads) ≡ length threads
length-threads threads = length-map threads (λ (x : Thread). map script x.scripts.items)

-- at the opening there are rows for each object
pub length-opening : (shapes : List Shape) → length (opening_of (machines_of shapes)) ≡ length shapes
length-opening shapes = length-map (machines_of shapes) (λ (m : SequentialObject). m.opening) ∙ length-map shapes machine_of

-- a state with as many rows as there are objects has rows for each
pub have_rows : (decls : List Decl) (objects : ℕ) (state : State) → All (λ (d : Declaration). d.number < objects) (map declaration decls) → objects ≡ length state → HaveRows state decls
have_rows [] objects state h e = All-nil (λ (d : Decl). d.number < length state)
have_rows (d ∷ decls) objects state h e =
    let numbered : Declaration → Type 0 = λ (x : Declaration). x.number < objects in
    let first : d.number < objects = All-head numbered (declaration d) (map declaration decls) h in
    All-cons (λ (x : Decl). x.number < length state) d decls (omega arith) (have_rows decls objects state (All-tail numbered (declaration d) (map declaration decls) h) e)

-- the lines of a run thread by thread are of its threads

abbrev IsOfThread : ℕ → TransactionPlace → Type 0
IsOfThread count place = place.0 < count

all_of_thread : (count thread : ℕ) (positions : List ℕ) → thread < count → All (IsOfThread count) (map (λ (position : ℕ). let place : TransactionPlace = (thread, position) in place) positions)
all_of_thread count thread [] h = All-nil (IsOfThread count)
all_of_thread count thread (position ∷ positions) h =
    All-cons (IsOfThread count) (thread, position) (map (λ (p : ℕ). let place : TransactionPlace = (thread, p) in place) positions) h (all_of_thread count thread positions h)

all_of_threads : (count first : ℕ) (threads : List (List Script)) → first + length threads ≤ count → All (IsOfThread count) (places_from first threads)
all_of_threads count first [] h = All-nil (IsOfThread count)
all_of_threads count first (scripts ∷ threads) h =
    All-append (IsOfThread count) (places_of first (length scripts)) (places_from (suc first) threads)
    (all_of_thread count first (numbers_from 1 (length scripts)) (omega (arith, h))) (all_of_threads count (suc first) threads (omega (arith, h)))

by_places : (count : ℕ) (lines : List Line) → All (IsOfThread count) (places lines) → HaveThreads count lines
by_places count [] h = All-nil (λ (l : Line). l.thread < count)
by_places count (line ∷ lines) h =
    All-cons (λ (l : Line). l.thread < count) line lines (All-head (IsOfThread count) (line.thread, line.position) (places lines) h) (by_places count lines (All-tail (IsOfThread count) (line.thread, line.position) (places lines) h))

pub have_threads : (f : File) (lines : List Line) (count : ℕ) → places lines ≡ thread_order f → length f.threads ≡ count → HaveThreads count lines
have_threads f lines count e n =
    by_places count lines (subst (All (IsOfThread count)) (sym e) (all_of_threads count 0 f.threads (omega (arith, n))))
