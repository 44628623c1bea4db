-- The transactions of a file, as the code reaches them.
use Rattle.std.proofs.Common.{◌≡◌, ℕ, zero, suc, ◌≤◌, List, [], ◌∷◌, length, map, ap, ◌∙◌, Option, None, Some, slice_get, option_and_then, arith}
use Rattle.std.specs.Option.{option_map}
use Rattle.std.proofs.lemmas.List.{length-map}
use Rattle.std.proofs.lemmas.Option.{slice_get-map}
use Rattle.sto_lang.specs.declared.file.Script as code
use Rattle.sto_lang.specs.declared.file.Thread.{Thread}
use Rattle.sto_lang.specs.declared.file.File as whole
use Rattle.sto_lang.specs.Scripts.{Script, File}
use Rattle.sto_lang.specs.Views.{script, threads_of, file}
use Rattle.sto_report_spec.specs.Orders.{TransactionPlace, at_position, transaction_at, count_in}
use Rattle.sto_run_threads.specs.Ran.{IsTransaction}

count_where : (threads : List (List Script)) (t : ℕ) (scripts : List Script) → slice_get threads t ≡ Some scripts → count_in threads t ≡ length scripts
count_where [] t scripts e = absurd cc
count_where (s ∷ threads) zero scripts e = cc
count_where (s ∷ threads) (suc t) scripts e = count_where threads t scripts e

thread_where : (threads : List Thread) (t : ℕ) (thread : Thread) → slice_get threads t ≡ Some thread → slice_get (threads_of threads) t ≡ Some (map script thread.scripts.items)
thread_where threads t thread e =
    slice_get-map (λ (x : Thread). map script x.scripts.items) threads t ∙ ap (option_map (λ (x : Thread). map script x.scripts.items)) e

-- how many transactions a thread of the code has
pub count_at : (threads : List Thread) (t : ℕ) (thread : Thread) → slice_get threads t ≡ Some thread → count_in (threads_of threads) t ≡ length thread.scripts.items
count_at threads t thread e = count_where (threads_of threads) t (map script thread.scripts.items) (thread_where threads t thread e) ∙ length-map thread.scripts.items script

-- the transaction that the code finds at a place
pub at_place : (f : whole.File) (t p q : ℕ) (thread : Thread) (s : code.Script) → p ≡ suc q → slice_get f.threads.items t ≡ Some thread → slice_get thread.scripts.items q ≡ Some s → transaction_at (file f) (t, p) ≡ Some (script s)
at_place f t p q thread s e g h =
    ap (λ (n : ℕ). let place : TransactionPlace = (t, n) in transaction_at (file f) place) e
    ∙ ap (option_and_then (at_position (suc q))) (thread_where f.threads.items t thread g)
    ∙ slice_get-map script thread.scripts.items q
    ∙ ap (option_map script) h

-- the code has as many threads as the file
pub length-threads : (threads : List Thread) → length (threads_of threads) ≡ length threads
length-threads threads = length-map threads (λ (x : Thread). map script x.scripts.items)

-- where a transaction stands there is a thread, and positions begin with 1
none_at_zero : (found : Option (List Script)) (s : Script) → option_and_then (at_position zero) found ≡ Some s → ⊥
none_at_zero None s e = cc
none_at_zero (Some scripts) s e = cc

pub position_above : (f : File) (t p : ℕ) → IsTransaction f (t, p) → 1 ≤ p
position_above f t zero h = absurd (none_at_zero (slice_get f.threads t) h.script h.there)
position_above f t (suc p) h = omega arith
