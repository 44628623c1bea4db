-- A transaction weighs at most as much as its file.
use Rattle.std.specs.Prelude.{slice_get, Some, option_and_then}
use Rattle.std.proofs.Common.{◌≡◌, ℕ, zero, suc, ◌≤◌, List, [], ◌∷◌, sum_by, ap, arith}
use Rattle.std.proofs.lemmas.List.Sums.{sum_by-cons}
use Rattle.sto_lang.specs.Drafts.{weight_total}
use Rattle.sto_lang.specs.Scripts.{Script, File}
use Rattle.sto_run_threads.specs.Orders.{TransactionPlace, at_position, transaction_at}

within_scripts : (scripts : List Script) (n : ℕ) (s : Script) → slice_get scripts n ≡ Some s → s.weight ≤ sum_by (λ (x : Script). x.weight) scripts
within_scripts [] n s e = absurd cc
within_scripts (x ∷ xs) zero s e =
    let is : x ≡ s = cc in
    let w = ap (λ (y : Script). y.weight) is in let k = sum_by-cons (λ (y : Script). y.weight) x xs in omega (arith, w, k)
within_scripts (x ∷ xs) (suc n) s e = let k = sum_by-cons (λ (y : Script). y.weight) x xs in let r = within_scripts xs n s e in omega (arith, k, r)

within_threads : (threads : List (List Script)) (t p : ℕ) (s : Script) → option_and_then (at_position p) (slice_get threads t) ≡ Some s → s.weight ≤ weight_total threads
within_threads [] t p s e = absurd cc
within_threads (x ∷ ts) zero zero s e = absurd cc
within_threads (x ∷ ts) zero (suc p) s e =
    let k = sum_by-cons (λ (y : List Script). sum_by (λ (z : Script). z.weight) y) x ts in let r = within_scripts x p s e in omega (arith, k, r)
within_threads (x ∷ ts) (suc t) p s e =
    let k = sum_by-cons (λ (y : List Script). sum_by (λ (z : Script). z.weight) y) x ts in let r = within_threads ts t p s e in omega (arith, k, r)

pub weighs_within : (file : File) (place : TransactionPlace) (s : Script) → transaction_at file place ≡ Some s → s.weight ≤ weight_total file.threads
weighs_within file place s e = within_threads file.threads place.0 place.1 s e
