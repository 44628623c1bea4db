-- The transactions of the generated file, at their places.
use Rattle.std.proofs.Common.{◌≡◌, ℕ, zero, suc, ◌+◌, ◌-◌, ◌*◌, ◌≤◌, ◌<◌, List, [], ◌∷◌, length, Option, None, Some, slice_get, option_and_then, ap, sym, ◌∙◌, arith}
use Rattle.std.proofs.lemmas.Option.{slice_get_within}
use Rattle.sto_lang.specs.Scripts.{Script, File}
use Rattle.sto_report_spec.specs.Orders.{TransactionPlace, at_position, transaction_at, count_in}
use Rattle.sto_gen.specs.Draws.{transfer_after, state_after}
use Rattle.sto_gen.specs.Generated.{file_of, transaction, transactions, state_before, threads}
use Rattle.sto_gen.proofs.Places.{thread_there, transaction_there}
use Rattle.sto_gen.proofs.Sound.{thread_count, transaction_length}

-- where a transaction stands
pub record IsWithin (place : TransactionPlace) : Type 0 where
  pub thread : place.0 < 16
  pub first : 1 ≤ place.1
  pub position : place.1 ≤ 200

found_thread : (found : Option (List Script)) (p : ℕ) (s : Script) → option_and_then (at_position p) found ≡ Some s → (scripts : List Script) × (found ≡ Some scripts) × (at_position p scripts ≡ Some s)
found_thread None p s e = absurd cc
found_thread (Some scripts) p s e = (scripts, cc, e)

found_position : (p : ℕ) (scripts : List Script) (s : Script) → at_position p scripts ≡ Some s → (1 ≤ p) × (p ≤ length scripts)
found_position zero scripts s e = absurd cc
found_position (suc p) scripts s e = let within = slice_get_within scripts p s e in (omega arith, omega (arith, within))

pub some_same : {X : Type 0} (x y : X) → Some x ≡ Some y → x ≡ y
some_same x y e = cc

pub is_within : (n : ℕ) (place : TransactionPlace) (s : Script) → transaction_at (file_of n) place ≡ Some s → IsWithin place
is_within n place s there =
    let found = found_thread (slice_get (threads n 16) place.0) place.1 s there in
    let within = slice_get_within (threads n 16) place.0 found.0 found.1 in
    let count = thread_count n 16 in
    let thread : place.0 < 16 = omega (arith, within, count) in
    let same : found.0 ≡ transactions place.0 (state_before place.0 n) 200 = some_same _ _ (sym found.1 ∙ thread_there n place.0 thread) in
    let positions = found_position place.1 found.0 s found.2 in
    let many : length found.0 ≡ 200 = ap length same ∙ transaction_length place.0 (state_before place.0 n) 200 in
    record { thread = thread; first = positions.0; position = (let p = positions.1 in omega (arith, p, many)) }

at_suc : (f : File) (thread p q : ℕ) → p ≡ suc q → transaction_at f (thread, p) ≡ option_and_then (at_position (suc q)) (slice_get f.threads thread)
at_suc f thread p q e = ap (λ (n : ℕ). let place : TransactionPlace = (thread, n) in transaction_at f place) e

-- the transaction that is made of a transfer
pub made_there : (n thread position : ℕ) → IsWithin (thread, position)
    → transaction_at (file_of n) (thread, position) ≡ Some (transaction thread position (transfer_after (state_after (200 * thread + (position - 1)) n)))
made_there n thread position within =
    let first = within.first in let last = within.position in
    let next : position ≡ suc (position - 1) = omega (arith, first) in
    let again : position - 1 + 1 ≡ position = omega (arith, first) in
    at_suc (file_of n) thread position (position - 1) next
    ∙ ap (option_and_then (at_position (suc (position - 1)))) (thread_there n thread within.thread)
    ∙ transaction_there n thread (position - 1) (omega (arith, first, last))
    ∙ ap (λ (p : ℕ). Some (transaction thread p (transfer_after (state_after (200 * thread + (position - 1)) n)))) again

count_where : (all : List (List Script)) (t : ℕ) (scripts : List Script) → slice_get all t ≡ Some scripts → count_in all t ≡ length scripts
count_where [] t scripts e = absurd cc
count_where (s ∷ all) zero scripts e = cc
count_where (s ∷ all) (suc t) scripts e = count_where all t scripts e

pub counts_there : (n thread : ℕ) → thread < 16 → count_in (threads n 16) thread ≡ 200
counts_there n thread below =
    count_where (threads n 16) thread (transactions thread (state_before thread n) 200) (thread_there n thread below) ∙ transaction_length thread (state_before thread n) 200
