-- Where the transactions and the transfers of the generated file stand.
use Rattle.std.proofs.Common.{◌≡◌, ◌+◌, ◌*◌, ◌<◌, refl, arith, ap, sym, ◌∙◌, ℕ, zero, suc, List, [], ◌∷◌, ◌++◌, length, Some, slice_get, inl, inr}
use Rattle.std.proofs.lemmas.Bool.{cases_eq}
use Rattle.sto_gen.specs.Draws.{next, state_after, transfer_after, transfers_after}
use Rattle.sto_gen.specs.Generated.{transaction, transactions, state_before, threads}
use Rattle.sto_gen.proofs.Steps.{length_last}

get_last : {X : Type 0} (xs : List X) (x : X) → slice_get (xs ++ x ∷ []) (length xs) ≡ Some x
get_last [] x = refl
get_last (y ∷ xs) x = get_last xs x

get_before : {X : Type 0} (xs : List X) (x y : X) (k : ℕ) → slice_get xs k ≡ Some y → slice_get (xs ++ x ∷ []) k ≡ Some y
get_before [] x y k e = absurd cc
get_before (z ∷ xs) x y zero e = e
get_before (z ∷ xs) x y (suc k) e = get_before xs x y k e

-- a list that grows at its end
record Grows {X : Type 0} (list : ℕ → List X) (item : ℕ → X) : Type 0 where
  begins : list 0 ≡ []
  grows : (k : ℕ) → list (suc k) ≡ list k ++ item k ∷ []

grown_length : {X : Type 0} (list : ℕ → List X) (item : ℕ → X) → Grows list item → (n : ℕ) → length (list n) ≡ n
grown_length list item g zero = ap length g.begins
grown_length list item g (suc n) =
    let more = ap length (g.grows n) in let last = length_last (list n) (item n) in let rest = grown_length list item g n in omega (arith, more, last, rest)

grown : {X : Type 0} (list : ℕ → List X) (item : ℕ → X) → Grows list item → (n k : ℕ) → k < n → slice_get (list n) k ≡ Some (item k)
grown list item g zero k below = absurd (omega (arith, below))
grown list item g (suc n) k below = ap (λ l. slice_get l k) (g.grows n) ∙ elim (cases_eq k n) [
  | inl same ↦
      ap (λ i. slice_get (list n ++ item n ∷ []) i) (same ∙ sym (grown_length list item g n)) ∙ get_last (list n) (item n) ∙ ap (λ i. Some (item i)) (sym same)
  | inr other ↦ get_before (list n) (item n) (item k) k (grown list item g n k (omega (arith, below, other)))
]

transactions_grow : (thread state : ℕ) → Grows (transactions thread state) (λ k. transaction thread (k + 1) (transfer_after (state_after k state)))
unfolding transactions
transactions_grow thread state = record { begins = refl; grows = λ k. refl }

threads_grow : (state : ℕ) → Grows (threads state) (λ k. transactions k (state_before k state) 200)
unfolding threads
threads_grow state = record { begins = refl; grows = λ k. refl }

transfers_grow : (state : ℕ) → Grows (λ count. transfers_after count state) (λ k. transfer_after (state_after k state))
unfolding transfers_after
transfers_grow state = record { begins = refl; grows = λ k. refl }

-- the transactions of a thread
pub thread_there : (n thread : ℕ) → thread < 16 → slice_get (threads n 16) thread ≡ Some (transactions thread (state_before thread n) 200)
thread_there n thread below = grown (threads n) _ (threads_grow n) 16 thread below

-- those before and behind
after_both : (more count state : ℕ) → state_after more (state_after count state) ≡ state_after (count + more) state
unfolding state_after
after_both zero count state = ap (λ n. state_after n state) (let e : count ≡ count + 0 = omega arith in e)
after_both (suc more) count state =
    ap (λ s. next (next (next s))) (after_both more count state) ∙ ap (λ n. state_after n state) (let e : suc (count + more) ≡ count + suc more = omega arith in e)

before_thread : (thread n : ℕ) → state_before thread n ≡ state_after (200 * thread) n
unfolding state_before state_after
before_thread zero n = refl
before_thread (suc thread) n =
    ap (state_after 200) (before_thread thread n) ∙ after_both 200 (200 * thread) n
    ∙ ap (λ m. state_after m n) (let e : 200 * thread + 200 ≡ 200 * suc thread = omega arith in e)

-- the transaction behind so many others of its thread, by its transfer
pub transaction_there : (n thread earlier : ℕ) → earlier < 200
    → slice_get (transactions thread (state_before thread n) 200) earlier ≡ Some (transaction thread (earlier + 1) (transfer_after (state_after (200 * thread + earlier) n)))
transaction_there n thread earlier below =
    grown (transactions thread (state_before thread n)) _ (transactions_grow thread (state_before thread n)) 200 earlier below
    ∙ ap (λ s. Some (transaction thread (earlier + 1) (transfer_after s))) (ap (state_after earlier) (before_thread thread n) ∙ after_both earlier (200 * thread) n)

-- the transfer behind so many others
pub transfer_there : (n earlier : ℕ) → earlier < 3200 → slice_get (transfers_after 3200 n) earlier ≡ Some (transfer_after (state_after earlier n))
transfer_there n earlier below = grown (λ count. transfers_after count n) _ (transfers_grow n) 3200 earlier below

pub transfers_length : (n count : ℕ) → length (transfers_after count n) ≡ count
transfers_length n count = grown_length (λ k. transfers_after k n) _ (transfers_grow n) count
