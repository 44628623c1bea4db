-- How many transactions of a generated file stand in each of its orders: 3,200, and so many of each kind.
use Rattle.std.proofs.Common.{◌≡◌, ◌≤◌, ◌<◌, ℕ, zero, suc, ◌+◌, ◌==◌, List, [], ◌∷◌, length, refl, ap, sym, ◌∙◌, arith, Bool, true, false, cond, subst, inl, inr, slice_get, Some}
use Rattle.std.proofs.lemmas.Bool.{cases_eq, cases_lt}
use Rattle.std.proofs.lemmas.Bool.Decides.{nat_tests}
use Rattle.sto_lang.specs.Scripts.{Script}
use Rattle.sto_report_spec.specs.Orders.{TransactionPlace, positions_of, numbers_from, count_in, IsOrder}
use Rattle.sto_gen.specs.Generated.{file_of, threads, transactions, state_before}
use Rattle.sto_gen.proofs.Places.{thread_there}
use Rattle.sto_gen.proofs.Sound.{thread_count, transaction_length}

-- how many of a list are of a kind
abbrev pub tally : {X : Type 0} → (X → Bool) → List X → ℕ
tally kind [] = 0
tally kind (x ∷ xs) = cond (kind x) 1 0 + tally kind xs

-- a kind of transactions, by thread and position
abbrev pub Kind : Type 0
Kind = ℕ → ℕ → Bool

-- how many of a kind stand in an order
abbrev pub count_of : Kind → List TransactionPlace → ℕ
count_of kind order = tally (λ (p : TransactionPlace). kind p.0 p.1) order

-- how many of a kind the first so many threads have
abbrev pub total_of_kind : Kind → ℕ → ℕ
total_of_kind kind zero = 0
total_of_kind kind (suc thread) = total_of_kind kind thread + tally (kind thread) (numbers_from 1 200)

-- how many of a kind and of the first so many threads stand in an order
unfoldable counted : Kind → List TransactionPlace → ℕ → ℕ
counted kind order zero = 0
counted kind order (suc thread) = counted kind order thread + tally (kind thread) (positions_of thread order)

same_is : (t : ℕ) → (t == t) ≡ true
same_is t = grind (arith, nat_tests)

other_is : (t u : ℕ) → (t ≡ u → ⊥) → (t == u) ≡ false
other_is t u h = grind (arith, nat_tests)

pub own_first : (p : TransactionPlace) (order : List TransactionPlace) → positions_of p.0 (p ∷ order) ≡ p.1 ∷ positions_of p.0 order
own_first p order = ap (λ (b : Bool). cond b (p.1 ∷ positions_of p.0 order) (positions_of p.0 order)) (same_is p.0)

pub other_same : (p : TransactionPlace) (order : List TransactionPlace) (t : ℕ) → (p.0 ≡ t → ⊥) → positions_of t (p ∷ order) ≡ positions_of t order
other_same p order t h = ap (λ (b : Bool). cond b (p.1 ∷ positions_of t order) (positions_of t order)) (other_is p.0 t h)

abbrev one : Bool → ℕ
one b = cond b 1 0

own_count : (kind : Kind) (p : TransactionPlace) (order : List TransactionPlace) → tally (kind p.0) (positions_of p.0 (p ∷ order)) ≡ one (kind p.0 p.1) + tally (kind p.0) (positions_of p.0 order)
own_count kind p order = ap (tally (kind p.0)) (own_first p order)

-- one more of a thread that is not among the first so many, and of one that is
counted_past : (kind : Kind) (p : TransactionPlace) (order : List TransactionPlace) (k : ℕ) → k ≤ p.0 → counted kind (p ∷ order) k ≡ counted kind order k
unfolding counted
counted_past kind p order zero h = refl
counted_past kind p order (suc k) h =
    let rest = counted_past kind p order k (omega (arith, h)) in
    let here = ap (tally (kind k)) (other_same p order k (λ e. absurd (omega (arith, e, h)))) in omega (arith, rest, here)

counted_more : (kind : Kind) (p : TransactionPlace) (order : List TransactionPlace) (k : ℕ) → p.0 < k → counted kind (p ∷ order) k ≡ one (kind p.0 p.1) + counted kind order k
unfolding counted
counted_more kind p order zero h = absurd (omega (arith, h))
counted_more kind p order (suc k) h = elim (cases_eq p.0 k) [
  | inl same ↦
      let rest = counted_past kind p order k (omega (arith, same)) in
      let here = subst (λ (t : ℕ). tally (kind t) (positions_of t (p ∷ order)) ≡ one (kind p.0 p.1) + tally (kind t) (positions_of t order)) same (own_count kind p order) in
      omega (arith, rest, here)
  | inr other ↦
      let rest = counted_more kind p order k (omega (arith, h, other)) in
      let here = ap (tally (kind k)) (other_same p order k other) in omega (arith, rest, here)
]

-- an order of no thread past the first 16
abbrev pub AreBelow : List TransactionPlace → Type 0
AreBelow order = (t : ℕ) → 16 ≤ t → positions_of t order ≡ []

pub head_below : (p : TransactionPlace) (order : List TransactionPlace) → AreBelow (p ∷ order) → p.0 < 16
head_below p order h = elim (cases_lt p.0 16) [
  | inl below ↦ below
  | inr past ↦ absurd (let none = ap length (h p.0 past) in let some = ap length (own_first p order) in omega (arith, none, some))
]

pub tail_below : (p : TransactionPlace) (order : List TransactionPlace) → AreBelow (p ∷ order) → AreBelow order
tail_below p order h t past = elim (cases_eq p.0 t) [
  | inl same ↦ absurd (let below = head_below p order h in omega (arith, below, past, same))
  | inr other ↦ sym (other_same p order t other) ∙ h t past
]

none_counted : (kind : Kind) (k : ℕ) → counted kind [] k ≡ 0
unfolding counted
none_counted kind zero = refl
none_counted kind (suc k) = let rest = none_counted kind k in omega (arith, rest)

all_counted : (kind : Kind) (order : List TransactionPlace) → AreBelow order → counted kind order 16 ≡ count_of kind order
all_counted kind [] h = none_counted kind 16
all_counted kind (p ∷ order) h =
    let more = counted_more kind p order 16 (head_below p order h) in
    let rest = all_counted kind order (tail_below p order h) in
    let both : count_of kind (p ∷ order) ≡ one (kind p.0 p.1) + count_of kind order = refl in omega (arith, more, rest, both)

count_where : (all : List (List Script)) (t : ℕ) (scripts : List Script) → slice_get all t ≡ Some scripts → count_in all t ≡ length scripts
count_where [] t scripts e = absurd cc
count_where (s ∷ all) zero scripts e = cc
count_where (s ∷ all) (suc t) scripts e = count_where all t scripts e

none_past : (all : List (List Script)) (t : ℕ) → length all ≤ t → count_in all t ≡ 0
none_past [] t h = refl
none_past (s ∷ all) zero h = absurd (omega (arith, h))
none_past (s ∷ all) (suc t) h = none_past all t (omega (arith, h))

of_thread : (n thread : ℕ) → thread < 16 → count_in (threads n 16) thread ≡ 200
of_thread n thread below =
    count_where (threads n 16) thread (transactions thread (state_before thread n) 200) (thread_there n thread below) ∙ transaction_length thread (state_before thread n) 200

-- the positions of a thread in an order
pub thread_positions : (n : ℕ) (order : List TransactionPlace) → IsOrder (file_of n) order → (thread : ℕ) → thread < 16 → positions_of thread order ≡ numbers_from 1 200
thread_positions n order is thread below = is thread ∙ ap (numbers_from 1) (of_thread n thread below)

pub past_positions : (n : ℕ) (order : List TransactionPlace) → IsOrder (file_of n) order → AreBelow order
past_positions n order is t past = is t ∙ ap (numbers_from 1) (none_past (threads n 16) t (let all = thread_count n 16 in omega (arith, all, past)))

counted_is : (kind : Kind) (n : ℕ) (order : List TransactionPlace) → IsOrder (file_of n) order → (k : ℕ) → k ≤ 16 → counted kind order k ≡ total_of_kind kind k
unfolding counted
counted_is kind n order is zero h = refl
counted_is kind n order is (suc k) h =
    let rest = counted_is kind n order is k (omega (arith, h)) in
    let here = ap (tally (kind k)) (thread_positions n order is k (omega (arith, h))) in omega (arith, rest, here)

-- so many of a kind
pub count_is : (kind : Kind) (n : ℕ) (order : List TransactionPlace) → IsOrder (file_of n) order → count_of kind order ≡ total_of_kind kind 16
count_is kind n order is = sym (all_counted kind order (past_positions n order is)) ∙ counted_is kind n order is 16 (omega arith)

abbrev every : Kind
every thread position = true

every_one : (order : List TransactionPlace) → length order ≡ count_of every order
every_one [] = refl
every_one (p ∷ order) = let rest = every_one order in let both : count_of every (p ∷ order) ≡ 1 + count_of every order = refl in omega (arith, rest, both)

pub order_long : (n : ℕ) (order : List TransactionPlace) → IsOrder (file_of n) order → length order ≡ 3200
order_long n order is = every_one order ∙ count_is every n order is
