-- An order that has as many transactions as the file has all of them.
use Rattle.std.proofs.Common.{◌≡◌, ◌⊎◌, ℕ, zero, suc, ◌+◌, ◌<◌, ◌≤◌, List, [], ◌∷◌, ◌++◌, length, refl, sym, ap, ◌∙◌, subst, Bool, true, false, cond, ◌==◌, Some, arith, inl, inr, append-nil, sum_by}
use Rattle.std.specs.List.{All}
use Rattle.std.proofs.lemmas.Bool.Decides.{nat_tests}
use Rattle.std.proofs.lemmas.List.Elements.{All-head, All-tail, All-weaker}
use Rattle.std.proofs.lemmas.List.Sums.{sum_by-cons}
use Rattle.sto_lang.specs.Scripts.{Script, File}
use Rattle.sto_lang.specs.Drafts.{transaction_count}
use Rattle.sto_report_spec.specs.Orders.{TransactionPlace, count_in, positions_of, numbers_from, IsOrder}
use Rattle.sto_checker.proofs.OneMore.{numbers_from-more}
use Rattle.sto_checker.specs.Shown.{IsInside, AreInside}
use Rattle.sto_checker.specs.Right.{IsNext}
use Rattle.sto_checker.specs.Past.{IsBegun}
use Rattle.sto_checker.proofs.Kept.{is_inside, positions_of-more}

-- Sums over the first numbers.

sums : (ℕ → ℕ) → ℕ → ℕ
sums f zero = 0
sums f (suc n) = sums f n + f n

sums_zero : (f : ℕ → ℕ) (n : ℕ) → ((t : ℕ) → f t ≡ 0) → sums f n ≡ 0
unfolding sums
sums_zero f zero h = refl
sums_zero f (suc n) h = let more = sums_zero f n h in let here = h n in omega (arith, more, here)

sums_same : (f g : ℕ → ℕ) (n : ℕ) → ((t : ℕ) → f t ≡ g t) → sums f n ≡ sums g n
unfolding sums
sums_same f g zero h = refl
sums_same f g (suc n) h = let more = sums_same f g n h in let here = h n in omega (arith, more, here)

sums_add : (f g : ℕ → ℕ) (n : ℕ) → sums (λ t. f t + g t) n ≡ sums f n + sums g n
unfolding sums
sums_add f g zero = refl
sums_add f g (suc n) = let more = sums_add f g n in omega (arith, more)

sums_front : (f : ℕ → ℕ) (n : ℕ) → sums f (suc n) ≡ f 0 + sums (λ t. f (suc t)) n
unfolding sums
sums_front f zero = omega arith
sums_front f (suc n) = let more = sums_front f n in omega (arith, more)

sums_below : (f g : ℕ → ℕ) (n : ℕ) → ((t : ℕ) → f t ≤ g t) → sums f n ≤ sums g n
unfolding sums
sums_below f g zero h = omega arith
sums_below f g (suc n) h = let more = sums_below f g n h in let here = h n in omega (arith, more, here)

lt_or : (t n : ℕ) → t < suc n → (t < n) ⊎ (t ≡ n)
lt_or zero zero l = inr refl
lt_or zero (suc n) l = inl (omega arith)
lt_or (suc t) zero l = absurd (omega (arith, l))
lt_or (suc t) (suc n) l = by (lt_or t n (omega (arith, l)))
  where
    by : (t < n) ⊎ (t ≡ n) → (suc t < suc n) ⊎ (suc t ≡ suc n)
    by (inl k) = inl (omega (arith, k))
    by (inr k) = inr (ap suc k)

le_or : (n t : ℕ) → (n ≤ t) ⊎ (t < n)
le_or zero t = inl (omega arith)
le_or (suc n) zero = inr (omega arith)
le_or (suc n) (suc t) = by (le_or n t)
  where
    by : (n ≤ t) ⊎ (t < n) → (suc n ≤ suc t) ⊎ (suc t < suc n)
    by (inl k) = inl (omega (arith, k))
    by (inr k) = inr (omega (arith, k))

same_number : (a b : ℕ) → (a == b) ≡ true → a ≡ b
same_number a b e = grind (arith, nat_tests)

longer : (ns : List ℕ) (n : ℕ) → length (ns ++ n ∷ []) ≡ suc (length ns)
longer [] n = refl
longer (m ∷ ns) n = ap suc (longer ns n)

-- numbers that are no greater, with the same sum, are the same
all_same : (f g : ℕ → ℕ) (n : ℕ) → ((t : ℕ) → f t ≤ g t) → sums f n ≡ sums g n → (t : ℕ) → t < n → f t ≡ g t
unfolding sums
all_same f g zero h e t l = absurd (omega (arith, l))
all_same f g (suc n) h e t l =
    let below = sums_below f g n h in
    let here = h n in
    let last : f n ≡ g n = omega (arith, below, here, e) in
    let front : sums f n ≡ sums g n = omega (arith, last, e) in
    by (lt_or t n l) last (all_same f g n h front t)
  where
    by : (t < n) ⊎ (t ≡ n) → f n ≡ g n → (t < n → f t ≡ g t) → f t ≡ g t
    by (inl k) last more = more k
    by (inr k) last more = ap f k ∙ last ∙ sym (ap g k)

-- Transactions of each thread.

counts : List (List Script) → ℕ → ℕ
counts threads t = count_in threads t

unfoldable own : ℕ → ℕ → ℕ
own t u = cond (u == t) 1 0

own_length : (p : TransactionPlace) (order : List TransactionPlace) (t : ℕ) → length (positions_of t (p ∷ order)) ≡ own t p.0 + length (positions_of t order)
unfolding own
own_length p order t = by (p.0 == t)
  where
    by : (b : Bool) → length (cond b (p.1 ∷ positions_of t order) (positions_of t order)) ≡ cond b 1 0 + length (positions_of t order)
    by true = omega arith
    by false = omega arith

own_here : (t : ℕ) → own t t ≡ 1
unfolding own
own_here t = ap (λ (b : Bool). cond b 1 0) (same t)
  where
    same : (t : ℕ) → (t == t) ≡ true
    same t = grind (arith, nat_tests)

own_there : (t u : ℕ) → (t ≡ u → ⊥) → own t u ≡ 0
unfolding own
own_there t u h = ap (λ (b : Bool). cond b 1 0) (other t u h)
  where
    other : (t u : ℕ) → (t ≡ u → ⊥) → (u == t) ≡ false
    other t u h = grind (arith, nat_tests)

sums_beyond : (n u : ℕ) → n ≤ u → sums (λ t. own t u) n ≡ 0
unfolding sums
sums_beyond zero u l = refl
sums_beyond (suc n) u l =
    let more = sums_beyond n u (omega (arith, l)) in
    let here = own_there n u (λ e. absurd (omega (arith, e, l))) in
    omega (arith, more, here)

sums_own : (n u : ℕ) → u < n → sums (λ t. own t u) n ≡ 1
unfolding sums
sums_own zero u l = absurd (omega (arith, l))
sums_own (suc n) u l = by (lt_or u n l) (sums_own n u)
  where
    by : (u < n) ⊎ (u ≡ n) → (u < n → sums (λ t. own t u) n ≡ 1) → sums (λ t. own t u) n + own n u ≡ 1
    by (inl k) more = let front = more k in let here = own_there n u (λ e. absurd (omega (arith, e, k))) in omega (arith, front, here)
    by (inr k) more =
        let front = sums_beyond n u (omega (arith, k)) in
        let here = ap (own n) k ∙ own_here n in
        omega (arith, front, here)

-- an order has as many transactions as its threads have together
order_sum : (threads : ℕ) (order : List TransactionPlace) → All (λ (p : TransactionPlace). p.0 < threads) order → length order ≡ sums (λ t. length (positions_of t order)) threads
order_sum threads [] h = sym (sums_zero (λ t. 0) threads (λ t. refl))
order_sum threads (p ∷ order) h =
    let below : TransactionPlace → Type 0 = λ p. p.0 < threads in
    let rest = order_sum threads order (All-tail below p order h) in
    let here = sums_own threads p.0 (All-head below p order h) in
    let split = sums_add (λ t. own t p.0) (λ t. length (positions_of t order)) threads in
    let all = sums_same (λ t. length (positions_of t (p ∷ order))) (λ t. own t p.0 + length (positions_of t order)) threads (own_length p order) in
    omega (arith, rest, here, split, all)

-- a file has as many as its threads have
file_sum : (threads : List (List Script)) → transaction_count threads ≡ sums (counts threads) (length threads)
unfolding sums counts
file_sum [] = refl
file_sum (scripts ∷ threads) =
    let more = file_sum threads in
    let front = sums_front (counts (scripts ∷ threads)) (length threads) in
    let same = sums_same (λ t. counts (scripts ∷ threads) (suc t)) (counts threads) (length threads) (λ t. refl) in
    let cons = sum_by-cons length scripts threads in
    omega (arith, more, front, same, cons)

none_beyond : (threads : List (List Script)) (t : ℕ) → length threads ≤ t → count_in threads t ≡ 0
none_beyond [] t l = refl
none_beyond (scripts ∷ threads) zero l = absurd (omega (arith, l))
none_beyond (scripts ∷ threads) (suc t) l = none_beyond threads t (omega (arith, l))

inside_below : (file : File) (order : List TransactionPlace) → AreInside file order → All (λ (p : TransactionPlace). p.0 < length file.threads) order
inside_below file order h = All-weaker (IsInside file.threads) (λ (p : TransactionPlace). p.0 < length file.threads) (λ p i. i.thread) order h

pub complete : (file : File) (order : List TransactionPlace) → IsBegun file order → AreInside file order → length order ≡ transaction_count file.threads → IsOrder file order
unfolding counts
complete file order begun inside long t =
    (begun t).0 ∙ ap (numbers_from 1) (by (le_or (length file.threads) t))
  where
    by : (length file.threads ≤ t) ⊎ (t < length file.threads) → length (positions_of t order) ≡ count_in file.threads t
    by (inl l) = let none = none_beyond file.threads t l in let few = (begun t).1 in omega (arith, none, few)
    by (inr l) =
        all_same (λ u. length (positions_of u order)) (counts file.threads) (length file.threads) (λ u. (begun u).1)
        (sym (order_sum (length file.threads) order (inside_below file order inside)) ∙ long ∙ file_sum file.threads) t l

-- one more
pub begun_more : (file : File) (order : List TransactionPlace) (place : TransactionPlace) → IsBegun file order → IsNext file order place → IsBegun file (order ++ place ∷ [])
begun_more file order place begun next t = by (place.0 == t) refl
  where
    by : (b : Bool) → (place.0 == t) ≡ b → (positions_of t (order ++ place ∷ []) ≡ numbers_from 1 (length (positions_of t (order ++ place ∷ [])))) × (length (positions_of t (order ++ place ∷ [])) ≤ count_in file.threads t)
    by true e =
        let same : place.0 ≡ t = same_number place.0 t e in
        let more : positions_of t (order ++ place ∷ []) ≡ positions_of t order ++ place.1 ∷ [] = positions_of-more t order place ∙ ap (λ (b : Bool). positions_of t order ++ cond b (place.1 ∷ []) []) e in
        let count : length (positions_of t (order ++ place ∷ [])) ≡ suc (length (positions_of t order)) = ap length more ∙ longer (positions_of t order) place.1 in
        let position : place.1 ≡ suc (length (positions_of t order)) = next.next ∙ ap (λ (u : ℕ). suc (length (positions_of u order))) same in
        let last : 1 + length (positions_of t order) ≡ place.1 = omega (arith, position) in
        let within = (is_inside file place next.script next.transaction).last in
        let at : count_in file.threads place.0 ≡ count_in file.threads t = ap (count_in file.threads) same in (
          more
              ∙ ap (λ (ns : List ℕ). ns ++ place.1 ∷ []) (begun t).0
              ∙ ap (λ (n : ℕ). numbers_from 1 (length (positions_of t order)) ++ n ∷ []) (sym last)
              ∙ sym (numbers_from-more 1 (length (positions_of t order)))
              ∙ ap (numbers_from 1) (sym count),
          omega (arith, count, position, within, at),
        )
    by false e =
        let same : positions_of t (order ++ place ∷ []) ≡ positions_of t order = positions_of-more t order place ∙ ap (λ (b : Bool). positions_of t order ++ cond b (place.1 ∷ []) []) e ∙ append-nil (positions_of t order) in
        subst (λ (ps : List ℕ). (ps ≡ numbers_from 1 (length ps)) × (length ps ≤ count_in file.threads t)) (sym same) (begun t)

-- an order of the file has as many transactions as the file
pub order_count : (file : File) (order : List TransactionPlace) → IsOrder file order → AreInside file order → length order ≡ transaction_count file.threads
unfolding counts
order_count file order whole inside =
    order_sum (length file.threads) order (inside_below file order inside)
    ∙ sums_same (λ t. length (positions_of t order)) (counts file.threads) (length file.threads) (λ t. ap length (whole t) ∙ long 1 (count_in file.threads t))
    ∙ sym (file_sum file.threads)
  where
    long : (first n : ℕ) → length (numbers_from first n) ≡ n
    long first zero = refl
    long first (suc n) = ap suc (long (suc first) n)
