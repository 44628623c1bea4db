-- How many records wrote, with which tickets.
use Rattle.std.specs.Prelude.{if◌then◌else◌, filter, not, nat_le}
use Rattle.std.proofs.Common.{◌≡◌, ℕ, zero, suc, ◌+◌, ◌-◌, ◌<◌, ◌≤◌, List, [], ◌∷◌, refl, sym, ap, ◌∙◌, arith, Bool, true, false, cond, ◌==◌, inl, inr, eqb-true}
use Rattle.std.proofs.lemmas.Bool.{cases_Bool, cases_lt}
use Rattle.std.proofs.lemmas.Bool.Decides.{nat_tests}
use Rattle.std.proofs.lemmas.List.Sums.{sum_by-cons}
use Rattle.std.proofs.lemmas.List.Sorted.{sum_by-IsPermutation}
use Rattle.std.specs.List.{sum_by}
use Rattle.std.specs.List.Sorted.{IsPermutation}
use Rattle.sto_history.specs.Records.{Verdict, Wrote, Read, Cancelled, Locked, Changed, Record, is_abort, is_finished, wrote_with, wrote_within, times_written, writers_up_to}

-- one number more
within_next : (n : ℕ) (v : Verdict) → wrote_within (suc n) v ≡ wrote_within n v + wrote_with (suc n) v
within_next n (Wrote ticket) = grind (arith, nat_tests)
within_next n (Read at) = omega arith
within_next n (Cancelled at) = omega arith
within_next n (Locked at part) = omega arith
within_next n (Changed at part ticket) = omega arith

pub writers_next : (n : ℕ) (rs : List Record) → writers_up_to (suc n) rs ≡ writers_up_to n rs + times_written (suc n) rs
writers_next n [] = omega arith
writers_next n (r ∷ rs) = omega (arith, within_next n r.verdict, writers_next n rs)

-- what does not change from one number to the next is the same over a distance
pub same_over : {A : Type 0} (f : ℕ → A) (n d : ℕ) → ((k : ℕ) → n ≤ k → k < n + d → f (suc k) ≡ f k) → f (n + d) ≡ f n
same_over f n zero h = let e : n + 0 ≡ n = omega arith in ap f e
same_over f n (suc d) h =
    let e : n + suc d ≡ suc (n + d) = omega arith in
    ap f e ∙ h (n + d) (omega arith) (omega arith) ∙ same_over f n d (λ k l u. h k l (omega (arith, u)))

pub same_to : {A : Type 0} (f : ℕ → A) (n m : ℕ) → n ≤ m → ((k : ℕ) → n ≤ k → k < m → f (suc k) ≡ f k) → f m ≡ f n
same_to f n m le h =
    let e : m ≡ n + (m - n) = omega (arith, le) in
    ap f e ∙ same_over f n (m - n) (λ k l u. h k l (omega (arith, u, le)))

-- the number of writers does not fall
pub writers_grow : (rs : List Record) (n d : ℕ) → writers_up_to n rs ≤ writers_up_to (n + d) rs
writers_grow rs n zero = let e : n + 0 ≡ n = omega arith in let k = ap (λ i. writers_up_to i rs) e in omega arith
writers_grow rs n (suc d) =
    let e : n + suc d ≡ suc (n + d) = omega arith in let k = ap (λ i. writers_up_to i rs) e in
    let next = writers_next (n + d) rs in let rest = writers_grow rs n d in omega arith

pub writers_rise : (rs : List Record) (n m : ℕ) → n ≤ m → writers_up_to n rs ≤ writers_up_to m rs
writers_rise rs n m le =
    let e : m ≡ n + (m - n) = omega (arith, le) in let k = ap (λ i. writers_up_to i rs) e in
    let grow = writers_grow rs n (m - n) in omega (arith, k, grow)

-- nothing was written with number 0 or less
pub none_within_zero : (rs : List Record) → times_written 0 rs ≡ 0 → writers_up_to 0 rs ≡ 0
none_within_zero [] h = refl
none_within_zero (r ∷ rs) h =
    let here = at_zero r.verdict in let rest = none_within_zero rs (omega (arith, h)) in omega (arith, here, rest, h)
  where
    at_zero : (v : Verdict) → wrote_within 0 v ≡ wrote_with 0 v
    at_zero (Wrote ticket) = grind (arith, nat_tests)
    at_zero (Read at) = refl
    at_zero (Cancelled at) = refl
    at_zero (Locked at part) = refl
    at_zero (Changed at part ticket) = refl

-- counts are sums, which no other order changes
times_sum : (n : ℕ) (rs : List Record) → times_written n rs ≡ sum_by (λ (r : Record). wrote_with n r.verdict) rs
times_sum n [] = refl
times_sum n (r ∷ rs) = let e = sum_by-cons (λ (r : Record). wrote_with n r.verdict) r rs in let k = times_sum n rs in omega (arith, e, k)

abort_writes_none : (n : ℕ) (v : Verdict) → is_abort v ≡ true → wrote_with n v ≡ 0
abort_writes_none n (Wrote ticket) h = cc
abort_writes_none n (Read at) h = refl
abort_writes_none n (Cancelled at) h = refl
abort_writes_none n (Locked at part) h = refl
abort_writes_none n (Changed at part ticket) h = refl

-- those that are not aborted
finished_one : (n : ℕ) (r : Record) (rs : List Record) (b : Bool) → is_abort r.verdict ≡ b → times_written n (filter is_finished rs) ≡ times_written n rs
    → times_written n (filter is_finished (r ∷ rs)) ≡ times_written n (r ∷ rs)
finished_one n r rs true is k =
    let none = abort_writes_none n r.verdict is in
    ap (λ (b : Bool). times_written n (cond b (r ∷ filter is_finished rs) (filter is_finished rs))) (ap not is)
    ∙ omega (arith, none, k)
finished_one n r rs false is k =
    ap (λ (b : Bool). times_written n (cond b (r ∷ filter is_finished rs) (filter is_finished rs))) (ap not is)
    ∙ omega (arith, k)

pub times_finished : (n : ℕ) (rs : List Record) → times_written n (filter is_finished rs) ≡ times_written n rs
times_finished n [] = refl
times_finished n (r ∷ rs) = finished_one n r rs (is_abort r.verdict) refl (times_finished n rs)

pub times_ordered : (n : ℕ) (rs ordered : List Record) → IsPermutation (filter is_finished rs) ordered → times_written n ordered ≡ times_written n rs
times_ordered n rs ordered same =
    times_sum n ordered ∙ sum_by-IsPermutation (λ (r : Record). wrote_with n r.verdict) (filter is_finished rs) ordered same
    ∙ sym (times_sum n (filter is_finished rs)) ∙ times_finished n rs
