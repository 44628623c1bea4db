-- Tickets of records, and how many are at most a number.
use Rattle.std.specs.Prelude.{nat_le, if◌then◌else◌}
use Rattle.std.specs.List.{sum_by}
use Rattle.std.specs.List.Sorted.{IsPermutation}
use Rattle.std.proofs.Common.{◌≡◌, ℕ, zero, suc, ◌+◌, ◌<◌, ◌≤◌, leb, false, List, [], ◌∷◌, ◌++◌, length, map, take, get_or, refl, sym, ap, ◌∙◌, arith, append_assoc, length-append}
use Rattle.std.proofs.lemmas.Bool.Decides.{nat_tests}
use Rattle.std.proofs.lemmas.List.Sums.{sum_by-cons}
use Rattle.std.proofs.lemmas.List.Sorted.{sum_by-IsPermutation}
use Rattle.sto_transaction.specs.Records.{wrote_within, writers_up_to}
use Rattle.sto_transaction.specs.declared.record.Record.{Record}
use Rattle.sto_attempt_log.specs.declared.verdict.Verdict.{Verdict}
use Rattle.sto_attempt_log.specs.declared.verdict.Verdict.TheVariants.{Wrote, Read, Cancelled, Locked, Changed}
use Rattle.sto_transaction.specs.Plain.{verdict, plain}
use Rattle.sto_run.specs.Tickets.{ticket_in, tickets_of, up_to}

pub tickets_more : (rs : List Record) (i : ℕ) (r : Record) → i < length rs → r ≡ get_or rs i r → tickets_of (take (i + 1) rs) ≡ tickets_of (take i rs) ++ ticket_in r.verdict
tickets_more [] i r l e = absurd (omega (arith, l))
tickets_more (x ∷ rs) zero r l e = append_none (ticket_in x.verdict) ∙ ap (λ (y : Record). ticket_in y.verdict) (sym e)
  where
    append_none : (ts : List ℕ) → ts ++ [] ≡ ts
    append_none [] = refl
    append_none (t ∷ ts) = ap (λ (l : List ℕ). t ∷ l) (append_none ts)
tickets_more (x ∷ rs) (suc i) r l e =
    let one : suc i + 1 ≡ suc (i + 1) = omega arith in
    ap (λ (k : ℕ). tickets_of (take k (x ∷ rs))) one
    ∙ ap (λ (ts : List ℕ). ticket_in x.verdict ++ ts) (tickets_more rs i r (omega (arith, l)) e)
    ∙ sym (append_assoc (ticket_in x.verdict) (tickets_of (take i rs)) (ticket_in r.verdict))

up_to_append : (n : ℕ) (xs ys : List ℕ) → up_to n (xs ++ ys) ≡ up_to n xs + up_to n ys
up_to_append n [] ys = omega arith
up_to_append n (x ∷ xs) ys = let k = up_to_append n xs ys in omega (arith, k)

-- as many tickets as writers
one_counted : (n : ℕ) (v : Verdict) → up_to n (ticket_in v) ≡ wrote_within n (verdict v)
one_counted n (Wrote t) = omega arith
one_counted n (Read a) = refl
one_counted n (Cancelled a) = refl
one_counted n (Locked a p) = refl
one_counted n (Changed a p t) = refl

pub tickets_counted : (n : ℕ) (rs : List Record) → up_to n (tickets_of rs) ≡ writers_up_to n (map plain rs)
tickets_counted n [] = refl
tickets_counted n (r ∷ rs) =
    let e = up_to_append n (ticket_in r.verdict) (tickets_of rs) in
    let one = one_counted n r.verdict in let k = tickets_counted n rs in omega (arith, e, one, k)

-- another order has as many
abbrev at_most : ℕ → ℕ → ℕ
at_most n t = if nat_le t n then 1 else 0

up_to_sum : (n : ℕ) (ts : List ℕ) → up_to n ts ≡ sum_by (at_most n) ts
up_to_sum n [] = refl
up_to_sum n (t ∷ ts) = let e = sum_by-cons (at_most n) t ts in let k = up_to_sum n ts in omega (arith, e, k)

pub up_to_ordered : (n : ℕ) (xs ys : List ℕ) → IsPermutation xs ys → up_to n ys ≡ up_to n xs
up_to_ordered n xs ys h = up_to_sum n ys ∙ sum_by-IsPermutation (at_most n) xs ys h ∙ sym (up_to_sum n xs)

-- where those at most n stand first, they are as many as stand before the others
within_one : (n t : ℕ) → t ≤ n → at_most n t ≡ 1
within_one n t l = grind (arith, nat_tests)

above_none : (n t : ℕ) → n < t → at_most n t ≡ 0
above_none n t l = grind (arith, nat_tests)

pub parted_count : (n k : ℕ) (ts : List ℕ) → k ≤ length ts → ((i d : ℕ) → i < k → get_or ts i d ≤ n) → ((i d : ℕ) → k ≤ i → i < length ts → n < get_or ts i d) → up_to n ts ≡ k
parted_count n k [] l low high = omega (arith, l)
parted_count n zero (t ∷ ts) l low high =
    let here = above_none n t (high 0 0 (omega arith) (omega arith)) in
    let rest = parted_count n 0 ts (omega arith) (λ i d u. absurd (omega (arith, u))) (λ i d a b. high (suc i) d (omega arith) (omega (arith, b))) in
    omega (arith, here, rest)
parted_count n (suc k) (t ∷ ts) l low high =
    let here = within_one n t (low 0 0 (omega arith)) in
    let rest = parted_count n k ts (omega (arith, l)) (λ i d u. low (suc i) d (omega (arith, u))) (λ i d a b. high (suc i) d (omega (arith, a)) (omega (arith, b))) in
    omega (arith, here, rest)

pub above_by : (t n : ℕ) → leb t n ≡ false → n < t
above_by t n e = grind (arith, nat_tests)

pub no_ticket : (v : Verdict) → ((x : ℕ) → v ≡ Wrote x → ⊥) → ticket_in v ≡ []
no_ticket (Wrote t) h = absurd (h t refl)
no_ticket (Read a) h = refl
no_ticket (Cancelled a) h = refl
no_ticket (Locked a p) h = refl
no_ticket (Changed a p t) h = refl

one_ticket : (v : Verdict) → length (ticket_in v) ≤ 1
one_ticket (Wrote t) = omega arith
one_ticket (Read a) = omega arith
one_ticket (Cancelled a) = omega arith
one_ticket (Locked a p) = omega arith
one_ticket (Changed a p t) = omega arith

-- no more tickets than records
pub few_tickets : (rs : List Record) → length (tickets_of rs) ≤ length rs
few_tickets [] = omega arith
few_tickets (r ∷ rs) =
    let e = length-append (ticket_in r.verdict) (tickets_of rs) in let one = one_ticket r.verdict in let k = few_tickets rs in omega (arith, e, one, k)
