-- Numbers of orders that are added up.
use Rattle.std.proofs.Common.{◌≡◌, ℕ, ◌+◌, ◌^◌, ◌<◌, ◌≤◌, List, take, get_or, length, sum_by, sym, ap, ◌∙◌, Bool, true, false, cond, nat_lt, Option, None, Some, arith, inl, inr}
use Rattle.std.proofs.lemmas.Bool.{cases_order}
use Rattle.std.proofs.lemmas.Bool.Decides.{nat_tests}
use Rattle.std.proofs.lemmas.List.Sums.{sum_by_more}
use Rattle.sto_run_orders.specs.declared.report.OrderReport.{OrderReport}
use Rattle.sto_run_orders.specs.Texts.{orders_at_least, told_below, all_orders}

pub below : (n m : ℕ) → n < m → told_below m n ≡ Some n
below n m l = ap (λ (b : Bool). cond b (Some n) None) (less n m l)
  where
    less : (n m : ℕ) → n < m → nat_lt n m ≡ true
    less n m l = grind (arith, nat_tests)

pub above : (n m : ℕ) → m ≤ n → told_below m n ≡ None
above n m l = ap (λ (b : Bool). cond b (Some n) None) (not_less n m l)
  where
    not_less : (n m : ℕ) → m ≤ n → nat_lt n m ≡ false
    not_less n m l = grind (arith, nat_tests)

capped : (n x : ℕ) → told_below (2 ^ 64) (orders_at_least (told_below (2 ^ 64) n) + x) ≡ told_below (2 ^ 64) (n + x)
capped n x = elim (cases_order n (2 ^ 64)) [
  | inl same ↦ many (omega (arith, same))
  | inr (inl less) ↦ ap (λ (o : Option ℕ). told_below (2 ^ 64) (orders_at_least o + x)) (below n (2 ^ 64) less)
  | inr (inr more) ↦ many (omega (arith, more))
]
  where
    many : 2 ^ 64 ≤ n → told_below (2 ^ 64) (orders_at_least (told_below (2 ^ 64) n) + x) ≡ told_below (2 ^ 64) (n + x)
    many l =
        ap (λ (o : Option ℕ). told_below (2 ^ 64) (orders_at_least o + x)) (above n (2 ^ 64) l)
        ∙ above (2 ^ 64 + x) (2 ^ 64) (omega arith)
        ∙ sym (above (n + x) (2 ^ 64) (omega (arith, l)))

-- one outcome more
pub orders_more : (reports : List OrderReport) (i : ℕ) (r : OrderReport) (old new : Option ℕ) → i < length reports → r ≡ get_or reports i r → old ≡ all_orders (take i reports)
    → new ≡ told_below (2 ^ 64) (orders_at_least old + orders_at_least r.orders) → new ≡ all_orders (take (i + 1) reports)
orders_more reports i r old new within is so_far more =
    let count : OrderReport → ℕ = λ x. orders_at_least x.orders in
    more
    ∙ ap (λ (o : Option ℕ). told_below (2 ^ 64) (orders_at_least o + count r)) so_far
    ∙ capped (sum_by count (take i reports)) (count r)
    ∙ ap (told_below (2 ^ 64)) (sym (sum_by_more count reports i r within ∙ ap (λ (x : OrderReport). sum_by count (take i reports) + count x) (sym is)))
