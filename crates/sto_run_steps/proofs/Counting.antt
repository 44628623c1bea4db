-- Attempts and events that are left become fewer.
use Rattle.std.proofs.Common.{◌≡◌, ℕ, zero, suc, ◌+◌, ◌-◌, ◌*◌, ◌<◌, ◌≤◌, ap, ◌∙◌, arith}
use Rattle.sto_transaction.specs.Bounds.{bound, round}
use Rattle.sto_run_steps.specs.Counts.{attempts_left}

-- a try of the next transaction was used up
pub fewer_tries : (tries left later n : ℕ) → 1 ≤ n → later + 1 ≡ left → attempts_left tries later n + 1 ≡ attempts_left tries left n
fewer_tries tries left later zero some used = absurd (omega (arith, some))
fewer_tries tries left later (suc n) some used = omega (arith, used)

-- the next transaction has ended
fewer : (tries left n : ℕ) → attempts_left tries tries n + left ≡ attempts_left tries left (suc n)
fewer tries left zero = let e : tries * 0 ≡ 0 = omega arith in omega (arith, e)
fewer tries left (suc n) = let e : tries * suc n ≡ tries + tries * n = omega arith in omega (arith, e)

pub fewer_transactions : (tries left count ended : ℕ) → ended < count → attempts_left tries tries (count - (ended + 1)) + left ≡ attempts_left tries left (count - ended)
fewer_transactions tries left count ended next =
    let e : suc (count - (ended + 1)) ≡ count - ended = omega (arith, next) in
    fewer tries left (count - (ended + 1)) ∙ ap (attempts_left tries left) e

-- a thread that is not over has an attempt left
pub some_left : (tries left count ended : ℕ) → ended < count → 1 ≤ left → 1 ≤ attempts_left tries left (count - ended)
some_left tries left count ended next again = let e = fewer_transactions tries left count ended next in omega (arith, e, again)

-- the events of all other attempts, where one has begun and one has ended
pub times_fewer : (a b most : ℕ) → a + 1 ≤ b → a * most ≤ (b - 1) * most
times_fewer a b most l =
    let e : b - 1 ≡ a + (b - 1 - a) = omega (arith, l) in
    let d : (b - 1) * most ≡ a * most + (b - 1 - a) * most = ap (λ (n : ℕ). n * most) e ∙ split a (b - 1 - a) most in omega (arith, d)
  where
    split : (a b c : ℕ) → (a + b) * c ≡ a * c + b * c
    split a b c = grind arith

pub one_fewer : (a most left : ℕ) → 1 ≤ a → left ≤ most → (a - 1) * suc most + left < a * suc most
one_fewer a most left some within =
    let e : a ≡ suc (a - 1) = omega (arith, some) in
    let d : a * suc most ≡ suc (a - 1) * suc most = ap (λ (n : ℕ). n * suc most) e in
    let f : suc (a - 1) * suc most ≡ suc most + (a - 1) * suc most = omega arith in omega (arith, d, f, within)

-- a bound for fewer calls is no higher
pub bound_more : (a b parts words : ℕ) → a ≤ b → bound a parts words ≤ bound b parts words
bound_more a b parts words l =
    let e : b ≡ a + (b - a) = omega (arith, l) in
    let d : bound b parts words ≡ bound a parts words + 2 * (b - a) * round parts words = ap (λ (n : ℕ). bound n parts words) e ∙ split a (b - a) (round parts words) in omega (arith, d)
  where
    split : (a c r : ℕ) → (2 * (a + c) + 3) * r ≡ (2 * a + 3) * r + 2 * c * r
    split a c r = grind arith

pub at_most : (a b c : ℕ) → a ≤ b → b ≤ c → a ≤ c
at_most a b c h k = omega (arith, h, k)
