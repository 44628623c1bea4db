-- To set the lock bit keeps the ticket.
use Rattle.std.proofs.Common.{◌≡◌, ◌<◌, ◌+◌, ◌*◌, ◌/◌, ◌%◌, ℕ, zero, suc, refl, subst, arith, bit_or}
use Rattle.std.proofs.lemmas.Nat.{or_block}
use Rattle.std.specs.Int.Bits.{or_zero_r}

low_or : (r : ℕ) → r < 2 → bit_or r 1 ≡ 1
low_or zero small = refl
low_or (suc zero) small = refl
low_or (suc (suc r)) small = absurd (omega arith)

pub or_one : (n : ℕ) → bit_or n 1 ≡ 2 * (n / 2) + 1
or_one n =
    let whole : n / 2 * 2 + n % 2 ≡ n = omega arith in
    let split = or_block 1 (n / 2) 0 (n % 2) 1 (omega arith) (omega arith) in
    let high = or_zero_r (n / 2) in
    let low = low_or (n % 2) (omega arith) in
    let sum : bit_or (n / 2 * 2 + n % 2) 1 ≡ 2 * (n / 2) + 1 = omega (arith, split, high, low) in
    subst (λ (m : ℕ). bit_or m 1 ≡ 2 * (n / 2) + 1) whole sum
