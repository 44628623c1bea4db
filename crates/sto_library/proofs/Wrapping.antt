-- Sums and differences that no word is too short for.
use Rattle.std.specs.Int.{w64}
use Rattle.std.proofs.Common.{◌≡◌, ℤ, pos, ◌+ℤ◌, ◌-ℤ◌, ◌≤ℤ◌, arith}
use Rattle.std.proofs.lemmas.Int.{ints, int_wrap_fits}
use Rattle.sto_part.specs.Changes.{wrapped_sum, wrapped_difference}

pub sum_fits : (x y : ℤ) → pos 0 ≤ℤ x → pos 0 ≤ℤ y → (x +ℤ y) ≤ℤ pos 9223372036854775807 → wrapped_sum x y ≡ x +ℤ y
sum_fits x y a b few = int_wrap_fits w64 (x +ℤ y) (record { sfits = grind (arith, ints) })

pub difference_fits : (x y : ℤ) → pos 0 ≤ℤ y → y ≤ℤ x → x ≤ℤ pos 9223372036854775807 → wrapped_difference x y ≡ x -ℤ y
difference_fits x y a b few = int_wrap_fits w64 (x -ℤ y) (record { sfits = grind (arith, ints) })

-- an amount that is there goes from one value to another
pub record AreMoved (x y n : ℤ) : Type 0 where
  pub some_x : pos 0 ≤ℤ wrapped_difference x n
  pub some_y : pos 0 ≤ℤ wrapped_sum y n
  pub sum : wrapped_difference x n +ℤ wrapped_sum y n ≡ x +ℤ y

pub moved : (x y n : ℤ) → pos 0 ≤ℤ n → n ≤ℤ x → pos 0 ≤ℤ y → (x +ℤ y) ≤ℤ pos 9223372036854775807 → AreMoved x y n
moved x y n some there some_y few =
    let less = difference_fits x n some there (grind (arith, ints, few, some_y)) in
    let more = sum_fits y n some_y some (grind (arith, ints, few, there)) in
    record { some_x = grind (arith, ints, less, there); some_y = grind (arith, ints, more, some_y, some); sum = grind (arith, ints, less, more) }
