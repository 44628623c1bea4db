-- Places that are used round and round: n of them, and behind the last one the first.
use Rattle.std.specs.Prelude.{◌≡◌, ◌<◌, ◌≤◌, ◌+◌, ◌-◌, ℕ, suc, ℤ, pos, negsuc, nat_lt, nat_le, Bool, if◌then◌else◌, List}
use Rattle.std.specs.Ordering.{int_eq}
use Rattle.std.proofs.Common.{arith}
use Rattle.std.proofs.lemmas.Bool.Decides.{nat_tests}
use Rattle.sto_type.specs.Words.{word}

-- a number below 2 n, modulo n
abbrev pub wrapped : ℕ → ℕ → ℕ
wrapped n x = if nat_lt x n then x else x - n

-- the place behind place i
abbrev pub next : ℕ → ℕ → ℕ
next n i = wrapped n (suc i)

-- how far place i stands behind place h
abbrev pub offset : ℕ → ℕ → ℕ → ℕ
offset n h i = if nat_le h i then i - h else (i + n) - h

-- whether a place is live, by the words of its part, the first of which is then 1
abbrev pub is_live : List ℤ → Bool
is_live ws = int_eq (word ws 0) (pos 1)

-- the number that a word says
abbrev pub natural : ℤ → ℕ
natural (pos n) = n
natural (negsuc n) = 0

module _ (n : ℕ) where
  pub next_below : (i : ℕ) → i < n → next n i < n
  next_below i l = grind (arith, nat_tests)

  pub offset_below : (h i : ℕ) → h < n → i < n → offset n h i < n
  offset_below h i l m = grind (arith, nat_tests)

  pub wrapped_below : (h s : ℕ) → h < n → s ≤ n → wrapped n (h + s) < n
  wrapped_below h s l m = grind (arith, nat_tests)

  -- the place so far behind h
  pub offset_wrapped : (h s : ℕ) → h < n → s < n → offset n h (wrapped n (h + s)) ≡ s
  offset_wrapped h s l m = grind (arith, nat_tests)

  pub wrapped_offset : (h i : ℕ) → h < n → i < n → wrapped n (h + offset n h i) ≡ i
  wrapped_offset h i l m = grind (arith, nat_tests)

  -- one place further
  pub wrapped_next : (h s : ℕ) → h < n → s < n → next n (wrapped n (h + s)) ≡ wrapped n (h + suc s)
  wrapped_next h s l m = grind (arith, nat_tests)

  pub next_wrapped : (h s : ℕ) → h < n → s < n → wrapped n (next n h + s) ≡ wrapped n (h + suc s)
  next_wrapped h s l m = grind (arith, nat_tests)
