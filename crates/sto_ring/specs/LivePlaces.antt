-- Which places of a ring are live: the ones from the head on, as many as there are values.
use Rattle.std.specs.Prelude.{◌≡◌, ◌<◌, ◌≤◌, ◌+◌, ℕ, suc, nat_lt, nat_eq, not, Bool, true, false, if◌then◌else◌}
use Rattle.std.proofs.Common.{arith}
use Rattle.std.proofs.lemmas.Bool.Decides.{nat_tests}
use Rattle.sto_container.specs.Places.{wrapped, next, offset}

-- the size, by head, tail and whether the place of the head is live
abbrev pub size_by : ℕ → ℕ → ℕ → Bool → ℕ
size_by n h t live = if nat_eq h t then (if live then n else 0) else offset n h t

module _ (n : ℕ) where
  -- the size is known by both ends and whether the place of the head is live
  pub size_known : (h s : ℕ) → h < n → s ≤ n → size_by n h (wrapped n (h + s)) (nat_lt 0 s) ≡ s
  size_known h s l m = grind (arith, nat_tests)

  -- the place of the tail is live exactly where there is no room
  pub tail_live : (h s : ℕ) → h < n → s ≤ n → nat_lt (offset n h (wrapped n (h + s))) s ≡ not (nat_lt s n)
  tail_live h s l m = grind (arith, nat_tests)

  pub head_live : (h s : ℕ) → nat_lt (offset n h h) s ≡ nat_lt 0 s
  head_live h s = grind (arith, nat_tests)

  -- places at other distances are others
  pub wrapped_apart : (h j s : ℕ) → h < n → j < s → s < n → wrapped n (h + j) ≡ wrapped n (h + s) → ⊥
  wrapped_apart h j s l m b e = grind (arith, nat_tests)

  -- the ends name one place only where there is no value or no room
  pub ends_apart : (h s : ℕ) → h < n → 0 < s → s < n → wrapped n (h + s) ≡ h → ⊥
  ends_apart h s l some room e = grind (arith, nat_tests)

  -- one place more at the tail, and one less at the head
  pub more_live : (h s i : ℕ) → h < n → s < n → i < n → (i ≡ wrapped n (h + s) → ⊥) → nat_lt (offset n h i) (suc s) ≡ nat_lt (offset n h i) s
  more_live h s i l m b other = grind (arith, nat_tests)

  pub new_live : (h s : ℕ) → h < n → s < n → nat_lt (offset n h (wrapped n (h + s))) (suc s) ≡ true
  new_live h s l m = grind (arith, nat_tests)

  pub less_live : (h r i : ℕ) → h < n → r < n → i < n → (i ≡ h → ⊥) → nat_lt (offset n (next n h) i) r ≡ nat_lt (offset n h i) (suc r)
  less_live h r i l m b other = grind (arith, nat_tests)

  pub old_live : (h r : ℕ) → h < n → r < n → nat_lt (offset n (next n h) h) r ≡ false
  old_live h r l m = grind (arith, nat_tests)
