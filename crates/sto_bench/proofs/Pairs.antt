-- A pair more among rows that do not have its key.
use Rattle.std.specs.Prelude.{int_lt, if◌then◌else◌}
use Rattle.std.specs.Ordering.{int_eq}
use Rattle.std.proofs.Common.{◌≡◌, ℕ, ◌+◌, ℤ, List, [], ◌∷◌, length, refl, arith, Bool, true, false, cond}
use Rattle.std.proofs.lemmas.List.Recursion.{is_count_by}
use Rattle.sto_model.specs.Objects.{put_effect}
use Rattle.sto_model.specs.Rows.{Row, with_row, has_key, keys_beside, bucket_of}
use Rattle.sto_bench.proofs.Orders.{tally}

-- no row has the key
abbrev pub IsAbsent : ℤ → List Row → Type 0
IsAbsent k [] = Unit {0}
IsAbsent k (r ∷ rows) = (int_eq r.0 k ≡ false) × IsAbsent k rows

absent_key : (k : ℤ) (rows : List Row) → IsAbsent k rows → has_key rows k ≡ false
absent_key k [] h = refl
absent_key k (r ∷ rows) h = rw h.0 (absent_key k rows h.1)

-- where there is room, a put of it adds it
pub put_there : (k v : ℤ) (rows : List Row) (full : Bool) → IsAbsent k rows → full ≡ false → (put_effect full k v rows).after ≡ with_row rows k v
put_there k v rows full h room = rw (absent_key k rows h, room) refl

-- other keys stay absent
pub absent_still : (k v other : ℤ) (rows : List Row) → int_eq k other ≡ false → IsAbsent other rows → IsAbsent other (with_row rows k v)
absent_still k v other [] apart h = (apart, tt)
absent_still k v other (r ∷ rows) apart h = by (int_lt r.0 k) (int_eq r.0 k) (absent_still k v other rows apart h.1)
  where
    by : (b c : Bool) → IsAbsent other (with_row rows k v) → IsAbsent other (if b then r ∷ with_row rows k v else if c then (k, v) ∷ rows else (k, v) ∷ r ∷ rows)
    by true c rest = (h.0, rest)
    by false true rest = (apart, h.1)
    by false false rest = (apart, h)

-- one more of the rows that pass a test, where the new one does
pub tally_more : (test : Row → Bool) (k v : ℤ) (rows : List Row) → IsAbsent k rows → tally test (with_row rows k v) ≡ cond (test (k, v)) 1 0 + tally test rows
tally_more test k v [] h = refl
tally_more test k v (r ∷ rows) h = rw h.0 (by (int_lt r.0 k) (tally_more test k v rows h.1))
  where
    by : (b : Bool) → tally test (with_row rows k v) ≡ cond (test (k, v)) 1 0 + tally test rows → tally test (if b then r ∷ with_row rows k v else (k, v) ∷ r ∷ rows) ≡ cond (test (k, v)) 1 0 + (cond (test r) 1 0 + tally test rows)
    by true rest = omega (arith, rest)
    by false rest = refl

pub all_tally : (rows : List Row) → length rows ≡ tally (λ (r : Row). true) rows
all_tally [] = refl
all_tally (r ∷ rows) = let rest = all_tally rows in omega (arith, rest)

pub length_more : (k v : ℤ) (rows : List Row) → IsAbsent k rows → length (with_row rows k v) ≡ 1 + length rows
length_more k v rows h =
    let more = tally_more (λ (r : Row). true) k v rows h in omega (arith, more, all_tally (with_row rows k v), all_tally rows)

-- the keys in a bucket of sixteen
abbrev pub in_bucket : ℤ → Row → Bool
in_bucket bucket r = int_eq (bucket_of 16 r.0) bucket

pub beside_is : (k : ℤ) (rows : List Row) → tally (in_bucket (bucket_of 16 k)) rows ≡ keys_beside rows 16 k
beside_is k rows =
    is_count_by (tally (in_bucket (bucket_of 16 k))) (in_bucket (bucket_of 16 k)) refl
    (λ r more. one_more (in_bucket (bucket_of 16 k) r) (tally (in_bucket (bucket_of 16 k)) more)) rows
  where
    one_more : (b : Bool) (n : ℕ) → cond b 1 0 + n ≡ cond b (1 + n) n
    one_more true n = refl
    one_more false n = omega arith
