-- The rows of a hash table as a map.
use Rattle.std.specs.Prelude.{◌≡◌, ◌<◌, ◌≤◌, ◌+◌, ◌⊎◌, ℕ, zero, suc, ℤ, pos, negsuc, int_lt, Bool, true, false, if◌then◌else◌, Option, Some, None, List, [], ◌∷◌, ◌++◌, length, refl}
use Rattle.std.specs.Option.{option_map}
use Rattle.std.specs.Ordering.{int_eq}
use Rattle.std.proofs.Common.{ap, sym, ◌∙◌, arith, subst, inl, inr, cond, count_by, length-append}
use Rattle.std.proofs.lemmas.Bool.{cases_lt}
use Rattle.std.proofs.lemmas.List.Sums.{sum_by-cons}
use Rattle.sto_part.specs.Parts.{part_of}
use Rattle.sto_item.specs.Agreement.{word_of}
use Rattle.sto_model.specs.Rows.{Row, IsRising, value_at, with_row, bucket_of, keys_beside}
use Rattle.sto_model.proofs.RowFacts.{by_test, same_of, equal_of, not_equal_of, IsRising-with_row, with_row-below, with_row-above}
use Rattle.sto_model.proofs.Maps.{value_at-with_row_same, value_at-with_row_other}
use Rattle.sto_type.specs.Known.{Parts}
use Rattle.sto_block.specs.Blocks.{Place, places_of, is_present, is_here, first_from, find, IsNowhere, AreApart}
use Rattle.sto_hash.specs.Hashed.{place_pairs, block_pairs, pairs_from, rows_of, AreOfBucket, IsBucket, bucket_part, bucket_number}

-- the rows rise
pub rows_rise : (rs : List Row) → IsRising (rows_of rs)
rows_rise [] = tt
rows_rise (r ∷ rs) = IsRising-with_row (rows_of rs) r.0 r.1 (rows_rise rs)

-- the value at a key: that of the first pair with it
abbrev first_pair : List Row → ℤ → Option ℤ
first_pair [] k = None
first_pair (r ∷ rs) k = if int_eq r.0 k then Some r.1 else first_pair rs k

pub value_of_rows : (rs : List Row) (k : ℤ) → value_at (rows_of rs) k ≡ first_pair rs k
value_of_rows [] k = refl
value_of_rows (r ∷ rs) k =
    by_test (int_eq r.0 k)
    (λ e.
    let same : r.0 ≡ k = same_of r.0 k e in
    subst (λ q. value_at (with_row (rows_of rs) q r.1) k ≡ Some r.1) (sym same) (value_at-with_row_same (rows_of rs) k r.1) ∙ sym (rw e refl))
    (λ e.
    let other : r.0 ≡ k → ⊥ = λ q. let z : true ≡ false = sym (equal_of r.0 k q) ∙ e in cc in
    value_at-with_row_other (rows_of rs) r.0 r.1 k other ∙ value_of_rows rs k ∙ sym (rw e refl))

-- the first of two lists that has the key
abbrev first_of : Option ℤ → Option ℤ → Option ℤ
first_of (Some x) o = Some x
first_of None o = o

first_of_none : (o : Option ℤ) → first_of o None ≡ o
first_of_none (Some x) = refl
first_of_none None = refl

first_pair-append : (xs ys : List Row) (k : ℤ) → first_pair (xs ++ ys) k ≡ first_of (first_pair xs k) (first_pair ys k)
first_pair-append [] ys k = refl
first_pair-append (x ∷ xs) ys k = by_test (int_eq x.0 k) (λ e. rw e refl) (λ e. rw e (first_pair-append xs ys k))

-- in one block: the value of the place that is found, of which the first place has the number i
abbrev pub value_found : Parts → ℕ → Option ℕ → Option ℤ
value_found c p o = option_map (λ i. word_of c (p + i) 0) o

in_block : (c : Parts) (p i : ℕ) (ss : List Place) (k : ℤ) → first_pair (place_pairs c (p + i) ss) k ≡ value_found c p (first_from i (is_here k) ss)
in_block c p i [] k = refl
in_block c p i (s ∷ ss) k =
    let n : suc (p + i) ≡ p + suc i = omega arith in
    let rest : first_pair (place_pairs c (suc (p + i)) ss) k ≡ value_found c p (first_from (suc i) (is_here k) ss) = ap (λ q. first_pair (place_pairs c q ss) k) n ∙ in_block c p (suc i) ss k in
    by_test (is_present s)
    (λ e. by_test (int_eq s.1 k)
    (λ f. rw (e, f) refl)
    (λ f. rw (e, f) rest))
    (λ e. rw e rest)

pub value_of_block : (c : Parts) (p : ℕ) (k : ℤ) → first_pair (block_pairs c p) k ≡ value_found c (p + 1) (find (part_of c p) k)
value_of_block c p k = let z : p + 1 ≡ p + 1 + 0 = omega arith in ap (λ q. first_pair (place_pairs c q (places_of (part_of c p))) k) z ∙ in_block c (p + 1) 0 (places_of (part_of c p)) k

-- no key of another bucket stands in a bucket
none_here : (buckets b i : ℕ) (k : ℤ) (ss : List Place) → AreOfBucket buckets b ss → (bucket_of buckets k ≡ pos b → ⊥) → first_from i (is_here k) ss ≡ None
none_here buckets b i k [] h n = refl
none_here buckets b i k (s ∷ ss) h n =
    by_test (is_present s)
    (λ e. by_test (int_eq s.1 k)
    (λ f. absurd (n (ap (bucket_of buckets) (sym (same_of s.1 k f)) ∙ h.0 e)))
    (λ f. rw (e, f) (none_here buckets b (suc i) k ss h.1 n)))
    (λ e. rw e (none_here buckets b (suc i) k ss h.1 n))

-- the value at a key of the bucket b0 stands in that bucket
module _ (buckets places : ℕ) (c : Parts) (k : ℤ) (b0 : ℕ) (own : bucket_of buckets k ≡ pos b0) where
  not_there :
      (b n : ℕ) → ((x : ℕ) → x < b + n → IsBucket buckets x (places_of (part_of c (bucket_part places x)))) → ((x : ℕ) → b ≤ x → x < b + n → b0 ≡ x → ⊥)
      → first_pair (pairs_from places c b n) k ≡ None
  not_there b zero v other = refl
  not_there b (suc n) v other =
      let e : b + suc n ≡ suc b + n = omega arith in
      let here : first_pair (block_pairs c (bucket_part places b)) k ≡ None =
      value_of_block c (bucket_part places b) k
      ∙ ap (value_found c (bucket_part places b + 1))
      (none_here buckets b 0 k (places_of (part_of c (bucket_part places b))) (v b (omega arith)).own (λ q. other b (omega arith) (omega arith) (same_pos b0 b (sym own ∙ q)))) in
      first_pair-append (block_pairs c (bucket_part places b)) (pairs_from places c (suc b) n) k ∙ ap (λ o. first_of o (first_pair (pairs_from places c (suc b) n) k)) here
      ∙ not_there (suc b) n (λ x l. v x (omega (arith, l))) (λ x l m. other x (omega (arith, l)) (omega (arith, m)))
    where
      same_pos : (x y : ℕ) → pos x ≡ pos y → x ≡ y
      same_pos x y e = cc

  there :
      (b n : ℕ) → b ≤ b0 → b0 < b + n → ((x : ℕ) → x < b + n → IsBucket buckets x (places_of (part_of c (bucket_part places x))))
      → first_pair (pairs_from places c b n) k ≡ value_found c (bucket_part places b0 + 1) (find (part_of c (bucket_part places b0)) k)
  there b zero l m v = absurd (omega (arith, l, m))
  there b (suc n) l m v =
      let e : b + suc n ≡ suc b + n = omega arith in
      let tail : List Row = pairs_from places c (suc b) n in
      let found : ℕ → Option ℤ = λ x. value_found c (bucket_part places x + 1) (find (part_of c (bucket_part places x)) k) in
      let own_of : (x : ℕ) → x < suc b + n → IsBucket buckets x (places_of (part_of c (bucket_part places x))) = λ x q. v x (omega (arith, q)) in
      first_pair-append (block_pairs c (bucket_part places b)) tail k
      ∙ elim (split b b0 l) [
        | inl same ↦
            let none : first_pair tail k ≡ None = not_there (suc b) n own_of (λ x q r z. apart b b0 x same q z) in
            ap (λ o. first_of (first_pair (block_pairs c (bucket_part places b)) k) o) none ∙ first_of_none (first_pair (block_pairs c (bucket_part places b)) k) ∙ value_of_block c (bucket_part places b) k ∙ ap found same
        | inr below ↦
            let none : first_pair (block_pairs c (bucket_part places b)) k ≡ None =
            value_of_block c (bucket_part places b) k
            ∙ ap (value_found c (bucket_part places b + 1)) (none_here buckets b 0 k (places_of (part_of c (bucket_part places b))) (v b (omega arith)).own (λ q. differ b b0 below (same_pos b0 b (sym own ∙ q)))) in
            ap (λ o. first_of o (first_pair tail k)) none ∙ there (suc b) n (omega (arith, below)) (omega (arith, m)) own_of
      ]
    where
      same_pos : (x y : ℕ) → pos x ≡ pos y → x ≡ y
      same_pos x y e = cc

      apart : (b b0 x : ℕ) → b ≡ b0 → suc b ≤ x → b0 ≡ x → ⊥
      apart b b0 x e l z = absurd (omega (arith, e, l, z))

      differ : (b b0 : ℕ) → b < b0 → b0 ≡ b → ⊥
      differ b b0 l z = absurd (omega (arith, l, z))

      split : (b b0 : ℕ) → b ≤ b0 → (b ≡ b0) ⊎ (b < b0)
      split b b0 l = elim (cases_lt b b0) [ inl q ↦ inr q | inr q ↦ inl (omega (arith, l, q)) ]

-- the bucket of a key
pub bucket_is : (buckets : ℕ) (k : ℤ) → bucket_of buckets k ≡ pos (bucket_number buckets k)
bucket_is buckets (pos a) = refl
bucket_is buckets (negsuc a) = refl

-- counts of rows
counted : (f : Row → Bool) (s : Row) (xs : List Row) → count_by f (s ∷ xs) ≡ cond (f s) 1 0 + count_by f xs
counted f s xs = sum_by-cons (λ x. cond (f x) 1 0) s xs

new_head : (s : Row) (xs : List Row) (k : ℤ) → value_at (s ∷ xs) k ≡ None → (int_eq s.0 k ≡ false) × (value_at xs k ≡ None)
new_head s xs k e =
    by_test (int_eq s.0 k)
    (λ t. let z : Some s.1 ≡ None = sym (rw t refl) ∙ e in cc)
    (λ t. (t, sym (rw t refl) ∙ e))

pub count_with : (f : Row → Bool) (xs : List Row) (k v : ℤ) → value_at xs k ≡ None → count_by f (with_row xs k v) ≡ cond (f (k, v)) 1 0 + count_by f xs
count_with f [] k v e = counted f (k, v) []
count_with f (s ∷ xs) k v e =
    let h : (int_eq s.0 k ≡ false) × (value_at xs k ≡ None) = new_head s xs k e in
    by_test (int_lt s.0 k)
    (λ t.
    let a : count_by f (with_row (s ∷ xs) k v) ≡ cond (f s) 1 0 + count_by f (with_row xs k v) = ap (count_by f) (with_row-below s xs k v t) ∙ counted f s (with_row xs k v) in
    omega (arith, a, count_with f xs k v h.1, counted f s xs))
    (λ t. ap (count_by f) (with_row-above s xs k v t h.0) ∙ counted f (k, v) (s ∷ xs))

-- no two pairs have one key
abbrev AllNew : List Row → Type 0
AllNew [] = Unit {0}
AllNew (r ∷ rs) = (first_pair rs r.0 ≡ None) × AllNew rs

pub count_rows : (f : Row → Bool) (rs : List Row) → AllNew rs → count_by f (rows_of rs) ≡ count_by f rs
count_rows f [] h = refl
count_rows f (r ∷ rs) h =
    let new : value_at (rows_of rs) r.0 ≡ None = value_of_rows rs r.0 ∙ h.0 in
    count_with f (rows_of rs) r.0 r.1 new ∙ ap (λ n. cond (f r) 1 0 + n) (count_rows f rs h.1) ∙ sym (counted f r rs)

count_append : (f : Row → Bool) (xs ys : List Row) → count_by f (xs ++ ys) ≡ count_by f xs + count_by f ys
count_append f [] ys = omega arith
count_append f (x ∷ xs) ys = omega (arith, counted f x (xs ++ ys), counted f x xs, count_append f xs ys)

-- no key of one list stands in another
abbrev AllAbsent : List Row → List Row → Type 0
AllAbsent [] ys = Unit {0}
AllAbsent (x ∷ xs) ys = (first_pair ys x.0 ≡ None) × AllAbsent xs ys

new_append : (xs ys : List Row) → AllNew xs → AllNew ys → AllAbsent xs ys → AllNew (xs ++ ys)
new_append [] ys h k a = k
new_append (x ∷ xs) ys h k a = (first_pair-append xs ys x.0 ∙ (λ i. first_of (h.0 i) (a.0 i)), new_append xs ys h.1 k a.1)

nowhere_pair : (c : Parts) (q : ℕ) (k : ℤ) (ss : List Place) → IsNowhere k ss → first_pair (place_pairs c q ss) k ≡ None
nowhere_pair c q k [] h = refl
nowhere_pair c q k (s ∷ ss) h =
    by_test (is_present s)
    (λ e.
    let f : int_eq s.1 k ≡ false = sym (rw e refl) ∙ h.0 in
    rw (e, f) (nowhere_pair c (suc q) k ss h.1))
    (λ e. rw e (nowhere_pair c (suc q) k ss h.1))

not_zero : {P : Type 0} (s : Place) → is_present s ≡ true → s.0 ≡ pos 0 → P
not_zero s e z = let p : s.0 ≡ pos 1 = same_of s.0 (pos 1) e in let bad : pos 0 ≡ pos 1 = sym z ∙ p in cc

block_new : (c : Parts) (q : ℕ) (ss : List Place) → AreApart ss → AllNew (place_pairs c q ss)
block_new c q [] h = tt
block_new c q (s ∷ ss) h =
    by_test (is_present s)
    (λ e. rw e (elim h.0 [ inl z ↦ not_zero s e z | inr z ↦ (nowhere_pair c (suc q) s.1 ss z.1, block_new c (suc q) ss h.1) ]))
    (λ e. rw e (block_new c (suc q) ss h.1))

block_absent : (buckets b : ℕ) (c : Parts) (q : ℕ) (ss : List Place) (ys : List Row) → AreOfBucket buckets b ss → ((k : ℤ) → bucket_of buckets k ≡ pos b → first_pair ys k ≡ None) → AllAbsent (place_pairs c q ss) ys
block_absent buckets b c q [] ys h all = tt
block_absent buckets b c q (s ∷ ss) ys h all =
    by_test (is_present s)
    (λ e. rw e (all s.1 (h.0 e), block_absent buckets b c (suc q) ss ys h.1 all))
    (λ e. rw e (block_absent buckets b c (suc q) ss ys h.1 all))

-- which rows are counted beside a key
abbrev beside : ℕ → ℤ → Row → Bool
beside buckets k r = int_eq (bucket_of buckets r.0) (bucket_of buckets k)

count_same : (buckets b : ℕ) (k : ℤ) (c : Parts) (q : ℕ) (ss : List Place) → AreOfBucket buckets b ss → bucket_of buckets k ≡ pos b → count_by (beside buckets k) (place_pairs c q ss) ≡ count_by is_present ss
count_same buckets b k c q [] h e = refl
count_same buckets b k c q (s ∷ ss) h e =
    by_test (is_present s)
    (λ t.
    let one : beside buckets k (s.1, word_of c q 0) ≡ true = equal_of (bucket_of buckets s.1) (bucket_of buckets k) (h.0 t ∙ sym e) in
    let a : count_by (beside buckets k) (place_pairs c q (s ∷ ss)) ≡ count_by (beside buckets k) ((s.1, word_of c q 0) ∷ place_pairs c (suc q) ss) = ap (λ z. count_by (beside buckets k) (if z then (s.1, word_of c q 0) ∷ place_pairs c (suc q) ss else place_pairs c (suc q) ss)) t in
    a ∙ counted (beside buckets k) (s.1, word_of c q 0) (place_pairs c (suc q) ss) ∙ (λ i. cond (one i) 1 0 + count_same buckets b k c (suc q) ss h.1 e i) ∙ sym (ap (λ z. cond z 1 0 + count_by is_present ss) t) ∙ sym (sum_by-cons (λ x. cond (is_present x) 1 0) s ss))
    (λ t.
    let a : count_by (beside buckets k) (place_pairs c q (s ∷ ss)) ≡ count_by (beside buckets k) (place_pairs c (suc q) ss) = ap (λ z. count_by (beside buckets k) (if z then (s.1, word_of c q 0) ∷ place_pairs c (suc q) ss else place_pairs c (suc q) ss)) t in
    let z : 0 + count_by is_present ss ≡ count_by is_present ss = omega arith in
    a ∙ count_same buckets b k c (suc q) ss h.1 e ∙ sym z ∙ sym (ap (λ y. cond y 1 0 + count_by is_present ss) t) ∙ sym (sum_by-cons (λ x. cond (is_present x) 1 0) s ss))

count_other : (buckets b : ℕ) (k : ℤ) (c : Parts) (q : ℕ) (ss : List Place) → AreOfBucket buckets b ss → (pos b ≡ bucket_of buckets k → ⊥) → count_by (beside buckets k) (place_pairs c q ss) ≡ 0
count_other buckets b k c q [] h n = refl
count_other buckets b k c q (s ∷ ss) h n =
    by_test (is_present s)
    (λ t.
    let none : beside buckets k (s.1, word_of c q 0) ≡ false = not_equal_of (bucket_of buckets s.1) (bucket_of buckets k) (λ e. n (sym (h.0 t) ∙ e)) in
    let a : count_by (beside buckets k) (place_pairs c q (s ∷ ss)) ≡ count_by (beside buckets k) ((s.1, word_of c q 0) ∷ place_pairs c (suc q) ss) = ap (λ z. count_by (beside buckets k) (if z then (s.1, word_of c q 0) ∷ place_pairs c (suc q) ss else place_pairs c (suc q) ss)) t in
    let d : cond {A = ℕ} (beside buckets k (s.1, word_of c q 0)) 1 0 ≡ 0 = ap (λ z. cond z 1 0) none in
    omega (arith, a, counted (beside buckets k) (s.1, word_of c q 0) (place_pairs c (suc q) ss), d, count_other buckets b k c (suc q) ss h.1 n))
    (λ t. ap (λ z. count_by (beside buckets k) (if z then (s.1, word_of c q 0) ∷ place_pairs c (suc q) ss else place_pairs c (suc q) ss)) t ∙ count_other buckets b k c (suc q) ss h.1 n)

-- how many places are present in n buckets from b on
abbrev pub present_total : ℕ → Parts → ℕ → ℕ → ℕ
present_total places c b zero = 0
present_total places c b (suc n) = count_by is_present (places_of (part_of c (bucket_part places b))) + present_total places c (suc b) n

count_block : (c : Parts) (q : ℕ) (ss : List Place) → length (place_pairs c q ss) ≡ count_by is_present ss
count_block c q [] = refl
count_block c q (s ∷ ss) =
    by_test (is_present s)
    (λ t.
    let a : length (place_pairs c q (s ∷ ss)) ≡ suc (length (place_pairs c (suc q) ss)) = ap (λ z. length (if z then (s.1, word_of c q 0) ∷ place_pairs c (suc q) ss else place_pairs c (suc q) ss)) t in
    let d : cond {A = ℕ} (is_present s) 1 0 ≡ 1 = ap (λ z. cond z 1 0) t in
    omega (arith, a, d, sum_by-cons (λ x. cond (is_present x) 1 0) s ss, count_block c (suc q) ss))
    (λ t.
    let a : length (place_pairs c q (s ∷ ss)) ≡ length (place_pairs c (suc q) ss) = ap (λ z. length (if z then (s.1, word_of c q 0) ∷ place_pairs c (suc q) ss else place_pairs c (suc q) ss)) t in
    let d : cond {A = ℕ} (is_present s) 1 0 ≡ 0 = ap (λ z. cond z 1 0) t in
    omega (arith, a, d, sum_by-cons (λ x. cond (is_present x) 1 0) s ss, count_block c (suc q) ss))

length_pairs : (places : ℕ) (c : Parts) (b n : ℕ) → length (pairs_from places c b n) ≡ present_total places c b n
length_pairs places c b zero = refl
length_pairs places c b (suc n) =
    omega (arith, length-append (block_pairs c (bucket_part places b)) (pairs_from places c (suc b) n), count_block c (bucket_part places b + 1) (places_of (part_of c (bucket_part places b))), length_pairs places c (suc b) n)

count_all : (xs : List Row) → count_by (λ r. true) xs ≡ length xs
count_all [] = refl
count_all (x ∷ xs) = omega (arith, counted (λ r. true) x xs, count_all xs)

module _ (buckets places : ℕ) (c : Parts) where
  abbrev AreBuckets : ℕ → Type 0
  AreBuckets n = (x : ℕ) → x < n → IsBucket buckets x (places_of (part_of c (bucket_part places x)))

  pairs_new : (b n : ℕ) → AreBuckets (b + n) → AllNew (pairs_from places c b n)
  pairs_new b zero v = tt
  pairs_new b (suc n) v =
      let e : b + suc n ≡ suc b + n = omega arith in
      let own_of : AreBuckets (suc b + n) = λ x q. v x (omega (arith, q)) in
      let at : IsBucket buckets b (places_of (part_of c (bucket_part places b))) = v b (omega arith) in
      new_append (block_pairs c (bucket_part places b)) (pairs_from places c (suc b) n)
      (block_new c (bucket_part places b + 1) (places_of (part_of c (bucket_part places b))) at.apart)
      (pairs_new (suc b) n own_of)
      (block_absent buckets b c (bucket_part places b + 1) (places_of (part_of c (bucket_part places b))) (pairs_from places c (suc b) n) at.own
      (λ k own. not_there buckets places c k b own (suc b) n own_of (λ x l m z. apart b x l z)))
    where
      apart : (b x : ℕ) → suc b ≤ x → b ≡ x → ⊥
      apart b x l z = absurd (omega (arith, l, z))

  -- how many rows there are
  pub rows_length : AreBuckets buckets → length (rows_of (pairs_from places c 0 buckets)) ≡ present_total places c 0 buckets
  rows_length v =
      let e : 0 + buckets ≡ buckets = omega arith in
      let new : AllNew (pairs_from places c 0 buckets) = pairs_new 0 buckets (λ x l. v x (omega (arith, l))) in
      sym (count_all (rows_of (pairs_from places c 0 buckets))) ∙ count_rows (λ r. true) (pairs_from places c 0 buckets) new ∙ count_all (pairs_from places c 0 buckets) ∙ length_pairs places c 0 buckets

  module _ (k : ℤ) where
    abbrev b0 : ℕ
    b0 = bucket_number buckets k

    none_beside : (b n : ℕ) → AreBuckets (b + n) → b0 < b → count_by (beside buckets k) (pairs_from places c b n) ≡ 0
    none_beside b zero v l = refl
    none_beside b (suc n) v l =
        let at : IsBucket buckets b (places_of (part_of c (bucket_part places b))) = v b (omega arith) in
        let one : count_by (beside buckets k) (block_pairs c (bucket_part places b)) ≡ 0 =
        count_other buckets b k c (bucket_part places b + 1) (places_of (part_of c (bucket_part places b))) at.own (λ z. above b b0 l (same_pos b b0 (z ∙ bucket_is buckets k))) in
        omega (arith, count_append (beside buckets k) (block_pairs c (bucket_part places b)) (pairs_from places c (suc b) n), one, none_beside (suc b) n (λ x q. v x (omega (arith, q))) (omega (arith, l)))
      where
        same_pos : (x y : ℕ) → pos x ≡ pos y → x ≡ y
        same_pos x y e = cc

        above : (b b0 : ℕ) → b0 < b → b ≡ b0 → ⊥
        above b b0 l e = absurd (omega (arith, l, e))

    count_beside : (b n : ℕ) → AreBuckets (b + n) → b ≤ b0 → b0 < b + n → count_by (beside buckets k) (pairs_from places c b n) ≡ count_by is_present (places_of (part_of c (bucket_part places b0)))
    count_beside b zero v l m = absurd (omega (arith, l, m))
    count_beside b (suc n) v l m =
        let at : IsBucket buckets b (places_of (part_of c (bucket_part places b))) = v b (omega arith) in
        let ss : List Place = places_of (part_of c (bucket_part places b)) in
        let own_of : AreBuckets (suc b + n) = λ x q. v x (omega (arith, q)) in
        let both = count_append (beside buckets k) (block_pairs c (bucket_part places b)) (pairs_from places c (suc b) n) in
        elim (split b b0 l) [
          | inl same ↦
              let one : count_by (beside buckets k) (block_pairs c (bucket_part places b)) ≡ count_by is_present ss =
              count_same buckets b k c (bucket_part places b + 1) ss at.own (bucket_is buckets k ∙ ap pos (sym same)) in
              let rest : count_by (beside buckets k) (pairs_from places c (suc b) n) ≡ 0 = none_beside (suc b) n own_of (omega (arith, same)) in
              let z : count_by (beside buckets k) (pairs_from places c b (suc n)) ≡ count_by is_present ss = omega (arith, both, one, rest) in
              z ∙ ap (λ x. count_by is_present (places_of (part_of c (bucket_part places x)))) same
          | inr below ↦
              let one : count_by (beside buckets k) (block_pairs c (bucket_part places b)) ≡ 0 = count_other buckets b k c (bucket_part places b + 1) ss at.own (λ z. other b b0 below (same_pos b b0 (z ∙ bucket_is buckets k))) in
              omega (arith, both, one, count_beside (suc b) n own_of (omega (arith, below)) (omega (arith, m)))
        ]
      where
        same_pos : (x y : ℕ) → pos x ≡ pos y → x ≡ y
        same_pos x y e = cc

        other : (b b0 : ℕ) → b < b0 → b ≡ b0 → ⊥
        other b b0 l e = absurd (omega (arith, l, e))

        split : (b b0 : ℕ) → b ≤ b0 → (b ≡ b0) ⊎ (b < b0)
        split b b0 l = elim (cases_lt b b0) [ inl q ↦ inr q | inr q ↦ inl (omega (arith, l, q)) ]

    -- how many keys stand in the bucket of k
    pub beside_is : AreBuckets buckets → b0 < buckets → keys_beside (rows_of (pairs_from places c 0 buckets)) buckets k ≡ count_by is_present (places_of (part_of c (bucket_part places b0)))
    beside_is v l =
        let all : AreBuckets (0 + buckets) = λ x q. v x (omega (arith, q)) in
        count_rows (beside buckets k) (pairs_from places c 0 buckets) (pairs_new 0 buckets all) ∙ count_beside 0 buckets all (omega arith) (omega (arith, l))

    -- the value at k
    pub value_is : AreBuckets buckets → b0 < buckets → value_at (rows_of (pairs_from places c 0 buckets)) k ≡ value_found c (bucket_part places b0 + 1) (find (part_of c (bucket_part places b0)) k)
    value_is v l = value_of_rows (pairs_from places c 0 buckets) k ∙ there buckets places c k b0 (bucket_is buckets k) 0 buckets (omega arith) (omega (arith, l)) (λ x q. v x (omega (arith, q)))
