-- Shapes of declarations in range are small.
use Rattle.std.proofs.Common.{◌≡◌, ◌+◌, ◌*◌, ◌≤◌, ◌<◌, ◌^◌, ℕ, ℤ, pos, negsuc, List, [], ◌∷◌, ◌++◌, length, refl, ◌∙◌, arith, Bool, true, false, ◌&&◌, ◌||◌, nat_lt, cond, ◌==◌, Option, None, Some, zero-add}
use Rattle.std.proofs.lemmas.Bool.Decides.{nat_tests}
use Rattle.std.proofs.lemmas.List.{length_push}
use Rattle.std.proofs.Math.Nat.{mul-le-mul}
use Rattle.sto_syntax.specs.declared.declared.Declared.{Declared}
use Rattle.sto_syntax.specs.declared.declared.Declared.TheVariants as declares
use Rattle.sto_lang.specs.declared.open_transaction.OpenBlock as blocks
use Rattle.sto_model.specs.Sizes.{part_count, word_count}
use Rattle.sto_lang.specs.Shapes.{natural, in_range, is_in_ranges, most_length, shape_of}
use Rattle.sto_model.specs.declared.shape.Shape.{Shape}
use Rattle.sto_lang.specs.Objects.{Object, part_total, word_total}
use Rattle.sto_lang.specs.Drafts.{is_variable, with_variable}
use Rattle.sto_lang.specs.Limits.{is_full, most_threads, most_parts, most_words}
use Rattle.sto_lang.specs.BegunViews.{innermost_first}
use Rattle.sto_lang.proofs.PlaceLemmas as places

pub upon_count : (all : List blocks.OpenBlock) → length (innermost_first all) ≡ length all
upon_count all = places.upon_count [] all ∙ zero-add (length all)

pub at_most : (low high : ℕ) (value : Option ℤ) → in_range low high value ≡ true → natural value ≤ high
at_most low high None e = absurd (cc)
at_most low high (Some (pos n)) e = grind (arith, nat_tests)
at_most low high (Some (negsuc n)) e = absurd (cc)

both_true : (a b : Bool) → (a && b) ≡ true → (a ≡ true) × (b ≡ true)
both_true true b e = (refl, e)
both_true false b e = absurd (cc)

pub small_parts : (declared : Declared) → is_in_ranges 2 declared ≡ true → part_count (shape_of declared) < 2 ^ 32
small_parts (declares.Box value) e = omega arith
small_parts (declares.Counter value) e = omega arith
small_parts (declares.Array len value) e = omega (arith, at_most 1 16384 len e)
small_parts (declares.Hash buckets places) e =
    let parts = both_true (in_range 1 1024 buckets) (in_range 1 64 places) e in
    let b : natural buckets ≤ 1024 = at_most 1 1024 buckets parts.0 in
    let p : natural places ≤ 64 = at_most 1 64 places parts.1 in
    let q : 1 + natural places ≤ 65 = omega (arith, p) in
    let product : natural buckets * (1 + natural places) ≤ 1024 * 65 = mul-le-mul b q in
    omega (arith, product)
small_parts (declares.Tree leaves) e = omega (arith, at_most 1 256 leaves e)
small_parts (declares.Vector capacity) e = omega (arith, at_most 1 4096 capacity e)

pub small_words : (declared : Declared) → is_in_ranges 2 declared ≡ true → word_count (shape_of declared) < 2 ^ 32
small_words (declares.Box value) e = omega arith
small_words (declares.Counter value) e = omega arith
small_words (declares.Array len value) e = omega (arith, at_most 1 16384 len e)
small_words (declares.Hash buckets places) e =
    let parts = both_true (in_range 1 1024 buckets) (in_range 1 64 places) e in
    let b : natural buckets ≤ 1024 = at_most 1 1024 buckets parts.0 in
    let p : natural places ≤ 64 = at_most 1 64 places parts.1 in
    let q : 3 * natural places ≤ 192 = omega (arith, p) in
    let product : natural buckets * (3 * natural places) ≤ 1024 * 192 = mul-le-mul b q in
    omega (arith, product)
small_words (declares.Tree leaves) e = omega (arith, at_most 1 256 leaves e)
small_words (declares.Vector capacity) e = omega (arith, at_most 1 4096 capacity e)

-- version 2 has the widest limits
length_by : (b : Bool) → cond b 16384 4096 ≤ 16384
length_by true = omega arith
length_by false = omega arith

pub length_most : (version : ℕ) → most_length version ≤ 16384
length_most version = length_by (version == 2)

wider : (high : ℕ) (value : Option ℤ) → high ≤ 16384 → in_range 1 high value ≡ true → in_range 1 16384 value ≡ true
wider high None h e = absurd (cc)
wider high (Some (pos n)) h e = grind (arith, nat_tests)
wider high (Some (negsuc n)) h e = absurd (cc)

pub widest : (version : ℕ) (declared : Declared) → is_in_ranges version declared ≡ true → is_in_ranges 2 declared ≡ true
widest version (declares.Box value) e = refl
widest version (declares.Counter value) e = refl
widest version (declares.Array len value) e = wider (most_length version) len (length_by (version == 2)) e
widest version (declares.Hash buckets places) e = e
widest version (declares.Tree leaves) e = e
widest version (declares.Vector capacity) e = e

threads_by : (b : Bool) → cond b 64 16 ≤ 64
threads_by true = omega arith
threads_by false = omega arith

pub threads_most : (version : ℕ) → most_threads version ≤ 64
threads_most version = threads_by (version == 2)

parts_by : (b : Bool) → cond b 65536 4096 ≤ 65536
parts_by true = omega arith
parts_by false = omega arith

pub parts_most : (version : ℕ) → most_parts version ≤ 65536
parts_most version = parts_by (version == 2)

words_by : (b : Bool) → cond b 131072 65536 ≤ 131072
words_by true = omega arith
words_by false = omega arith

pub words_most : (version : ℕ) → most_words version ≤ 131072
words_most version = words_by (version == 2)

not_above : (m n : ℕ) → nat_lt m n ≡ false → n ≤ m
not_above m n e = grind (arith, nat_tests)

not_below : (m n : ℕ) → n ≤ m → nat_lt m n ≡ false
not_below m n h = grind (arith, nat_tests)

neither : (a b c : Bool) → (a || b || c) ≡ false → (a ≡ false) × (b ≡ false) × (c ≡ false)
neither false false false e = (refl, refl, refl)
neither false false true e = absurd (cc)
neither false true c e = absurd (cc)
neither true b c e = absurd (cc)

pub roomiest : (version : ℕ) (objects : List Object) (shape : Shape) → is_full version objects shape ≡ false → is_full 2 objects shape ≡ false
roomiest version objects shape e =
    let parts = part_total objects + part_count shape in
    let words = word_total objects + word_count shape in
    let tests = neither (nat_lt 64 (length objects + 1)) (nat_lt (most_parts version) parts) (nat_lt (most_words version) words) e in
    let few = not_below 65536 parts (omega (arith, parts_most version, not_above (most_parts version) parts tests.1)) in
    let narrow = not_below 131072 words (omega (arith, words_most version, not_above (most_words version) words tests.2)) in
    (λ i. tests.0 i || few i || narrow i)

count_more : (variables : List (List ℕ)) (name : List ℕ) (known : Bool) → length (cond known variables (variables ++ name ∷ [])) ≡ cond known (length variables) (length variables + 1)
count_more variables name true = refl
count_more variables name false = length_push variables name

-- an assignment adds a variable where it is new
pub variables_more : (variables : List (List ℕ)) (name : List ℕ) → length (with_variable variables name) ≡ cond (is_variable variables name) (length variables) (length variables + 1)
variables_more variables name = count_more variables name (is_variable variables name)
