-- A finished run has few records: one and so many tries for each transaction of the file at most.
use Rattle.std.specs.Prelude.{if◌then◌else◌, filter, not}
use Rattle.std.specs.List.{All, sum_by}
use Rattle.std.proofs.Common.{◌≡◌, ℕ, zero, suc, ◌+◌, ◌*◌, ◌<◌, ◌≤◌, List, [], ◌∷◌, ◌++◌, length, length-append, map, refl, sym, ap, ◌∙◌, subst, arith, Bool, true, false, cond, ◌==◌, ◌&&◌, inl, inr, Option, Some, None, slice_get, option_and_then}
use Rattle.std.proofs.lemmas.Bool.{cases_eq, cases_order}
use Rattle.std.proofs.lemmas.Bool.Decides.{nat_tests}
use Rattle.std.proofs.lemmas.List.Elements.{All-head, All-tail, All-weaker}
use Rattle.std.proofs.lemmas.List.Sums.{sum_by-cons}
use Rattle.std.proofs.lemmas.Option.{slice_get_within}
use Rattle.sto_lang.specs.Scripts.{Script, File}
use Rattle.sto_report_spec.specs.Orders.{TransactionPlace, at_position, transaction_at, count_in, positions_of, numbers_from, IsOrder}
use Rattle.sto_history.specs.Records.{Record, is_abort, is_finished}
use Rattle.sto_history.specs.Counted.{aborted_times, finished_places}
use Rattle.sto_type.specs.Meaning.{Meaning}
use Rattle.sto_core.specs.declared.view.View.{View}
use Rattle.sto_serializability.specs.Finished.{IsRecord}
use Rattle.sto_serializability.proofs.Pairs.{hit, occurrences}
use Rattle.sto_run.specs.Alone.{places_in, places_from}

-- 1 where the place p is q
abbrev is : TransactionPlace → TransactionPlace → ℕ
is q p = if (p.0 == q.0) && (p.1 == q.1) then 1 else 0

-- how often a place stands in a list; how many records are of a place, and of places
abbrev stands : TransactionPlace → List TransactionPlace → ℕ
stands p [] = 0
stands p (q ∷ qs) = is q p + stands p qs

abbrev times : TransactionPlace → List Record → ℕ
times q [] = 0
times q (r ∷ rs) = is q r.place + times q rs

abbrev all_times : List TransactionPlace → List Record → ℕ
all_times [] rs = 0
all_times (q ∷ qs) rs = times q rs + all_times qs rs

one_more : (qs : List TransactionPlace) (r : Record) (rs : List Record) → all_times qs (r ∷ rs) ≡ stands r.place qs + all_times qs rs
one_more [] r rs = refl
one_more (q ∷ qs) r rs = let k = one_more qs r rs in omega (arith, k)

all_counted : (qs : List TransactionPlace) (rs : List Record) → All (λ (r : Record). 1 ≤ stands r.place qs) rs → length rs ≤ all_times qs rs
all_counted qs [] h = omega arith
all_counted qs (r ∷ rs) h =
    let here = All-head (λ (x : Record). 1 ≤ stands x.place qs) r rs h in
    let rest = all_counted qs rs (All-tail (λ (x : Record). 1 ≤ stands x.place qs) r rs h) in
    let e = one_more qs r rs in omega (arith, here, rest, e)

bounded : (most : ℕ) (qs : List TransactionPlace) (rs : List Record) → ((q : TransactionPlace) → times q rs ≤ most) → all_times qs rs ≤ length qs * most
bounded most [] rs h = omega arith
bounded most (q ∷ qs) rs h = let here = h q in let rest = bounded most qs rs h in omega (arith, here, rest)

-- each transaction of the file has a place in the list

stands_append : (p : TransactionPlace) (xs ys : List TransactionPlace) → stands p (xs ++ ys) ≡ stands p xs + stands p ys
stands_append p [] ys = omega arith
stands_append p (x ∷ xs) ys = let k = stands_append p xs ys in omega (arith, k)

is_itself : (thread position : ℕ) → is (thread, position) (thread, position) ≡ 1
is_itself thread position = grind (arith, nat_tests)

stands_in : (thread first count position : ℕ) → first ≤ position → position < first + count → 1 ≤ stands (thread, position) (places_in thread first count)
stands_in thread first zero position l u = absurd (omega (arith, l, u))
stands_in thread first (suc count) position l u = elim (cases_eq position first) [
  | inl same ↦ (let one = is_itself thread position in let e = ap (λ (n : ℕ). is (thread, n) (thread, position)) same in omega (arith, one, e))
  | inr other ↦ (let k = stands_in thread (suc first) count position (omega (arith, l, other)) (omega (arith, u)) in omega (arith, k))
]

stands_from : (threads : List (List Script)) (first thread k position : ℕ) (s : Script) → thread ≡ first + k
    → option_and_then (at_position position) (slice_get threads k) ≡ Some s → 1 ≤ stands (thread, position) (places_from first threads)
stands_from [] first thread zero position s t e = absurd cc
stands_from [] first thread (suc k) position s t e = absurd cc
stands_from (scripts ∷ threads) first thread zero zero s t e = absurd cc
stands_from (scripts ∷ threads) first thread zero (suc earlier) s t e =
    let same : first ≡ thread = omega (arith, t) in
    let within = slice_get_within scripts earlier s e in
    let here = stands_in thread 1 (length scripts) (suc earlier) (omega arith) (omega (arith, within)) in
    let moved = ap (λ (n : ℕ). stands (thread, suc earlier) (places_in n 1 (length scripts))) same in
    let both = stands_append (thread, suc earlier) (places_in first 1 (length scripts)) (places_from (suc first) threads) in
    omega (arith, here, moved, both)
stands_from (scripts ∷ threads) first thread (suc k) position s t e =
    let rest = stands_from threads (suc first) thread k position s (omega (arith, t)) e in
    let both = stands_append (thread, position) (places_in first 1 (length scripts)) (places_from (suc first) threads) in
    omega (arith, rest, both)

length-places_in : (thread first count : ℕ) → length (places_in thread first count) ≡ count
length-places_in thread first zero = refl
length-places_in thread first (suc count) = ap suc (length-places_in thread (suc first) count)

length-places_from : (first : ℕ) (threads : List (List Script)) → length (places_from first threads) ≡ sum_by length threads
length-places_from first [] = refl
length-places_from first (scripts ∷ threads) =
    let both = length-append (places_in first 1 (length scripts)) (places_from (suc first) threads) in
    let here = length-places_in first 1 (length scripts) in
    let rest = length-places_from (suc first) threads in
    let sum = sum_by-cons length scripts threads in
    omega (arith, both, here, rest, sum)

-- a place has one record that is not aborted at most

abbrev ended : TransactionPlace → List TransactionPlace → ℕ
ended q [] = 0
ended q (p ∷ ps) = is q p + ended q ps

and_true : (b : Bool) → b && true ≡ b
and_true true = refl
and_true false = refl

and_false : (b : Bool) → b && false ≡ false
and_false true = refl
and_false false = refl

none_below : (x first count : ℕ) → x < first → occurrences x (numbers_from first count) ≡ 0
none_below x first zero l = refl
none_below x first (suc count) l =
    let k = none_below x (suc first) count (omega (arith, l)) in let h : hit x first ≡ 0 = grind (arith, nat_tests) in omega (arith, k, h)

once_among : (x first count : ℕ) → occurrences x (numbers_from first count) ≤ 1
once_among x first zero = omega arith
once_among x first (suc count) = elim (cases_order x first) [
  | inl same ↦ (let k = none_below x (suc first) count (omega (arith, same)) in let h : hit x first ≤ 1 = grind (arith, nat_tests) in omega (arith, k, h))
  | inr (inl l) ↦ (let k = none_below x first (suc count) l in omega (arith, k))
  | inr (inr l) ↦ (let k = once_among x (suc first) count in let h : hit x first ≡ 0 = grind (arith, nat_tests) in omega (arith, k, h))
]

ended_once : (q : TransactionPlace) (ps : List TransactionPlace) → ended q ps ≡ occurrences q.1 (positions_of q.0 ps)
ended_once q [] = refl
ended_once q (p ∷ ps) = by (p.0 == q.0) (ended_once q ps)
  where
    by : (b : Bool) → ended q ps ≡ occurrences q.1 (positions_of q.0 ps)
        → (cond (b && (p.1 == q.1)) 1 0) + ended q ps ≡ occurrences q.1 (cond b (p.1 ∷ positions_of q.0 ps) (positions_of q.0 ps))
    by true k = ap (λ (n : ℕ). hit q.1 p.1 + n) k
    by false k = omega (arith, k)

aborted_or_ended : (q : TransactionPlace) (rs : List Record) → times q rs ≡ aborted_times q rs + ended q (finished_places rs)
aborted_or_ended q [] = refl
aborted_or_ended q (r ∷ rs) = by (is_abort r.verdict) (aborted_or_ended q rs)
  where
    by : (b : Bool) → times q rs ≡ aborted_times q rs + ended q (finished_places rs)
        → is q r.place + times q rs
        ≡ (cond ((r.place.0 == q.0) && ((r.place.1 == q.1) && b)) 1 0) + aborted_times q rs + ended q (map (λ (x : Record). x.place) (cond (not b) (r ∷ filter is_finished rs) (filter is_finished rs)))
    by true k = let e = ap (λ (x : Bool). let n : ℕ = cond ((r.place.0 == q.0) && x) 1 0 in n) (and_true (r.place.1 == q.1)) in omega (arith, k, e)
    by false k =
        let e = ap (λ (x : Bool). let n : ℕ = cond ((r.place.0 == q.0) && x) 1 0 in n) (and_false (r.place.1 == q.1)) in
        let f = ap (λ (x : Bool). let n : ℕ = cond x 1 0 in n) (and_false (r.place.0 == q.0)) in omega (arith, k, e, f)

-- a transaction of the file
pub record HasScript (file : File) (r : Record) : Type 0 where
  pub script : Script
  pub there : transaction_at file r.place ≡ Some script

pub have_scripts : (m : Meaning) (file : File) (v : View) (rs : List Record) → All (IsRecord m file v) rs → All (HasScript file) rs
have_scripts m file v rs h = All-weaker (IsRecord m file v) (HasScript file) (λ r k. record { script = k.script; there = k.transaction }) rs h

pub few_records : (file : File) (tries : ℕ) (rs : List Record) → All (HasScript file) rs → ((q : TransactionPlace) → aborted_times q rs ≤ tries) → IsOrder file (finished_places rs)
    → tries ≤ 64 → length rs ≤ sum_by length file.threads * 65
few_records file tries rs each few order low =
    let listed : List TransactionPlace = places_from 0 file.threads in
    let counted : length rs ≤ all_times listed rs =
    all_counted listed rs
    (All-weaker (HasScript file) (λ (r : Record). 1 ≤ stands r.place listed)
    (λ r h. stands_from file.threads 0 r.place.0 r.place.0 r.place.1 h.script (omega arith) h.there) rs each) in
    let most : all_times listed rs ≤ length listed * 65 =
    bounded 65 listed rs
    (λ q. (let a = aborted_or_ended q rs in let b = few q in
    let c = ended_once q (finished_places rs) ∙ ap (occurrences q.1) (order q.0) in
    let d = once_among q.1 1 (count_in file.threads q.0) in omega (arith, a, b, c, d, low))) in
    let e = ap (λ (n : ℕ). n * 65) (length-places_from 0 file.threads) in omega (arith, counted, most, e)
