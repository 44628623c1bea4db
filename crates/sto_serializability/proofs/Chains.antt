-- Records in the order of the journal, as a chain: each stands after the number that the one before it stands at.
use Rattle.std.specs.Prelude.{filter, nat_lt}
use Rattle.std.proofs.Common.{◌≡◌, ◌⊎◌, ℕ, zero, suc, ◌+◌, ◌<◌, ◌≤◌, List, [], ◌∷◌, refl, sym, ap, ◌∙◌, arith, Bool, true, false, ◌==◌, ◌&&◌, ◌||◌, inl, inr}
use Rattle.std.proofs.lemmas.Bool.{cases_lt, cases_Bool}
use Rattle.std.proofs.lemmas.Bool.Decides.{nat_tests}
use Rattle.std.proofs.lemmas.List.Elements.{All-head, All-tail}
use Rattle.std.specs.List.{All}
use Rattle.sto_history.specs.Records.{Verdict, Wrote, Read, Cancelled, Locked, Changed, Record, is_abort, is_finished, stands_at, IsSince, wrote_with, times_written}
use Rattle.sto_serializability.specs.Merged.{key_of, is_before, AreInOrder}

-- each item of a list, by recursion
abbrev pub Every : {X : Type 0} → (X → Type 0) → List X → Type 0
Every P [] = Unit {0}
Every P (x ∷ xs) = P x × Every P xs

pub every : {X : Type 0} (P : X → Type 0) (xs : List X) → All P xs → Every P xs
every P [] h = tt
every P (x ∷ xs) h = (All-head P x xs h, every P xs (All-tail P x xs h))

-- each record is since the one before it
abbrev pub IsChain : ℕ → List Record → Type 0
IsChain n [] = Unit {0}
IsChain n (r ∷ rs) = IsSince n r.verdict × IsChain (stands_at r.verdict) rs

since_within : (n : ℕ) (v : Verdict) → IsSince n v → n ≤ stands_at v
since_within n (Wrote ticket) h = omega (arith, h)
since_within n (Read at) h = h
since_within n (Cancelled at) h = h
since_within n (Locked at part) h = h
since_within n (Changed at part ticket) h = h

wrote_above : (n u : ℕ) (v : Verdict) → IsSince n v → u ≤ n → wrote_with u v ≡ 0
wrote_above n u (Wrote ticket) h l = grind (arith, nat_tests)
wrote_above n u (Read at) h l = refl
wrote_above n u (Cancelled at) h l = refl
wrote_above n u (Locked at part) h l = refl
wrote_above n u (Changed at part ticket) h l = refl

-- nobody in a chain wrote with a ticket up to its beginning
pub chain_above : (n u : ℕ) (rs : List Record) → IsChain n rs → u ≤ n → times_written u rs ≡ 0
chain_above n u [] h l = refl
chain_above n u (r ∷ rs) h l =
    let up = since_within n r.verdict h.0 in let here = wrote_above n u r.verdict h.0 l in
    let rest = chain_above (stands_at r.verdict) u rs h.1 (omega (arith, l, up)) in omega (arith, here, rest)

-- a record that does not come before another stands after it
not_before : (r s : Record) → is_before s r ≡ false → key_of r.verdict ≤ key_of s.verdict
not_before r s h = grind (arith, nat_tests)

-- records in order stand at rising numbers; two that wrote have different tickets
since_by_key : (v w : Verdict) → is_abort v ≡ false → is_abort w ≡ false → key_of v ≤ key_of w → wrote_with (stands_at v) v + wrote_with (stands_at v) w ≤ 1 → IsSince (stands_at v) w
since_by_key (Wrote t) (Wrote u) a b k one = elim (cases_lt t u) [
  | inl l ↦ l
  | inr l ↦ absurd (let e : t ≡ u = omega (arith, k, l) in let x = own t in let y = ap (λ i. wrote_with t (Wrote i)) e in omega (arith, one, x, y))
]
  where
    own : (i : ℕ) → wrote_with i (Wrote i) ≡ 1
    own i = grind (arith, nat_tests)
since_by_key (Wrote t) (Read n) a b k one = omega (arith, k)
since_by_key (Wrote t) (Cancelled n) a b k one = omega (arith, k)
since_by_key (Wrote t) (Locked n p) a b k one = absurd cc
since_by_key (Wrote t) (Changed n p u) a b k one = absurd cc
since_by_key (Read n) (Wrote u) a b k one = omega (arith, k)
since_by_key (Read n) (Read i) a b k one = omega (arith, k)
since_by_key (Read n) (Cancelled i) a b k one = omega (arith, k)
since_by_key (Read n) (Locked i p) a b k one = absurd cc
since_by_key (Read n) (Changed i p u) a b k one = absurd cc
since_by_key (Cancelled n) (Wrote u) a b k one = omega (arith, k)
since_by_key (Cancelled n) (Read i) a b k one = omega (arith, k)
since_by_key (Cancelled n) (Cancelled i) a b k one = omega (arith, k)
since_by_key (Cancelled n) (Locked i p) a b k one = absurd cc
since_by_key (Cancelled n) (Changed i p u) a b k one = absurd cc
since_by_key (Locked n p) w a b k one = absurd cc
since_by_key (Changed n p u) w a b k one = absurd cc

-- records in order are a chain
chained : (r : Record) (rs : List Record) → is_abort r.verdict ≡ false → Every (λ s. is_abort s.verdict ≡ false) rs
    → ((u : ℕ) → times_written u (r ∷ rs) ≤ 1) → AreInOrder (r ∷ rs) → IsChain (stands_at r.verdict) rs
chained r [] a h few o = tt
chained r (s ∷ rs) a h few o = (
  since_by_key r.verdict s.verdict a h.0 (not_before r s (All-head (λ (x : Record). is_before x r ≡ false) s rs o.0))
      (let one = few (stands_at r.verdict) in omega (arith, one)),
  chained s rs h.0 h.1 (λ u. let one = few u in omega (arith, one)) o.1,
)

first_since : (v : Verdict) → is_abort v ≡ false → wrote_with 0 v ≡ 0 → IsSince 0 v
first_since (Wrote t) a z = elim (cases_lt 0 t) [
  | inl l ↦ l
  | inr l ↦ absurd (let e : t ≡ 0 = omega (arith, l) in let x = ap (λ i. wrote_with 0 (Wrote i)) e in omega (arith, z, x))
]
first_since (Read n) a z = omega arith
first_since (Cancelled n) a z = omega arith
first_since (Locked n p) a z = omega arith
first_since (Changed n p u) a z = omega arith

pub chain_of : (rs : List Record) → Every (λ s. is_abort s.verdict ≡ false) rs → ((u : ℕ) → times_written u rs ≤ 1) → times_written 0 rs ≡ 0 → AreInOrder rs → IsChain 0 rs
chain_of [] h few none o = tt
chain_of (r ∷ rs) h few none o = (first_since r.verdict h.0 (omega (arith, none)), chained r rs h.0 h.1 few o)
