-- The order of a feeder, round by round.
use Rattle.std.specs.Prelude.{if◌then◌else◌, nat_le, min}
use Rattle.std.specs.List.{All, AllPairs}
use Rattle.std.proofs.Common.{◌≡◌, ℕ, zero, suc, ◌+◌, ◌<◌, ◌≤◌, List, [], ◌∷◌, ◌++◌, map, refl, sym, ap, ◌∙◌, subst, arith, append-nil, Bool, true, false, inl, inr}
use Rattle.std.proofs.lemmas.Bool.{cases_eq, cases_order}
use Rattle.std.proofs.lemmas.Bool.Decides.{nat_tests}
use Rattle.std.proofs.lemmas.List.{map-append}
use Rattle.std.proofs.lemmas.List.Elements.{All-append, All-weaker, All-map}
use Rattle.std.proofs.lemmas.List.Quantifiers.{all_pairs_push}
use Rattle.sto_run_threads.specs.Orders.{TransactionPlace as Place, positions_of, numbers_from}
use Rattle.sto_serializability.proofs.Working.{positions_append, numbers_more}
use Rattle.sto_run_threads.proofs.Threads.{one_of_own, one_of_other}
use Rattle.sto_run_feed.specs.declared.order.TransactionPlace as code
use Rattle.sto_run_feed.specs.Orders.{place_of, Precedes}

-- a position that a thread has, or none
abbrev pub one_at : ℕ → ℕ → List ℕ
one_at position count = if nat_le position count then position ∷ [] else []

pub one_within : (position count : ℕ) → position ≤ count → one_at position count ≡ position ∷ []
one_within position count l = let e : nat_le position count ≡ true = grind (arith, nat_tests, l) in ap (λ (b : Bool). if b then position ∷ [] else []) e

pub none_past : (position count : ℕ) → count < position → one_at position count ≡ []
none_past position count l = let e : nat_le position count ≡ false = grind (arith, nat_tests, l) in ap (λ (b : Bool). if b then position ∷ [] else []) e

-- the positions of a thread up to the nth
pub next_position : (count n : ℕ) → numbers_from 1 (min count n) ++ one_at (n + 1) count ≡ numbers_from 1 (min count (n + 1))
next_position count n = elim (cases_order n count) [
  | inl same ↦ past (omega (arith, same))
  | inr (inl less) ↦
      let a : min count n ≡ n = omega (arith, less) in let b : min count (n + 1) ≡ suc n = omega (arith, less) in
      let e : 1 + n ≡ n + 1 = omega arith in
      ap (λ (k : ℕ). numbers_from 1 k ++ one_at (n + 1) count) a
      ∙ ap (λ (l : List ℕ). numbers_from 1 n ++ l) (one_within (n + 1) count (omega (arith, less)))
      ∙ ap (λ (k : ℕ). numbers_from 1 n ++ k ∷ []) (sym e)
      ∙ sym (numbers_more 1 n) ∙ ap (numbers_from 1) (sym b)
  | inr (inr more) ↦ past (omega (arith, more))
]
  where
    past : count ≤ n → numbers_from 1 (min count n) ++ one_at (n + 1) count ≡ numbers_from 1 (min count (n + 1))
    past l =
        let a : min count n ≡ count = omega (arith, l) in let b : min count (n + 1) ≡ count = omega (arith, l) in
        ap (λ (k : ℕ). numbers_from 1 k ++ one_at (n + 1) count) a
        ∙ ap (λ (l : List ℕ). numbers_from 1 count ++ l) (none_past (n + 1) count (omega (arith, l)))
        ∙ append-nil (numbers_from 1 count) ∙ ap (numbers_from 1) (sym b)

-- one more place at the end
pub rising_more : (ps : List code.TransactionPlace) (p : code.TransactionPlace) → AllPairs Precedes (map place_of ps) → All (λ (q : code.TransactionPlace). Precedes (place_of q) (place_of p)) ps → AllPairs Precedes (map place_of (ps ++ p ∷ []))
rising_more ps p h all =
    subst (AllPairs Precedes) (sym (map-append place_of ps (p ∷ [])))
    (all_pairs_push Precedes (map place_of ps) (place_of p) h (λ k d l. All-map (λ (q : Place). Precedes q (place_of p)) place_of ps all k d l))

pub more_own : (ps : List code.TransactionPlace) (p : code.TransactionPlace) (thread : ℕ) → p.thread ≡ thread → positions_of thread (map place_of (ps ++ p ∷ [])) ≡ positions_of thread (map place_of ps) ++ p.position ∷ []
more_own ps p thread own =
    ap (positions_of thread) (map-append place_of ps (p ∷ [])) ∙ positions_append thread (map place_of ps) (place_of p ∷ [])
    ∙ ap (λ (l : List ℕ). positions_of thread (map place_of ps) ++ l) (one_of_own (place_of p) thread own)

pub more_other : (ps : List code.TransactionPlace) (p : code.TransactionPlace) (thread : ℕ) → (p.thread ≡ thread → ⊥) → positions_of thread (map place_of (ps ++ p ∷ [])) ≡ positions_of thread (map place_of ps)
more_other ps p thread other =
    ap (positions_of thread) (map-append place_of ps (p ∷ [])) ∙ positions_append thread (map place_of ps) (place_of p ∷ [])
    ∙ ap (λ (l : List ℕ). positions_of thread (map place_of ps) ++ l) (one_of_other (place_of p) thread other) ∙ append-nil (positions_of thread (map place_of ps))

-- A round that has come to a thread: the places so far precede its place, and those of lower threads are there.
pub record HasCome (ps qs : List code.TransactionPlace) (position thread : ℕ) (count : ℕ → ℕ) : Type 0 where
  pub before : All (λ (q : code.TransactionPlace). Precedes (place_of q) (thread, position)) qs
  pub rising : AllPairs Precedes (map place_of qs)
  pub there : (u : ℕ) → u < thread → positions_of u (map place_of qs) ≡ positions_of u (map place_of ps) ++ one_at position (count u)
  pub ahead : (u : ℕ) → thread ≤ u → positions_of u (map place_of qs) ≡ positions_of u (map place_of ps)

pub round_begins : (ps : List code.TransactionPlace) (position : ℕ) (count : ℕ → ℕ) → All (λ (p : code.TransactionPlace). p.position < position) ps → AllPairs Precedes (map place_of ps) → HasCome ps ps position 0 count
round_begins ps position count earlier rising = record {
  before = All-weaker (λ (p : code.TransactionPlace). p.position < position) (λ (q : code.TransactionPlace). Precedes (place_of q) (0, position)) (λ p l. inl l) ps earlier;
  rising = rising;
  there = λ u l. absurd (omega (arith, l));
  ahead = λ u l. refl;
}

later : (position thread : ℕ) (p : Place) → Precedes p (thread, position) → Precedes p (thread + 1, position)
later position thread p (inl l) = inl l
later position thread p (inr k) = let l = k.1 in inr (k.0, omega (arith, l))

one : {X : Type 0} (P : X → Type 0) (x : X) → P x → All P (x ∷ [])
one P x p zero d l = p
one P x p (suc k) d l = absurd (omega (arith, l))

pub round_adds : (ps qs : List code.TransactionPlace) (p : code.TransactionPlace) (count : ℕ → ℕ) → HasCome ps qs p.position p.thread count → p.position ≤ count p.thread → HasCome ps (qs ++ p ∷ []) p.position (p.thread + 1) count
round_adds ps qs p count h within = record {
  before = All-append (λ (q : code.TransactionPlace). Precedes (place_of q) (p.thread + 1, p.position)) qs (p ∷ [])
      (All-weaker (λ (q : code.TransactionPlace). Precedes (place_of q) (p.thread, p.position)) (λ (q : code.TransactionPlace). Precedes (place_of q) (p.thread + 1, p.position)) (λ q k. later p.position p.thread (place_of q) k) qs h.before)
      (one (λ (q : code.TransactionPlace). Precedes (place_of q) (p.thread + 1, p.position)) p (inr (refl, omega arith)));
  rising = rising_more qs p h.rising h.before;
  there = λ u l. elim (cases_eq p.thread u) [
    | inl same ↦ more_own qs p u same ∙ ap (λ (l : List ℕ). l ++ p.position ∷ []) (h.ahead u (omega (arith, same)))
        ∙ ap (λ (l : List ℕ). positions_of u (map place_of ps) ++ l) (sym (ap (λ (n : ℕ). one_at p.position (count n)) (sym same) ∙ one_within p.position (count p.thread) within))
    | inr other ↦ more_other qs p u other ∙ h.there u (omega (arith, l, other))
  ];
  ahead = λ u l. more_other qs p u (λ same. absurd (omega (arith, l, same))) ∙ h.ahead u (omega (arith, l));
}

pub round_passes : (ps qs : List code.TransactionPlace) (position thread : ℕ) (count : ℕ → ℕ) → HasCome ps qs position thread count → count thread < position → HasCome ps qs position (thread + 1) count
round_passes ps qs position thread count h past = record {
  before = All-weaker (λ (q : code.TransactionPlace). Precedes (place_of q) (thread, position)) (λ (q : code.TransactionPlace). Precedes (place_of q) (thread + 1, position)) (λ q k. later position thread (place_of q) k) qs h.before;
  rising = h.rising;
  there = λ u l. elim (cases_eq thread u) [
    | inl same ↦ h.ahead u (omega (arith, same)) ∙ sym (append-nil (positions_of u (map place_of ps)))
        ∙ ap (λ (l : List ℕ). positions_of u (map place_of ps) ++ l) (sym (ap (λ (n : ℕ). one_at position (count n)) (sym same) ∙ none_past position (count thread) past))
    | inr other ↦ h.there u (omega (arith, l, other))
  ];
  ahead = λ u l. h.ahead u (omega (arith, l));
}

-- at the end of a round
at_most : (position thread : ℕ) (p : Place) → Precedes p (thread, position) → p.1 ≤ position
at_most position thread p (inl l) = omega (arith, l)
at_most position thread p (inr k) = let e = k.0 in omega (arith, e)

pub round_each : (ps qs : List code.TransactionPlace) (position thread : ℕ) (count : ℕ → ℕ) → HasCome ps qs position thread count → 1 ≤ position → ((u : ℕ) → thread ≤ u → count u ≡ 0)
    → (u : ℕ) → positions_of u (map place_of qs) ≡ positions_of u (map place_of ps) ++ one_at position (count u)
round_each ps qs position thread count h some none u = elim (cases_order u thread) [
  | inl same ↦ past (omega (arith, same))
  | inr (inl less) ↦ h.there u less
  | inr (inr more) ↦ past (omega (arith, more))
]
  where
    past : thread ≤ u → positions_of u (map place_of qs) ≡ positions_of u (map place_of ps) ++ one_at position (count u)
    past l =
        let z = none u l in
        h.ahead u l ∙ sym (append-nil (positions_of u (map place_of ps)))
        ∙ ap (λ (l : List ℕ). positions_of u (map place_of ps) ++ l) (sym (none_past position (count u) (omega (arith, z, some))))
