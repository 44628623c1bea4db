-- The notes of the transactions of a generated file that are still to be run, and the keys that they will put.
use Rattle.std.specs.Ordering.{int_eq}
use Rattle.std.proofs.Common.{◌≡◌, ◌≤◌, ◌+◌, ◌*◌, ◌/◌, ◌%◌, ◌==◌, ℕ, zero, suc, pos, ℤ, List, ◌∷◌, refl, ap, sym, ◌∙◌, arith, Bool, true, false, cond, ◌&&◌, subst, inl, inr}
use Rattle.std.proofs.lemmas.Bool.{cases_eq}
use Rattle.std.proofs.lemmas.Bool.Decides.{nat_tests}
use Rattle.std.proofs.lemmas.Int.{ints}
use Rattle.sto_report_spec.specs.Orders.{TransactionPlace, positions_of, numbers_from}
use Rattle.sto_model.specs.Rows.{Row, with_row, bucket_of}
use Rattle.sto_bench.proofs.Orders.{Kind, own_first, other_same, total_of_kind}
use Rattle.sto_bench.proofs.Pairs.{IsAbsent, absent_still}

-- the transactions with a note in the log, and their keys
abbrev pub logs : Kind
logs thread position = position % 20 == 0

abbrev pub log_key : ℕ → ℕ → ℕ
log_key thread position = 1000 * thread + position

-- those with a note of an owner
abbrev pub owns : Kind
owns thread position = position % 25 == 0

abbrev pub owner_key : ℕ → ℕ → ℕ
owner_key thread position = 8 * thread + position / 25

-- those whose note of an owner stands in a bucket
abbrev pub owns_in : ℤ → Kind
owns_in bucket thread position = (position % 25 == 0) && int_eq (bucket_of 16 (pos (owner_key thread position))) bucket

-- where the next transaction of each thread stands, once one of a thread was run
abbrev pub bump : ℕ → (ℕ → ℕ) → ℕ → ℕ
bump thread next t = cond (thread == t) (suc (next t)) (next t)

-- the transactions that are left of a thread
pub record IsNext (next : ℕ → ℕ) (rest : List TransactionPlace) (t : ℕ) : Type 0 where
  pub left : ℕ
  pub positions : positions_of t rest ≡ numbers_from (next t) left
  pub first : 1 ≤ next t
  pub last : next t + left ≤ 201

same_is : (t : ℕ) → (t == t) ≡ true
same_is t = grind (arith, nat_tests)

other_is : (t u : ℕ) → (t ≡ u → ⊥) → (t == u) ≡ false
other_is t u h = grind (arith, nat_tests)

pub bump_here : (t : ℕ) (next : ℕ → ℕ) → bump t next t ≡ suc (next t)
bump_here t next = ap (λ (b : Bool). cond b (suc (next t)) (next t)) (same_is t)

pub bump_other : (t : ℕ) (next : ℕ → ℕ) (u : ℕ) → (t ≡ u → ⊥) → bump t next u ≡ next u
bump_other t next u h = ap (λ (b : Bool). cond b (suc (next u)) (next u)) (other_is t u h)

first_of : (x a c : ℕ) (xs : List ℕ) → x ∷ xs ≡ numbers_from a c → (x ≡ a) × ((d : ℕ) × (c ≡ suc d) × (xs ≡ numbers_from (suc a) d))
first_of x a zero xs e = absurd cc
first_of x a (suc c) xs e = (cc, (c, refl, cc))

-- the next transaction of its thread is run
pub runs_next : (next : ℕ → ℕ) (p : TransactionPlace) (rest : List TransactionPlace) → IsNext next (p ∷ rest) p.0 → (p.1 ≡ next p.0) × (p.1 ≤ 200)
runs_next next p rest h =
    let at = first_of p.1 (next p.0) h.left (positions_of p.0 rest) (sym (own_first p rest) ∙ h.positions) in (at.0, omega (arith, at.0, at.1.1, h.last))

pub next_on : (next : ℕ → ℕ) (p : TransactionPlace) (rest : List TransactionPlace) (t : ℕ) → IsNext next (p ∷ rest) t → IsNext (bump p.0 next) rest t
next_on next p rest t h = elim (cases_eq p.0 t) [
  | inl same ↦
      let own : positions_of t (p ∷ rest) ≡ p.1 ∷ positions_of t rest = subst (λ (u : ℕ). positions_of u (p ∷ rest) ≡ p.1 ∷ positions_of u rest) same (own_first p rest) in
      let at = first_of p.1 (next t) h.left (positions_of t rest) (sym own ∙ h.positions) in
      let now : bump p.0 next t ≡ suc (next t) = subst (λ (u : ℕ). bump u next t ≡ suc (next t)) (sym same) (bump_here t next) in
      record {
        left = at.1.0;
        positions = at.1.2 ∙ ap (λ (a : ℕ). numbers_from a at.1.0) (sym now);
        first = omega (arith, now);
        last = omega (arith, now, at.1.1, h.last);
      }
  | inr other ↦
      let now : bump p.0 next t ≡ next t = bump_other p.0 next t other in
      record {
        left = h.left;
        positions = sym (other_same p rest t other) ∙ h.positions ∙ ap (λ (a : ℕ). numbers_from a h.left) (sym now);
        first = omega (arith, now, h.first);
        last = omega (arith, now, h.last);
      }
]

-- the keys of a kind that are still to be put are not there
abbrev pub IsFresh : Kind → (ℕ → ℕ → ℕ) → (ℕ → ℕ) → List Row → Type 0
IsFresh kind key next rows = (t p : ℕ) → 1 ≤ next t → next t ≤ p → p ≤ 200 → kind t p ≡ true → IsAbsent (pos (key t p)) rows

-- two places of a kind have two keys
abbrev IsApart : Kind → (ℕ → ℕ → ℕ) → Type 0
IsApart kind key = (t p u q : ℕ) → 1 ≤ p → p ≤ 200 → 1 ≤ q → q ≤ 200 → kind t p ≡ true → kind u q ≡ true → key t p ≡ key u q → (t ≡ u) × (p ≡ q)

remainder_none : (p m : ℕ) → ((p % m) == 0) ≡ true → p % m ≡ 0
remainder_none p m h = grind (arith, nat_tests)

logs_apart : IsApart logs log_key
logs_apart t p u q a b c d k l e = (omega (arith, a, b, c, d, e), omega (arith, a, b, c, d, e))

owners_apart : IsApart owns owner_key
owners_apart t p u q a b c d k l e =
    let k0 = remainder_none p 25 k in
    let l0 = remainder_none q 25 l in (omega (arith, a, b, c, d, e, k0, l0), omega (arith, a, b, c, d, e, k0, l0))

fresh_skip : (kind : Kind) (key : ℕ → ℕ → ℕ) (next : ℕ → ℕ) (rows : List Row) (thread : ℕ) → ((t : ℕ) → 1 ≤ next t) → IsFresh kind key next rows → IsFresh kind key (bump thread next) rows
fresh_skip kind key next rows thread firsts h t p first from to is = elim (cases_eq thread t) [
  | inl same ↦
      let now : bump thread next t ≡ suc (next t) = subst (λ (u : ℕ). bump u next t ≡ suc (next t)) (sym same) (bump_here t next) in
      h t p (firsts t) (omega (arith, now, from)) to is
  | inr other ↦ let now = bump_other thread next t other in h t p (firsts t) (omega (arith, now, from)) to is
]

differ : (a b : ℕ) → (a ≡ b → ⊥) → int_eq (pos a) (pos b) ≡ false
differ a b h = grind (arith, ints)

fresh_put : (kind : Kind) (key : ℕ → ℕ → ℕ) (next : ℕ → ℕ) (rows : List Row) (thread position : ℕ) (v : ℤ) → IsApart kind key → ((t : ℕ) → 1 ≤ next t) → position ≡ next thread → position ≤ 200 → kind thread position ≡ true
    → IsFresh kind key next rows → IsFresh kind key (bump thread next) (with_row rows (pos (key thread position)) v)
fresh_put kind key next rows thread position v apart firsts here last noted h t p first from to is =
    let before : next t ≤ bump thread next t = at_least in
    absent_still (pos (key thread position)) v (pos (key t p)) rows
    (differ (key thread position) (key t p)
    (λ e. absurd (let both = apart thread position t p (omega (arith, here, firsts thread)) last (omega (arith, firsts t, before, from)) to noted is e in later both.0 both.1)))
    (h t p (firsts t) (omega (arith, before, from)) to is)
  where
    at_least : next t ≤ bump thread next t
    at_least = elim (cases_eq thread t) [
      | inl same ↦ let now : bump thread next t ≡ suc (next t) = subst (λ (u : ℕ). bump u next t ≡ suc (next t)) (sym same) (bump_here t next) in omega (arith, now)
      | inr other ↦ let now = bump_other thread next t other in omega (arith, now)
    ]

    later : thread ≡ t → position ≡ p → ⊥
    later same equal =
        let now : bump thread next t ≡ suc (next t) = subst (λ (u : ℕ). bump u next t ≡ suc (next t)) (sym same) (bump_here t next) in
        let own : next thread ≡ next t = ap next same in omega (arith, now, own, here, equal, from)

-- after one more transaction, with a note or without
pub fresh_log : (next : ℕ → ℕ) (rows : List Row) (thread : ℕ) → ((t : ℕ) → 1 ≤ next t) → IsFresh logs log_key next rows → IsFresh logs log_key (bump thread next) rows
fresh_log next rows thread firsts h = fresh_skip logs log_key next rows thread firsts h

pub fresh_log_put : (next : ℕ → ℕ) (rows : List Row) (thread position : ℕ) (v : ℤ) → ((t : ℕ) → 1 ≤ next t) → position ≡ next thread → position ≤ 200 → logs thread position ≡ true
    → IsFresh logs log_key next rows → IsFresh logs log_key (bump thread next) (with_row rows (pos (log_key thread position)) v)
fresh_log_put next rows thread position v firsts here last noted h = fresh_put logs log_key next rows thread position v logs_apart firsts here last noted h

pub fresh_owner : (next : ℕ → ℕ) (rows : List Row) (thread : ℕ) → ((t : ℕ) → 1 ≤ next t) → IsFresh owns owner_key next rows → IsFresh owns owner_key (bump thread next) rows
fresh_owner next rows thread firsts h = fresh_skip owns owner_key next rows thread firsts h

pub fresh_owner_put : (next : ℕ → ℕ) (rows : List Row) (thread position : ℕ) (v : ℤ) → ((t : ℕ) → 1 ≤ next t) → position ≡ next thread → position ≤ 200 → owns thread position ≡ true
    → IsFresh owns owner_key next rows → IsFresh owns owner_key (bump thread next) (with_row rows (pos (owner_key thread position)) v)
fresh_owner_put next rows thread position v firsts here last noted h = fresh_put owns owner_key next rows thread position v owners_apart firsts here last noted h

-- how many there are
pub log_total : total_of_kind logs 16 ≡ 160
log_total = refl

pub owner_total : total_of_kind owns 16 ≡ 128
owner_total = refl
