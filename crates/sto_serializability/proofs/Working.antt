-- What was told of a record stays true of later views, and records are added transaction by transaction.
use Rattle.std.specs.Prelude.{◌⊎◌, ◌&&◌, if◌then◌else◌, filter}
use Rattle.std.proofs.Common.{◌≡◌, ℕ, ◌+◌, ◌<◌, ◌≤◌, List, [], ◌∷◌, ◌++◌, map, refl, sym, ap, ◌∙◌, subst, arith, Bool, true, false, ◌==◌, Option, Some, None, slice_get, option_and_then, inl, inr, eqb-true, eq-eqb, zero, suc, cond}
use Rattle.std.proofs.lemmas.Bool.{cases_eq}
use Rattle.std.proofs.lemmas.List.{map-append}
use Rattle.std.proofs.lemmas.List.Elements.{filter-append, All-append, All-weaker}
use Rattle.sto_model.specs.PlainReplies.{PlainReply}
use Rattle.sto_lang.specs.Scripts.{Script, File}
use Rattle.sto_script.specs.Meaning.{meaning_of}
use Rattle.sto_type.specs.Meaning.{Meaning}
use Rattle.sto_core.specs.declared.view.View.{View}
use Rattle.sto_report_spec.specs.Orders.{TransactionPlace, at_position, transaction_at, positions_of, numbers_from}
use Rattle.sto_history.specs.Records.{Record, is_abort, is_finished, known_after, times_written}
use Rattle.sto_serializability.specs.Finished.{IsRecord, HandsBack}
use Rattle.sto_history.specs.Counted.{Follows, InThreads, aborted_times, finished_places}
use Rattle.sto_history.specs.Added.{IsAdded, HasAdded}
pub use Rattle.sto_serializability.specs.Working.{AreSoFar}
use Rattle.sto_history.proofs.Later.{told_later, told_known}
use Rattle.sto_serializability.proofs.Chains.{Every, every}
use Rattle.sto_serializability.proofs.Pairs.{all_of, every_weaker, every_both}

pub times_append : (t : ℕ) (xs ys : List Record) → times_written t (xs ++ ys) ≡ times_written t xs + times_written t ys
times_append t [] ys = omega arith
times_append t (x ∷ xs) ys = let k = times_append t xs ys in omega (arith, k)

pub aborted_append : (place : TransactionPlace) (xs ys : List Record) → aborted_times place (xs ++ ys) ≡ aborted_times place xs + aborted_times place ys
aborted_append place [] ys = omega arith
aborted_append place (x ∷ xs) ys = let k = aborted_append place xs ys in omega (arith, k)

pub in_threads_append : (xs ys : List Record) → InThreads xs → InThreads ys → Every (λ (x : Record). Every (λ (y : Record). x.place.0 ≡ y.place.0 → Follows x y) ys) xs → InThreads (xs ++ ys)
in_threads_append [] ys h k b = k
in_threads_append (x ∷ xs) ys h k b = (
  All-append (λ (y : Record). x.place.0 ≡ y.place.0 → Follows x y) xs ys h.0 (all_of (λ (y : Record). x.place.0 ≡ y.place.0 → Follows x y) ys b.0),
  in_threads_append xs ys h.1 k b.1,
)

same_place : (p q : TransactionPlace) → (p ≡ q) ⊎ (p ≡ q → ⊥)
same_place p q = elim (cases_eq p.0 q.0) [
  | inl e ↦ elim (cases_eq p.1 q.1) [
    | inl g ↦ inl (λ i. (e i, g i))
    | inr n ↦ inr (λ k. n (ap (λ (x : TransactionPlace). x.1) k))
  ]
  | inr n ↦ inr (λ k. n (ap (λ (x : TransactionPlace). x.0) k))
]

not_both : (a b c : Bool) → (a ≡ true → b ≡ true → ⊥) → (let n : ℕ = if a && (b && c) then 1 else 0 in n) ≡ 0
not_both true true c h = absurd (h refl refl)
not_both true false c h = refl
not_both false b c h = refl

pub none_aborted : (q : TransactionPlace) (xs : List Record) → Every (λ (x : Record). x.place.0 ≡ q.0 → x.place.1 ≡ q.1 → ⊥) xs → aborted_times q xs ≡ 0
none_aborted q [] h = refl
none_aborted q (x ∷ xs) h =
    let here = not_both (x.place.0 == q.0) (x.place.1 == q.1) (is_abort x.verdict) (λ e g. h.0 (eqb-true x.place.0 q.0 e) (eqb-true x.place.1 q.1 g)) in
    let rest = none_aborted q xs h.1 in omega (arith, here, rest)

-- no transaction stands before the first position
zero_none : (s : Script) (scripts : Option (List Script)) → option_and_then (at_position 0) scripts ≡ Some s → ⊥
zero_none s None e = absurd cc
zero_none s (Some scripts) e = absurd cc

no_position_zero : (file : File) (place : TransactionPlace) (s : Script) → place.1 ≡ 0 → transaction_at file place ≡ Some s → ⊥
no_position_zero file place s first at =
    zero_none s (slice_get file.threads place.0) (subst (λ (n : ℕ). option_and_then (at_position n) (slice_get file.threads place.0) ≡ Some s) first at)

-- a run of the transaction at a place may come after these records: they are of lower positions of its thread, or aborted attempts of it
abbrev pub MayCome : TransactionPlace → List Record → Type 0
MayCome place rs = Every (λ (r : Record). r.place.0 ≡ place.0 → (r.place.1 ≤ place.1) × (r.place.1 ≡ place.1 → is_abort r.verdict ≡ true)) rs

-- A run of a transaction adds its records to those that the pass was told of.
pub more_so_far : (m : Meaning) (file : File) (tries : ℕ) (v w : View) (rs new : List Record) (place : TransactionPlace) (s : Script)
    → transaction_at file place ≡ Some s → MayCome place rs → AreSoFar m file tries v rs → HasAdded m tries v w (meaning_of s) place new
    → aborted_times place rs + aborted_times place new ≤ tries
    → ((position : ℕ) → 1 ≤ position → position < place.1 → aborted_times (place.0, position) rs ≡ tries → aborted_times place new ≡ 0) → AreSoFar m file tries w (rs ++ new)
more_so_far m file tries v w rs new place s at comes h added few spare = record {
  threads = in_threads_append rs new h.threads added.threads
      (every_both (λ (r : Record). r.place.0 ≡ place.0 → (r.place.1 ≤ place.1) × (r.place.1 ≡ place.1 → is_abort r.verdict ≡ true)) (IsRecord m file v) (λ (r : Record). Every (λ (y : Record). r.place.0 ≡ y.place.0 → Follows r y) new)
      (λ r low k. every_weaker (IsAdded m v w (meaning_of s) place) (λ (y : Record). r.place.0 ≡ y.place.0 → Follows r y)
      (λ y a e.
      let may : (r.place.1 ≤ y.place.1) × (r.place.1 ≡ y.place.1 → is_abort r.verdict ≡ true) =
      subst (λ (q : TransactionPlace). (r.place.1 ≤ q.1) × (r.place.1 ≡ q.1 → is_abort r.verdict ≡ true)) (sym a.placed) (low (e ∙ ap (λ (q : TransactionPlace). q.0) a.placed)) in
      record {
        position = may.0;
        again = may.1;
        since = a.since (known_after r.verdict) (told_known m v (meaning_of k.script) r.replies r.verdict k.told);
      }) new
      (every (IsAdded m v w (meaning_of s) place) new added.each)) rs comes (every (IsRecord m file v) rs h.each));
  few = few_more;
  handed = handed;
  each = All-append (IsRecord m file w) rs new
      (All-weaker (IsRecord m file v) (IsRecord m file w)
      (λ r k. record { script = k.script; transaction = k.transaction; told = told_later m v w (meaning_of k.script) r.replies r.verdict added.grows k.told }) rs h.each)
      (All-weaker (IsAdded m v w (meaning_of s) place) (IsRecord m file w)
      (λ r a. record { script = s; transaction = ap (transaction_at file) a.placed ∙ at; told = a.told }) new added.each);
}
  where
    elsewhere : (q : TransactionPlace) → (q ≡ place → ⊥) → aborted_times q new ≡ 0
    elsewhere q other =
        none_aborted q new (every_weaker (IsAdded m v w (meaning_of s) place) (λ (r : Record). r.place.0 ≡ q.0 → r.place.1 ≡ q.1 → ⊥)
        (λ r a e g. other (λ i. (sym (sym (ap (λ (x : TransactionPlace). x.0) a.placed) ∙ e) i, sym (sym (ap (λ (x : TransactionPlace). x.1) a.placed) ∙ g) i))) new
        (every (IsAdded m v w (meaning_of s) place) new added.each))

    -- no record is of a later transaction of the thread
    none_later : (q : TransactionPlace) → place.0 ≡ q.0 → place.1 < q.1 → aborted_times q rs ≡ 0
    none_later q own low =
        none_aborted q rs (every_weaker (λ (r : Record). r.place.0 ≡ place.0 → (r.place.1 ≤ place.1) × (r.place.1 ≡ place.1 → is_abort r.verdict ≡ true)) (λ (r : Record). r.place.0 ≡ q.0 → r.place.1 ≡ q.1 → ⊥)
        (λ r may e g. absurd (let l = (may (e ∙ sym own)).0 in omega (arith, l, g, low))) rs comes)

    -- the first position is 1
    none_at_zero : (q : TransactionPlace) → q.1 ≡ 0 → aborted_times q rs ≡ 0
    none_at_zero q first = none_aborted q rs (every_weaker (IsRecord m file v) (λ (r : Record). r.place.0 ≡ q.0 → r.place.1 ≡ q.1 → ⊥)
        (λ r k e g. no_position_zero file r.place k.script (g ∙ first) k.transaction) rs (every (IsRecord m file v) rs h.each))

    later_new : (p q : TransactionPlace) → q ≡ place → p.0 ≡ q.0 → p.1 < q.1 → aborted_times p rs ≡ tries → aborted_times q new ≡ 0
    later_new p q same own low used = ap (λ (x : TransactionPlace). aborted_times x new) same ∙ elim (cases_eq p.1 0) [
      | inl first ↦ (let a = none_at_zero p first in omega (arith, few, used, a))
      | inr some ↦ spare p.1 (omega (arith, some)) (let e = ap (λ (x : TransactionPlace). x.1) same in omega (arith, low, e))
          (subst (λ (t : ℕ). aborted_times (t, p.1) rs ≡ tries) (own ∙ ap (λ (x : TransactionPlace). x.0) same) used)
    ]

    handed : HandsBack tries (rs ++ new)
    handed p q own low used =
        let both_p = aborted_append p rs new in let both_q = aborted_append q rs new in elim (same_place p place) [
          | inl same ↦
              let own_q : place.0 ≡ q.0 = sym (ap (λ (x : TransactionPlace). x.0) same) ∙ own in
              let low_q : place.1 < q.1 = let e = ap (λ (x : TransactionPlace). x.1) same in omega (arith, low, e) in
              let old = none_later q own_q low_q in
              let none = elsewhere q (λ is. absurd (let e = ap (λ (x : TransactionPlace). x.1) is in omega (arith, e, low_q))) in
              omega (arith, both_q, old, none)
          | inr other ↦
              let none_p = elsewhere p other in
              let used_old : aborted_times p rs ≡ tries = omega (arith, both_p, none_p, used) in
              let old = h.handed p q own low used_old in elim (same_place q place) [
                | inl same ↦ (let none = later_new p q same own low used_old in omega (arith, both_q, old, none))
                | inr apart ↦ (let none = elsewhere q apart in omega (arith, both_q, old, none))
              ]
        ]

    few_more : (q : TransactionPlace) → aborted_times q (rs ++ new) ≤ tries
    few_more q = elim (same_place q place) [
      | inl same ↦
          let all = aborted_append q rs new in
          let old = ap (λ (x : TransactionPlace). aborted_times x rs) same in let here = ap (λ (x : TransactionPlace). aborted_times x new) same in omega (arith, all, old, here, few)
      | inr other ↦
          let none = elsewhere q other in
          let all = aborted_append q rs new in let k = h.few q in omega (arith, all, none, k)
    ]

-- no record of the place so far
abbrev pub IsNew : TransactionPlace → List Record → Type 0
IsNew place rs = Every (λ (r : Record). r.place.0 ≡ place.0 → r.place.1 < place.1) rs

-- the transactions that ended, with the last record of a run

pub finished_append : (xs ys : List Record) → finished_places (xs ++ ys) ≡ finished_places xs ++ finished_places ys
finished_append xs ys = ap (map (λ (r : Record). r.place)) (filter-append is_finished xs ys) ∙ map-append (λ (r : Record). r.place) (filter is_finished xs) (filter is_finished ys)

pub positions_append : (thread : ℕ) (xs ys : List TransactionPlace) → positions_of thread (xs ++ ys) ≡ positions_of thread xs ++ positions_of thread ys
positions_append thread [] ys = refl
positions_append thread (x ∷ xs) ys = by (x.0 == thread) (positions_append thread xs ys)
  where
    by : (b : Bool) → positions_of thread (xs ++ ys) ≡ positions_of thread xs ++ positions_of thread ys
        → cond b (x.1 ∷ positions_of thread (xs ++ ys)) (positions_of thread (xs ++ ys)) ≡ cond b (x.1 ∷ positions_of thread xs) (positions_of thread xs) ++ positions_of thread ys
    by true k = ap (λ (l : List ℕ). x.1 ∷ l) k
    by false k = k

pub numbers_more : (first count : ℕ) → numbers_from first (suc count) ≡ numbers_from first count ++ (first + count) ∷ []
numbers_more first zero = let e : first ≡ first + 0 = omega arith in ap (λ (n : ℕ). n ∷ []) e
numbers_more first (suc count) =
    let e : suc first + count ≡ first + suc count = omega arith in
    ap (λ (l : List ℕ). first ∷ l) (numbers_more (suc first) count ∙ ap (λ (n : ℕ). numbers_from (suc first) count ++ n ∷ []) e)

-- Where the first so many transactions of a thread have ended and the next ends, one more has; and nothing changes for other threads.
pub ended_more : (rs new : List Record) (place : TransactionPlace) (thread count : ℕ) → finished_places new ≡ place ∷ [] → place.1 ≡ suc count → place.0 ≡ thread
    → positions_of thread (finished_places rs) ≡ numbers_from 1 count → positions_of thread (finished_places (rs ++ new)) ≡ numbers_from 1 (suc count)
ended_more rs new place thread count is next own h =
    ap (positions_of thread) (finished_append rs new)
    ∙ positions_append thread (finished_places rs) (finished_places new)
    ∙ ap (λ (l : List TransactionPlace). positions_of thread (finished_places rs) ++ positions_of thread l) is
    ∙ ap (λ (b : Bool). positions_of thread (finished_places rs) ++ cond b (place.1 ∷ []) []) (eq-eqb place.0 thread own)
    ∙ ap (λ (l : List ℕ). l ++ place.1 ∷ []) h
    ∙ ap (λ (n : ℕ). numbers_from 1 count ++ n ∷ []) (let e : suc count ≡ 1 + count = omega arith in next ∙ e)
    ∙ sym (numbers_more 1 count)
