-- Aborted attempts in their order, with one more.
use Rattle.std.proofs.Common.{◌≡◌, ◌⊎◌, ℕ, ◌+◌, ◌<◌, ◌≤◌, List, [], ◌∷◌, ◌++◌, refl, sym, ap, ◌∙◌, subst, Bool, true, false, cond, ◌==◌, ◌&&◌, Option, None, Some, arith, inl, inr, IfSome}
use Rattle.std.proofs.lemmas.Bool.{cases_eq, cases_order}
use Rattle.std.proofs.lemmas.Bool.Decides.{nat_tests}
use Rattle.std.proofs.lemmas.List.Sums.{sum_by-cons}
use Rattle.sto_report_spec.specs.Orders.{TransactionPlace as Place}
use Rattle.sto_report_spec.specs.Aborts.{Abort}
use Rattle.sto_report_spec.specs.LawfulAborts.{MayPrecede, IsSorted, HandsBack, count_at, known_at_end}
use Rattle.sto_checker.specs.declared.last.LastAbort.{LastAbort}
use Rattle.sto_checker.specs.declared.transaction.TransactionPlace.{TransactionPlace}
use Rattle.sto_checker.specs.Reading.{place_of}
use Rattle.sto_checker.specs.Last.{IsLast, IsFollowed, MayFollow}

-- sorted lists with one more at their end

pub sorted_more : (xs : List Abort) (a b : Abort) → IsSorted (xs ++ a ∷ []) → MayPrecede a b → IsSorted (xs ++ a ∷ b ∷ [])
sorted_more [] a b h m = (m, tt)
sorted_more (x ∷ []) a b h m = (h.0, (m, tt))
sorted_more (x ∷ y ∷ xs) a b h m = (h.0, sorted_more (y ∷ xs) a b h.1 m)

pub last_two : (xs : List Abort) (a b : Abort) → IsSorted (xs ++ a ∷ b ∷ []) → MayPrecede a b
last_two [] a b h = h.0
last_two (x ∷ []) a b h = h.1.0
last_two (x ∷ y ∷ xs) a b h = last_two (y ∷ xs) a b h.1

pub regroup : (xs : List Abort) (a b : Abort) → (xs ++ a ∷ []) ++ b ∷ [] ≡ xs ++ a ∷ b ∷ []
regroup [] a b = refl
regroup (x ∷ xs) a b = ap (λ (l : List Abort). x ∷ l) (regroup xs a b)

-- a place is not behind another
abbrev pub IsUpTo : Place → Place → Type 0
IsUpTo p q = (p.0 < q.0) ⊎ ((p.0 ≡ q.0) × (p.1 ≤ q.1))

precedes_up : (a b : Abort) → MayPrecede a b → IsUpTo a.place b.place
precedes_up a b (inl h) = inl h
precedes_up a b (inr (inl h)) = inr (h.0, (let l = h.1 in omega (arith, l)))
precedes_up a b (inr (inr h)) = inr (ap (λ (p : Place). p.0) h.0, (let e = ap (λ (p : Place). p.1) h.0 in omega (arith, e)))

up_through : (p q r : Place) → IsUpTo p q → IsUpTo q r → IsUpTo p r
up_through p q r (inl h) (inl k) = inl (omega (arith, h, k))
up_through p q r (inl h) (inr k) = inl (let e = k.0 in omega (arith, h, e))
up_through p q r (inr h) (inl k) = inl (let e = h.0 in omega (arith, k, e))
up_through p q r (inr h) (inr k) = inr (h.0 ∙ k.0, (let l = h.1 in let m = k.1 in omega (arith, l, m)))

abbrev AllUpTo : List Abort → Place → Type 0
AllUpTo [] p = Unit {0}
AllUpTo (x ∷ xs) p = IsUpTo x.place p × AllUpTo xs p

self_up : (p : Place) → IsUpTo p p
self_up p = inr (refl, omega arith)

sorted_up : (xs : List Abort) (a : Abort) → IsSorted (xs ++ a ∷ []) → AllUpTo (xs ++ a ∷ []) a.place
sorted_up [] a h = (self_up a.place, tt)
sorted_up (x ∷ []) a h = (precedes_up x a h.0, (self_up a.place, tt))
sorted_up (x ∷ y ∷ xs) a h =
    let more = sorted_up (y ∷ xs) a h.1 in
    (up_through x.place y.place a.place (precedes_up x y h.0) more.0, more)

-- a place behind another
abbrev pub IsBehind : Place → Place → Type 0
IsBehind p q = (p.0 < q.0) ⊎ ((p.0 ≡ q.0) × (p.1 < q.1))

differs : (x p q : Place) → IsUpTo x p → IsBehind p q → ((x.0 == q.0) && (x.1 == q.1)) ≡ false
differs x p q (inl h) (inl k) = grind (arith, nat_tests)
differs x p q (inl h) (inr k) = let e = k.0 in grind (arith, nat_tests)
differs x p q (inr h) (inl k) = let e = h.0 in grind (arith, nat_tests)
differs x p q (inr h) (inr k) = let e = h.0 in let f = k.0 in let l = h.1 in let m = k.1 in grind (arith, nat_tests)

pub count_cons : (x : Abort) (xs : List Abort) (q : Place) → count_at q (x ∷ xs) ≡ count_at q xs + cond ((x.place.0 == q.0) && (x.place.1 == q.1)) 1 0
count_cons x xs q = omega (arith, sum_by-cons (λ (a : Abort). cond ((a.place.0 == q.0) && (a.place.1 == q.1)) 1 0) x xs)

-- none is of a place behind all of them
none_at : (xs : List Abort) (p q : Place) → AllUpTo xs p → IsBehind p q → count_at q xs ≡ 0
none_at [] p q h k = refl
none_at (x ∷ xs) p q h k =
    let here = ap (λ (b : Bool). cond {A = ℕ} b 1 0) (differs x.place p q h.0 k) in
    let more = none_at xs p q h.1 k in
    let cons = count_cons x xs q in
    omega (arith, here, more, cons)

pub count_more : (xs : List Abort) (a : Abort) (q : Place) → count_at q (xs ++ a ∷ []) ≡ count_at q xs + count_at q (a ∷ [])
count_more [] a q = omega arith
count_more (x ∷ xs) a q =
    let h = count_more xs a q in
    let long = count_cons x (xs ++ a ∷ []) q in
    let short = count_cons x xs q in
    omega (arith, h, long, short)

same_place : (p : Place) → ((p.0 == p.0) && (p.1 == p.1)) ≡ true
same_place p = grind (arith, nat_tests)

count_own : (a : Abort) → count_at a.place (a ∷ []) ≡ 1
count_own a =
    let here = ap (λ (b : Bool). cond {A = ℕ} b 1 0) (same_place a.place) in
    let cons = count_cons a [] a.place in
    omega (arith, here, cons)

pub one_more_own : (xs : List Abort) (a : Abort) → count_at a.place (xs ++ a ∷ []) ≡ count_at a.place xs + 1
one_more_own xs a = let m = count_more xs a a.place in let o = count_own a in omega (arith, m, o)

-- the first of a place behind the last
pub first_own : (xs : List Abort) (l a : Abort) → IsSorted (xs ++ l ∷ []) → IsBehind l.place a.place → count_at a.place ((xs ++ l ∷ []) ++ a ∷ []) ≡ 1
first_own xs l a h k =
    let none = none_at (xs ++ l ∷ []) l.place a.place (sorted_up xs l h) k in
    let one = one_more_own (xs ++ l ∷ []) a in
    omega (arith, none, one)

-- Of transactions of one thread that used up their tries, with one more line.

places_equal : (p q : Place) → (p ≡ q) ⊎ (((p.0 == q.0) && (p.1 == q.1)) ≡ false)
places_equal p q = elim (cases_eq p.0 q.0) [
  | inl e ↦ elim (cases_eq p.1 q.1) [
    | inl g ↦ inl (λ i. (e i, g i))
    | inr n ↦ inr (grind (arith, nat_tests))
  ]
  | inr n ↦ inr (grind (arith, nat_tests))
]

other_count : (xs : List Abort) (a : Abort) (q : Place) → ((a.place.0 == q.0) && (a.place.1 == q.1)) ≡ false → count_at q (xs ++ a ∷ []) ≡ count_at q xs
other_count xs a q other =
    let more = count_more xs a q in
    let one = count_cons a [] q in
    let none = ap (λ (b : Bool). cond {A = ℕ} b 1 0) other in omega (arith, more, one, none)

earlier_other : (p q : Place) → p.1 < q.1 → ((q.0 == p.0) && (q.1 == p.1)) ≡ false
earlier_other p q l = grind (arith, nat_tests)

handed_more : (tries : ℕ) (xs : List Abort) (a : Abort) → HandsBack tries xs → ((p : Place) → p.0 ≡ a.place.0 → p.1 < a.place.1 → count_at p xs ≡ tries → ⊥)
    → ((q : Place) → a.place.0 ≡ q.0 → a.place.1 < q.1 → count_at q xs ≡ 0) → HandsBack tries (xs ++ a ∷ [])
handed_more tries xs a h spare none p q own low used = elim (places_equal a.place q) [
  | inl here ↦
      let own_p : p.0 ≡ a.place.0 = own ∙ sym (ap (λ (x : Place). x.0) here) in
      let low_p : p.1 < a.place.1 = let e = ap (λ (x : Place). x.1) here in omega (arith, low, e) in
      absurd (spare p own_p low_p (sym (other_count xs a p (earlier_other p a.place low_p)) ∙ used))
  | inr other ↦ other_count xs a q other ∙ elim (places_equal a.place p) [
    | inl here ↦ none q (ap (λ (x : Place). x.0) here ∙ own) (let e = ap (λ (x : Place). x.1) here in omega (arith, low, e))
    | inr apart ↦ h p q own low (sym (other_count xs a p apart) ∙ used)
  ]
]

-- the first of all lines
pub first_some : (before : List Abort) (a : Abort) (at : TransactionPlace) (known tries : ℕ) → 1 ≤ tries → before ≡ [] → a.place ≡ place_of at → known_at_end a ≡ known
    → IsFollowed before a tries (Some (record { at = at; known = known; count = 1 }))
first_some before a at known tries one is p n = subst (λ (l : List Abort). IsFollowed l a tries (Some (record { at = at; known = known; count = 1 }))) (sym is) (
  (let c = count_own a in omega (arith, c, one)),
  tt,
  record {
    before = [];
    abort = a;
    are = refl;
    place = p;
    known = n;
    count = count_own a;
    handed = handed_more tries [] a (λ p q own low used. refl) (λ p own low used. absurd (omega (arith, used, one))) (λ q own low. refl);
    sorted = tt;
  },
)

module _ (before : List Abort) (a : Abort) (last : LastAbort) (at : TransactionPlace) (seen known tries : ℕ) (h : IsLast tries before last) (p : a.place ≡ place_of at) (s : a.seen ≡ seen) (n : known_at_end a ≡ known) where
  whole : before ++ a ∷ [] ≡ (h.before ++ h.abort ∷ []) ++ a ∷ []
  whole = ap (λ (l : List Abort). l ++ a ∷ []) h.are

  follows : MayPrecede h.abort a → IsSorted (before ++ a ∷ [])
  follows m = subst IsSorted (sym (whole ∙ regroup h.before h.abort a)) (sorted_more h.before h.abort a (subst IsSorted h.are h.sorted) m)

  followed : IsSorted (before ++ a ∷ []) → MayPrecede h.abort a
  followed g = last_two h.before h.abort a (subst IsSorted (whole ∙ regroup h.before h.abort a) g)

  -- the last line is one of its transaction, which stands before all later ones
  own_some : count_at h.abort.place before ≡ 0 → ⊥
  own_some none = absurd (let e = ap (λ (l : List Abort). count_at h.abort.place l) h.are in let o = one_more_own h.before h.abort in omega (arith, e, o, none))

  none_behind : (q : Place) → IsBehind h.abort.place q → count_at q before ≡ 0
  none_behind q k = ap (λ (l : List Abort). count_at q l) h.are ∙ none_at (h.before ++ h.abort ∷ []) h.abort.place q (sorted_up h.before h.abort (subst IsSorted h.are h.sorted)) k

  -- one more of the same transaction
  module _ (t : last.at.thread ≡ at.thread) (q : last.at.position ≡ at.position) where
    one_place : h.abort.place ≡ a.place
    one_place = h.place ∙ (λ i. (t i, q i)) ∙ sym p

    count_again : count_at a.place (before ++ a ∷ []) ≡ last.count + 1
    count_again =
        let more = one_more_own before a in
        let own = ap (λ (x : Place). count_at x before) (sym one_place) ∙ h.count in
        omega (arith, more, own)

    handed_again : HandsBack tries (before ++ a ∷ [])
    handed_again = handed_more tries before a h.handed
        (λ x own low used. own_some (ap (λ (y : Place). count_at y before) one_place ∙ h.handed x a.place own low used))
        (λ q own low. none_behind q (inr (ap (λ (x : Place). x.0) one_place ∙ own, (let e = ap (λ (x : Place). x.1) one_place in omega (arith, e, low)))))

    pub again_some : last.known ≤ seen → last.count < tries → IsFollowed before a tries (Some (record { at = last.at; known = known; count = last.count + 1 }))
    again_some l k =
        let sorted = follows (inr (inr (one_place, (let e = h.known in omega (arith, l, e, s))))) in (
          (let c = count_again in omega (arith, c, k)),
          sorted,
          record { before = before; abort = a; are = refl; place = sym one_place ∙ h.place; known = n; count = count_again; handed = handed_again; sorted = sorted },
        )

    pub again_none : (last.known ≤ seen → last.count < tries → ⊥) → IsFollowed before a tries None
    again_none wrong few handed sorted = by (followed sorted)
      where
        by : MayPrecede h.abort a → ⊥
        by (inl l) = let e = ap (λ (x : Place). x.0) one_place in absurd (omega (arith, l, e))
        by (inr (inl l)) = let e = ap (λ (x : Place). x.1) one_place in let m = l.1 in absurd (omega (arith, m, e))
        by (inr (inr l)) = wrong (let m = l.1 in let e = h.known in omega (arith, m, e, s)) (let c = count_again in omega (arith, c, few))

    pub again_either : (r : Option LastAbort) → (r ≡ None → last.known ≤ seen → last.count < tries → ⊥)
        → IfSome r (λ (l : LastAbort). (last.known ≤ seen) × (last.count < tries) × (l ≡ record { at = last.at; known = known; count = last.count + 1 })) → IsFollowed before a tries r
    again_either None wrong k = again_none (wrong refl)
    again_either (Some l) wrong k = subst (λ (x : LastAbort). IsFollowed before a tries (Some x)) (sym k.2) (again_some k.0 k.1)

  thread_is : h.abort.place.0 ≡ last.at.thread
  thread_is = ap (λ (x : Place). x.0) h.place

  position_is : h.abort.place.1 ≡ last.at.position
  position_is = ap (λ (x : Place). x.1) h.place

  own_thread : a.place.0 ≡ at.thread
  own_thread = ap (λ (x : Place). x.0) p

  own_position : a.place.1 ≡ at.position
  own_position = ap (λ (x : Place). x.1) p

  -- the first of a later transaction
  behind_by : MayFollow last at tries → IsBehind h.abort.place a.place
  behind_by (inl l) = inl (omega (arith, l, thread_is, own_thread))
  behind_by (inr l) = inr (thread_is ∙ l.0 ∙ sym own_thread, (let m = l.1 in omega (arith, m, position_is, own_position)))

  precede_by : MayFollow last at tries → MayPrecede h.abort a
  precede_by (inl l) = inl (omega (arith, l, thread_is, own_thread))
  precede_by (inr l) = inr (inl (thread_is ∙ l.0 ∙ sym own_thread, (let m = l.1 in omega (arith, m, position_is, own_position))))

  -- no earlier one of its thread has used up the tries
  spare_by : 1 ≤ tries → MayFollow last at tries → (x : Place) → x.0 ≡ a.place.0 → x.1 < a.place.1 → count_at x before ≡ tries → ⊥
  spare_by one (inl l) x own low used = absurd (let none = none_behind x (inl (omega (arith, l, thread_is, own_thread, own))) in omega (arith, none, used, one))
  spare_by one (inr l) x own low used =
      let same : x.0 ≡ h.abort.place.0 = own ∙ own_thread ∙ sym (thread_is ∙ l.0) in elim (cases_order x.1 h.abort.place.1) [
        | inl e ↦ l.2 (sym h.count ∙ ap (λ (y : Place). count_at y before) (λ i. (sym same i, sym e i)) ∙ used)
        | inr (inl m) ↦ own_some (h.handed x h.abort.place same m used)
        | inr (inr m) ↦ absurd (let none = none_behind x (inr (sym same, m)) in omega (arith, none, used, one))
      ]

  none_by : MayFollow last at tries → (q : Place) → a.place.0 ≡ q.0 → a.place.1 < q.1 → count_at q before ≡ 0
  none_by (inl l) q own low = none_behind q (inl (omega (arith, l, thread_is, own_thread, own)))
  none_by (inr l) q own low = none_behind q (inr (thread_is ∙ l.0 ∙ sym own_thread ∙ own, (let m = l.1 in omega (arith, m, position_is, own_position, low))))

  pub later_some : 1 ≤ tries → MayFollow last at tries → IsFollowed before a tries (Some (record { at = at; known = known; count = 1 }))
  later_some one k =
      let sorted = follows (precede_by k) in
      let count = ap (λ (l : List Abort). count_at a.place l) whole ∙ first_own h.before h.abort a (subst IsSorted h.are h.sorted) (behind_by k) in (
        omega (arith, count, one),
        sorted,
        record {
          before = before;
          abort = a;
          are = refl;
          place = p;
          known = n;
          count = count;
          handed = handed_more tries before a h.handed (spare_by one k) (none_by k);
          sorted = sorted;
        },
      )

  -- where the last one has used up the tries, none of its thread may follow
  used_up : HandsBack tries (before ++ a ∷ []) → h.abort.place.0 ≡ a.place.0 → h.abort.place.1 < a.place.1 → last.count ≡ tries → ⊥
  used_up handed own low all =
      let still = other_count before a h.abort.place (earlier_other h.abort.place a.place low) in
      let none = handed h.abort.place a.place own low (still ∙ h.count ∙ all) in
      absurd (let o = one_more_own before a in omega (arith, none, o))

  pub later_none : ((last.at.thread ≡ at.thread) → (last.at.position ≡ at.position) → ⊥) → (MayFollow last at tries → ⊥) → IsFollowed before a tries None
  later_none other wrong few handed sorted = by (followed sorted)
    where
      by : MayPrecede h.abort a → ⊥
      by (inl l) = wrong (inl (omega (arith, l, thread_is, own_thread)))
      by (inr (inl l)) = wrong (inr (sym thread_is ∙ l.0 ∙ own_thread, (let m = l.1 in omega (arith, m, position_is, own_position)), used_up handed l.0 l.1))
      by (inr (inr l)) = other (sym thread_is ∙ ap (λ (x : Place). x.0) l.0 ∙ own_thread) (sym position_is ∙ ap (λ (x : Place). x.1) l.0 ∙ own_position)
