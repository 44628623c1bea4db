-- The words that are put are those that the updates change.
use Rattle.std.proofs.Common.{◌≡◌, ◌<◌, ◌≤◌, ◌+◌, ◌⊎◌, ℕ, zero, suc, true, false, nat_eq, List, [], ◌∷◌, ◌++◌, length, map, refl, ap, sym, ◌∙◌, subst, arith, inl, inr, slice_index_or, eqb-true, eq-eqb}
use Rattle.std.proofs.lemmas.Bool.{cases_Bool}
use Rattle.std.proofs.lemmas.Bool.Decides.{nat_tests}
use Rattle.sto_part.specs.Listed.{Listed}
use Rattle.sto_part.specs.Parts.{part_of}
use Rattle.sto_part.specs.declared.change.Change.{Change}
use Rattle.sto_part.specs.declared.change.Change.TheVariants.{Keep}
use Rattle.sto_item.specs.Pending.{plain, changes_of, change_at, is_keep, IsRisingFrom}
use Rattle.sto_item.specs.Agreement.{HasWidths}
use Rattle.sto_core.specs.Lists.{Each, Among}
use Rattle.sto_core.specs.History.{writes}
use Rattle.sto_type.specs.Known.{Parts}
use Rattle.sto_attempt_log.specs.CommitPhases.{IsPlace}
use Rattle.sto_attempt_log.specs.Gathering.{places_at, places_in}
use Rattle.sto_attempt_log.proofs.Gathering.{among_first, among_rest, among_none, among_cases}
use Rattle.sto_attempt_log.proofs.Planning.{width_at, widths_of}

pub record IsChanged (p i : ℕ) (cs : List Change) (x : ℕ × ℕ) : Type 0 where
  pub k : ℕ
  pub on : x ≡ (p, i + k)
  pub changes : is_keep (slice_index_or cs k Keep) ≡ false

at_later : (p i : ℕ) (c : Change) (cs : List Change) (x : ℕ × ℕ) → IsChanged p (suc i) cs x → IsChanged p i (c ∷ cs) x
at_later p i c cs x h = record { k = suc h.k; on = h.on ∙ ap (λ (n : ℕ). (p, n)) (omega arith); changes = h.changes }

at_cases : (p i : ℕ) (cs : List Change) (x : ℕ × ℕ) → Among x (places_at p i cs) → IsChanged p i cs x
at_cases p i [] x a = absurd (among_none x a)
at_cases p i (c ∷ cs) x a =
    elim (cases_Bool (is_keep c)) [
      | inl kept ↦ at_later p i c cs x (at_cases p (suc i) cs x (rw kept at a))
      | inr new ↦
          elim (among_cases x (p, i) (places_at p (suc i) cs) (rw new at a)) [
            | inl here ↦ record { k = 0; on = sym here ∙ ap (λ (n : ℕ). (p, n)) (omega arith); changes = new }
            | inr there ↦ at_later p i c cs x (at_cases p (suc i) cs x there)
          ]
    ]

at_new : (p i : ℕ) (cs : List Change) (k : ℕ) → is_keep (slice_index_or cs k Keep) ≡ false → (n : ℕ) → n ≡ i + k → Among (p, n) (places_at p i cs)
at_new p i [] k e n is = cc
at_new p i (c ∷ cs) zero e n is = let same : n ≡ i = omega (arith, is) in rw e (subst (λ (m : ℕ). Among (p, n) ((p, m) ∷ places_at p (suc i) cs)) same (among_first (p, n) (places_at p (suc i) cs)))
at_new p i (c ∷ cs) (suc k) e n is =
    let rest = at_new p (suc i) cs k e n (omega (arith, is)) in
    elim (cases_Bool (is_keep c)) [
      | inl kept ↦ rw kept rest
      | inr new ↦ rw new (among_rest (p, n) (p, i) (places_at p (suc i) cs) rest)
    ]

among_left : {A : Type 0} (x : A) (xs ys : List A) → Among x xs → Among x (xs ++ ys)
among_left x [] ys a = absurd (among_none x a)
among_left x (y ∷ xs) ys a =
    elim (among_cases x y xs a) [
      | inl here ↦ subst (λ z. Among z (y ∷ xs ++ ys)) here (among_first y (xs ++ ys))
      | inr there ↦ among_rest x y (xs ++ ys) (among_left x xs ys there)
    ]

among_right : {A : Type 0} (x : A) (xs ys : List A) → Among x ys → Among x (xs ++ ys)
among_right x [] ys a = a
among_right x (y ∷ xs) ys a = among_rest x y (xs ++ ys) (among_right x xs ys a)

among_split : {A : Type 0} (x : A) (xs ys : List A) → Among x (xs ++ ys) → Among x xs ⊎ Among x ys
among_split x [] ys a = inr a
among_split x (y ∷ xs) ys a =
    elim (among_cases x y (xs ++ ys) a) [
      | inl here ↦ inl (subst (λ z. Among z (y ∷ xs)) here (among_first y xs))
      | inr there ↦ elim (among_split x xs ys there) [ inl l ↦ inl (among_rest x y xs l) | inr r ↦ inr r ]
    ]

in_cases : (ys : List (ℕ × Listed Change)) (x : ℕ × ℕ) → Among x (places_in ys) → (u : ℕ × Listed Change) × Among u ys × Among x (places_at u.0 0 u.1.items)
in_cases [] x a = absurd (among_none x a)
in_cases (y ∷ ys) x a =
    elim (among_split x (places_at y.0 0 y.1.items) (places_in ys) a) [
      | inl here ↦ (y, among_first y ys, here)
      | inr there ↦ let r = in_cases ys x there in (r.0, among_rest r.0 y ys r.1, r.2)
    ]

-- a word that is not kept is one of an update
in_new : (ys : List (ℕ × Listed Change)) (p i : ℕ) → is_keep (change_at (map plain ys) p i) ≡ false → Among (p, i) (places_in ys)
in_new [] p i e = cc
in_new (y ∷ ys) p i e =
    elim (cases_Bool (nat_eq y.0 p)) [
      | inl hit ↦
          among_left (p, i) (places_at y.0 0 y.1.items) (places_in ys)
          (subst (λ (k : ℕ). Among (k, i) (places_at y.0 0 y.1.items)) (eqb-true y.0 p hit) (at_new y.0 0 y.1.items i (rw hit at e) i (omega arith)))
      | inr miss ↦ among_right (p, i) (places_at y.0 0 y.1.items) (places_in ys) (in_new ys p i (rw miss at e))
    ]

-- an update is the one of its part
later : (n : ℕ) (ys : List (ℕ × Listed Change)) (u : ℕ × Listed Change) → IsRisingFrom n (map plain ys) → Among u ys → n ≤ u.0
later n [] u r a = absurd (among_none u a)
later n (y ∷ ys) u r a =
    elim (among_cases u y ys a) [
      | inl here ↦ subst (λ (z : ℕ × Listed Change). n ≤ z.0) here r.0
      | inr there ↦ let l = later (y.0 + 1) ys u r.1 there in omega (arith, l, r.0)
    ]

own_changes : (n : ℕ) (ys : List (ℕ × Listed Change)) (u : ℕ × Listed Change) → IsRisingFrom n (map plain ys) → Among u ys → changes_of (map plain ys) u.0 ≡ u.1.items
own_changes n [] u r a = absurd (among_none u a)
own_changes n (y ∷ ys) u r a =
    elim (among_cases u y ys a) [
      | inl here ↦ subst (λ (z : ℕ × Listed Change). changes_of (map plain (y ∷ ys)) z.0 ≡ z.1.items) here (rw (eq-eqb y.0 y.0 refl) refl)
      | inr there ↦
          elim (cases_Bool (nat_eq y.0 u.0)) [
            | inl hit ↦ let l = later (y.0 + 1) ys u r.1 there in absurd (grind (arith, nat_tests, l, hit))
            | inr miss ↦ rw miss (own_changes (y.0 + 1) ys u r.1 there)
          ]
    ]

pub own_writes : (ys : List (ℕ × Listed Change)) (u : ℕ × Listed Change) → Among u ys → writes (map plain ys) u.0 ≡ true
own_writes [] u a = absurd (among_none u a)
own_writes (y ∷ ys) u a =
    elim (among_cases u y ys a) [
      | inl here ↦ rw (eq-eqb y.0 u.0 (ap (λ (z : ℕ × Listed Change). z.0) here)) refl
      | inr there ↦ elim (cases_Bool (nat_eq y.0 u.0)) [ inl hit ↦ rw hit refl | inr miss ↦ rw miss (own_writes ys u there) ]
    ]

in_list : (cs : List Change) (k : ℕ) → is_keep (slice_index_or cs k Keep) ≡ false → k < length cs
in_list [] k e = cc
in_list (c ∷ cs) zero e = omega arith
in_list (c ∷ cs) (suc k) e = omega (arith, in_list cs k e)

module _ (xs : List (ℕ × Listed Change)) (widths : List ℕ) (d : Parts) (same : map length d ≡ widths) (fit : HasWidths (map plain xs) d) (rising : IsRisingFrom 0 (map plain xs)) where
  one_place : (u : ℕ × Listed Change) → Among u xs → (k : ℕ) → is_keep (slice_index_or u.1.items k Keep) ≡ false → IsPlace widths (map plain xs) (u.0, k)
  one_place u a k c =
      let at : slice_index_or widths u.0 0 ≡ length (part_of d u.0) = ap (λ (l : List ℕ). slice_index_or l u.0 0) (sym same) ∙ width_at d u.0 in
      let long = widths_of xs d fit u a in
      let short = in_list u.1.items k c in
      record {
        written = own_writes xs u a;
        changes = ap (λ (l : List Change). is_keep (slice_index_or l k Keep)) (own_changes 0 xs u rising a) ∙ c;
        within = omega (arith, at, long, short);
      }

  pub plan_places : Each (IsPlace widths (map plain xs)) (places_in xs)
  plan_places j x e =
      let u = in_cases xs x (j, e) in
      let h = at_cases u.0.0 0 u.0.1.items x u.2 in
      let from : (0 + h.k) ≡ h.k = omega arith in
      subst (IsPlace widths (map plain xs)) (sym (h.on ∙ ap (λ (n : ℕ). (u.0.0, n)) from)) (one_place u.0 u.1 h.k h.changes)

pub plan_all : (xs : List (ℕ × Listed Change)) (widths : List ℕ) (x : ℕ × ℕ) → IsPlace widths (map plain xs) x → Among x (places_in xs)
plan_all xs widths x h = in_new xs x.0 x.1 h.changes
