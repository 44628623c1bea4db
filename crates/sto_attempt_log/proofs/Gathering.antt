-- The lists that a commit is led by: their order, and what stands in them.
use Rattle.std.proofs.Common.{◌≡◌, ◌<◌, ◌⊎◌, ℕ, zero, suc, true, false, nat_eq, nat_lt, Option, Some, None, List, [], ◌∷◌, length, drop, refl, ap, sym, ◌∙◌, subst, arith, inl, inr, slice_get, eqb-true}
use Rattle.std.proofs.lemmas.Bool.{cases_Bool}
use Rattle.std.proofs.lemmas.Bool.Decides.{nat_tests}
use Rattle.std.proofs.lemmas.Option.{get_or_from_slice_get}
use mathlib.Core.Option.{some, some-ne-none, some-injective}
use lib.ListN.{get_elem?}
use Rattle.sto_part.specs.declared.change.Change.{Change}
use Rattle.sto_item.specs.Pending.{is_keep}
use Rattle.sto_item.specs.Places.{with_part}
use Rattle.sto_core.specs.Lists.{Among}
use Rattle.sto_core.specs.Allowed.{Rises, RisesFrom}
use Rattle.sto_attempt_log.specs.Gathering.{with_maybe, gathered, places_at}
use Rattle.sto_attempt_log.proofs.Listing.{drop_next}

module _ (p w : ℕ) (cs : List Change) (c : Change) (h : w < length cs) (get : slice_get cs w ≡ Some c) where
  next_change : drop w cs ≡ c ∷ drop (suc w) cs
  next_change = drop_next cs w c h (sym (get_or_from_slice_get cs w c c get))

  pub place_kept : is_keep c ≡ true → (n : ℕ) → n ≡ suc w → places_at p w (drop w cs) ≡ places_at p n (drop n cs)
  place_kept k n e = rw (e, next_change, k) refl

  pub place_more : is_keep c ≡ false → (n : ℕ) → n ≡ suc w → places_at p w (drop w cs) ≡ (p, w) ∷ places_at p n (drop n cs)
  place_more k n e = rw (e, next_change, k) refl

-- what stands in a list, from its front
pub among_first : {A : Type 0} (x : A) (xs : List A) → Among x (x ∷ xs)
among_first x xs = (zero, refl)

pub among_rest : {A : Type 0} (x y : A) (xs : List A) → Among x xs → Among x (y ∷ xs)
among_rest x y xs a = (suc a.0, a.1)

pub among_none : {A : Type 0} (x : A) → Among x [] → ⊥
among_none x a = some-ne-none x (sym a.1)

among_at : {A : Type 0} (x y : A) (xs : List A) (j : ℕ) → get_elem? (y ∷ xs) j ≡ some x → (y ≡ x) ⊎ Among x xs
among_at x y xs zero e = inl (some-injective y x e)
among_at x y xs (suc j) e = inr (j, e)

pub among_cases : {A : Type 0} (x y : A) (xs : List A) → Among x (y ∷ xs) → (y ≡ x) ⊎ Among x xs
among_cases x y xs a = among_at x y xs a.0 a.1

-- one part more
with_part-from : (n : ℕ) (qs : List ℕ) (p : ℕ) → n < p → RisesFrom n qs → RisesFrom n (with_part qs p)
with_part-from n [] p h r = (h, tt)
with_part-from n (q ∷ qs) p h r =
    elim (cases_Bool (nat_lt q p)) [
      | inl below ↦ rw below (r.0, with_part-from q qs p (grind (arith, nat_tests)) r.1)
      | inr above ↦
          elim (cases_Bool (nat_eq q p)) [
            | inl same ↦ rw (above, same) r
            | inr other ↦ rw (above, other) (h, (grind (arith, nat_tests), r.1))
          ]
    ]

pub with_part-rises : (qs : List ℕ) (p : ℕ) → Rises qs → Rises (with_part qs p)
with_part-rises [] p r = tt
with_part-rises (q ∷ qs) p r =
    elim (cases_Bool (nat_lt q p)) [
      | inl below ↦ rw below (with_part-from q qs p (grind (arith, nat_tests)) r)
      | inr above ↦
          elim (cases_Bool (nat_eq q p)) [
            | inl same ↦ rw (above, same) r
            | inr other ↦ rw (above, other) (grind (arith, nat_tests), r)
          ]
    ]

pub with_part-kept : (qs : List ℕ) (p y : ℕ) → Among y qs → Among y (with_part qs p)
with_part-kept [] p y c = absurd (among_none y c)
with_part-kept (q ∷ qs) p y c =
    elim (cases_Bool (nat_lt q p)) [
      | inl below ↦ rw below (
          elim (among_cases y q qs c) [
            | inl here ↦ subst (λ (k : ℕ). Among k (q ∷ with_part qs p)) here (among_first q (with_part qs p))
            | inr there ↦ among_rest y q (with_part qs p) (with_part-kept qs p y there)
          ]
          )
      | inr above ↦
          elim (cases_Bool (nat_eq q p)) [
            | inl same ↦ rw (above, same) c
            | inr other ↦ rw (above, other) (among_rest y p (q ∷ qs) c)
          ]
    ]

pub with_part-new : (qs : List ℕ) (p : ℕ) → Among p (with_part qs p)
with_part-new [] p = among_first p []
with_part-new (q ∷ qs) p =
    elim (cases_Bool (nat_lt q p)) [
      | inl below ↦ rw below (among_rest p q (with_part qs p) (with_part-new qs p))
      | inr above ↦
          elim (cases_Bool (nat_eq q p)) [
            | inl same ↦ rw (above, same) (subst (λ (k : ℕ). Among k (q ∷ qs)) (eqb-true q p same) (among_first q qs))
            | inr other ↦ rw (above, other) (among_first p (q ∷ qs))
          ]
    ]

pub with_part-cases : (qs : List ℕ) (p y : ℕ) → Among y (with_part qs p) → (p ≡ y) ⊎ Among y qs
with_part-cases [] p y c = among_cases y p [] c
with_part-cases (q ∷ qs) p y c =
    elim (cases_Bool (nat_lt q p)) [
      | inl below ↦
          let found = rw below at c in
          elim (among_cases y q (with_part qs p) found) [
            | inl here ↦ inr (subst (λ (k : ℕ). Among k (q ∷ qs)) here (among_first q qs))
            | inr there ↦ elim (with_part-cases qs p y there) [ inl new ↦ inl new | inr old ↦ inr (among_rest y q qs old) ]
          ]
      | inr above ↦
          elim (cases_Bool (nat_eq q p)) [
            | inl same ↦ let found = rw (above, same) at c in inr found
            | inr other ↦ let found = rw (above, other) at c in among_cases y p (q ∷ qs) found
          ]
    ]

-- one part more, if there is one
pub with_maybe-rises : (qs : List ℕ) (o : Option ℕ) → Rises qs → Rises (with_maybe qs o)
with_maybe-rises qs None r = r
with_maybe-rises qs (Some p) r = with_part-rises qs p r

pub with_maybe-kept : (qs : List ℕ) (o : Option ℕ) (y : ℕ) → Among y qs → Among y (with_maybe qs o)
with_maybe-kept qs None y c = c
with_maybe-kept qs (Some p) y c = with_part-kept qs p y c

pub with_maybe-cases : (qs : List ℕ) (o : Option ℕ) (y : ℕ) → Among y (with_maybe qs o) → (o ≡ Some y) ⊎ Among y qs
with_maybe-cases qs None y c = inr c
with_maybe-cases qs (Some p) y c = elim (with_part-cases qs p y c) [ inl new ↦ inl (ap Some new) | inr old ↦ inr old ]

-- all that is gathered
module _ {A : Type 0} (f : A → Option ℕ) where
  pub gathered-rises : (ps : List ℕ) (xs : List A) → Rises ps → Rises (gathered f ps xs)
  gathered-rises ps [] r = r
  gathered-rises ps (x ∷ xs) r = gathered-rises (with_maybe ps (f x)) xs (with_maybe-rises ps (f x) r)

  pub gathered-kept : (ps : List ℕ) (xs : List A) (y : ℕ) → Among y ps → Among y (gathered f ps xs)
  gathered-kept ps [] y c = c
  gathered-kept ps (x ∷ xs) y c = gathered-kept (with_maybe ps (f x)) xs y (with_maybe-kept ps (f x) y c)

  pub gathered-new : (ps : List ℕ) (xs : List A) (x : A) (y : ℕ) → Among x xs → f x ≡ Some y → Among y (gathered f ps xs)
  gathered-new ps [] x y a e = absurd (among_none x a)
  gathered-new ps (z ∷ xs) x y a e =
      elim (among_cases x z xs a) [
        | inl here ↦
            gathered-kept (with_maybe ps (f z)) xs y
            (subst (λ (o : Option ℕ). Among y (with_maybe ps o)) (sym (ap f here ∙ e)) (with_part-new ps y))
        | inr there ↦ gathered-new (with_maybe ps (f z)) xs x y there e
      ]

  pub gathered-cases : (ps : List ℕ) (xs : List A) (y : ℕ) → Among y (gathered f ps xs) → Among y ps ⊎ ((x : A) × Among x xs × (f x ≡ Some y))
  gathered-cases ps [] y c = inl c
  gathered-cases ps (x ∷ xs) y c =
      elim (gathered-cases (with_maybe ps (f x)) xs y c) [
        | inl before ↦
            elim (with_maybe-cases ps (f x) y before) [
              | inl here ↦ inr (x, among_first x xs, here)
              | inr old ↦ inl old
            ]
        | inr later ↦ inr (later.0, among_rest later.0 x xs later.1, later.2)
      ]
