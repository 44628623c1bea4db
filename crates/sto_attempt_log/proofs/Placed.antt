-- Parts that were read are found by their places.
use Rattle.std.specs.Prelude.{if◌then◌else◌}
use Rattle.std.specs.List.{Contains, slice_get}
use Rattle.std.specs.Option.{option_or}
use Rattle.std.proofs.Common.{◌≡◌, ◌<◌, ◌+◌, ℕ, suc, nat_eq, Option, Some, None, List, [], ◌∷◌, ◌++◌, length, refl, ap, sym, ◌∙◌, subst, arith, inl, inr, eqb-true}
use Rattle.std.proofs.lemmas.Bool.{cases_Bool}
use Rattle.std.proofs.lemmas.Option.{get_or_from_slice_get}
use Rattle.sto_attempt_log.specs.declared.read_entry.ReadEntry.{ReadEntry}
use Rattle.sto_attempt_log.specs.Placed.{place_in, placed}
use Rattle.sto_attempt_log.specs.ReadSet.{words_in, ticket_in}

-- what a place tells of its part
pub record IsPlaceOf (ss : List ReadEntry) (p i : ℕ) : Type 0 where
  pub within : i < length ss
  pub part : (x : ReadEntry) → slice_get ss i ≡ Some x → x.part ≡ p
  pub words : (x : ReadEntry) → slice_get ss i ≡ Some x → words_in ss p ≡ Some x.words.items
  pub ticket : (x : ReadEntry) → slice_get ss i ≡ Some x → ticket_in ss p ≡ Some x.ticket

some_same : {A : Type 0} (x y : A) → Some x ≡ Some y → x ≡ y
some_same x y e = cc

place_at : (j : ℕ) (ss : List ReadEntry) (p k : ℕ) → place_in j ss p ≡ Some k → (i : ℕ) × (k ≡ j + i) × IsPlaceOf ss p i
place_at j [] p k e = cc
place_at j (s ∷ ss) p k e = elim (cases_Bool (nat_eq s.part p)) [
  | inl hit ↦
      let here : j ≡ k = some_same j k (rw hit at e) in (
        0,
        omega (arith, here),
        record {
          within = omega arith;
          part = λ x is. sym (ap (λ (y : ReadEntry). y.part) (some_same s x is)) ∙ eqb-true s.part p hit;
          words = λ x is. rw hit (ap (λ (y : ReadEntry). Some y.words.items) (some_same s x is));
          ticket = λ x is. rw hit (ap (λ (y : ReadEntry). Some y.ticket) (some_same s x is));
        },
      )
  | inr miss ↦
      let more = place_at (suc j) ss p k (rw miss at e) in (
        suc more.0,
        omega (arith, more.1),
        record {
          within = omega (arith, more.2.within);
          part = λ x is. more.2.part x is;
          words = λ x is. rw miss (more.2.words x is);
          ticket = λ x is. rw miss (more.2.ticket x is);
        },
      )
]

pub place_of : (ss : List ReadEntry) (p k : ℕ) → place_in 0 ss p ≡ Some k → IsPlaceOf ss p k
place_of ss p k e =
    let h = place_at 0 ss p k e in
    let same : h.0 ≡ k = omega (arith, h.1) in
    subst (λ (i : ℕ). IsPlaceOf ss p i) same h.2

no_place : (j : ℕ) (ss : List ReadEntry) (p : ℕ) → place_in j ss p ≡ None → (words_in ss p ≡ None) × (ticket_in ss p ≡ None)
no_place j [] p e = (refl, refl)
no_place j (s ∷ ss) p e = elim (cases_Bool (nat_eq s.part p)) [
  | inl hit ↦ let clash : Some j ≡ None = rw hit at e in cc
  | inr miss ↦ let more = no_place (suc j) ss p (rw miss at e) in (rw miss more.0, rw miss more.1)
]

pub no_words : (ss : List ReadEntry) (p : ℕ) → place_in 0 ss p ≡ None → words_in ss p ≡ None
no_words ss p e = (no_place 0 ss p e).0

pub no_ticket : (ss : List ReadEntry) (p : ℕ) → place_in 0 ss p ≡ None → ticket_in ss p ≡ None
no_ticket ss p e = (no_place 0 ss p e).1

pub stands_there : (ss : List ReadEntry) (k : ℕ) (x : ReadEntry) → k < length ss → slice_get ss k ≡ Some x → Contains ss x
stands_there ss k x within is = (k, within, get_or_from_slice_get ss k x x is)

-- one more part
place_more : (j : ℕ) (ss : List ReadEntry) (x : ReadEntry) (p : ℕ) → place_in j (ss ++ x ∷ []) p ≡ option_or (place_in j ss p) (if nat_eq x.part p then Some (j + length ss) else None)
place_more j [] x p = let same : j + 0 ≡ j = omega arith in rw same refl
place_more j (s ∷ ss) x p = elim (cases_Bool (nat_eq s.part p)) [
  | inl hit ↦ rw hit refl
  | inr miss ↦ let same : suc j + length ss ≡ j + suc (length ss) = omega arith in rw miss (place_more (suc j) ss x p ∙ ap (λ (n : ℕ). option_or (place_in (suc j) ss p) (if nat_eq x.part p then Some n else None)) same)
]

place_pushed : (ss : List ReadEntry) (x : ReadEntry) (p : ℕ) → place_in 0 (ss ++ x ∷ []) p ≡ placed (place_in 0 ss) x.part (length ss) p
place_pushed ss x p = let same : 0 + length ss ≡ length ss = omega arith in place_more 0 ss x p ∙ ap (λ (n : ℕ). option_or (place_in 0 ss p) (if nat_eq x.part p then Some n else None)) same

-- so a map that tells the places still does
pub pushed_places :
    (was now : ℕ → Option ℕ) (ss more : List ReadEntry) (x : ReadEntry) (place : ℕ)
    → ((q : ℕ) → was q ≡ place_in 0 ss q) → ((q : ℕ) → now q ≡ placed was x.part place q) → place ≡ length ss → more ≡ ss ++ x ∷ [] → (q : ℕ) → now q ≡ place_in 0 more q
pushed_places was now ss more x place told next last longer q =
    next q ∙ ap (λ (o : Option ℕ). option_or o (if nat_eq x.part q then Some place else None)) (told q)
    ∙ ap (λ (n : ℕ). placed (place_in 0 ss) x.part n q) last ∙ sym (ap (λ (l : List ReadEntry). place_in 0 l q) longer ∙ place_pushed ss x q)
