-- The parts that a desk tells are those that a commit gathers today.
use Rattle.std.specs.Prelude.{not, ◌&&◌, ◌||◌}
use Rattle.std.specs.List.{list_any}
use Rattle.std.proofs.Common.{◌≡◌, ◌<◌, ◌≤◌, ℕ, Bool, true, false, nat_eq, nat_lt, Option, Some, None, List, [], ◌∷◌, refl, ap, sym, ◌∙◌, arith, inl, inr, eqb-true, eq-eqb, true≢false}
use Rattle.std.proofs.lemmas.Bool.{cases_Bool}
use Rattle.std.proofs.lemmas.Bool.Decides.{nat_tests}
use Rattle.sto_item.specs.declared.item.Item.{Item}
use Rattle.sto_item.specs.declared.item.Item.TheVariants.{Seen, Holds}
use Rattle.sto_item.specs.Observed.{sees}
use Rattle.sto_item.specs.Places.{with_part}
use Rattle.sto_attempt_log.specs.Gathering.{with_maybe, gathered, seen_part, not_in, other_part}
use Rattle.sto_desk.specs.Chained.{is_pred_on}
use Rattle.sto_desk.specs.Laid.{Laid}
use Rattle.sto_desk.specs.Ordering.{Rises, RisesFrom, has_part, ArePartsOf}
use Rattle.sto_desk.specs.declared.order.Which.TheVariants.{Seen as SeenParts, Held as HeldParts}
use Rattle.sto_desk.proofs.Ordering.{with_part-rises}

-- two rising lists with the same parts are equal
not_below : (n p : ℕ) (ps : List ℕ) → RisesFrom n ps → p ≤ n → has_part ps p ≡ false
not_below n p [] rises low = refl
not_below n p (q ∷ ps) rises low =
    let past : n < q = rises.0 in
    let miss : nat_eq q p ≡ false = grind (arith, nat_tests) in
    rw miss (not_below q p ps rises.1 (omega (arith, past, low)))

rest_rises : (p : ℕ) (ps : List ℕ) → RisesFrom p ps → Rises ps
rest_rises p [] rises = tt
rest_rises p (q ∷ ps) rises = rises.1

here : (p : ℕ) (ps : List ℕ) → has_part (p ∷ ps) p ≡ true
here p ps = let hit : nat_eq p p ≡ true = eq-eqb p p refl in rw hit refl

not_low : (p q : ℕ) (ps qs : List ℕ) → RisesFrom q qs → has_part (p ∷ ps) p ≡ has_part (q ∷ qs) p → p < q → ⊥
not_low p q ps qs rises same low =
    let miss : nat_eq q p ≡ false = grind (arith, nat_tests) in
    let nowhere : has_part (q ∷ qs) p ≡ false = rw miss (not_below q p qs rises (omega (arith, low))) in
    true≢false (sym (here p ps) ∙ same ∙ nowhere)

tails : (p q : ℕ) (ps qs : List ℕ) → p ≡ q → RisesFrom p ps → RisesFrom q qs → (r : ℕ) → has_part (p ∷ ps) r ≡ has_part (q ∷ qs) r → has_part ps r ≡ has_part qs r
tails p q ps qs is ps_rise qs_rise r same = elim (cases_Bool (nat_eq p r)) [
  | inl hit ↦
      let at : p ≡ r = eqb-true p r hit in
      not_below p r ps ps_rise (omega (arith, at)) ∙ sym (not_below q r qs qs_rise (omega (arith, at, is)))
  | inr miss ↦
      let miss_too : nat_eq q r ≡ false = ap (λ (n : ℕ). nat_eq n r) (sym is) ∙ miss in
      rw (miss, miss_too) at same
]

pub same_parts : (ps qs : List ℕ) → Rises ps → Rises qs → ((r : ℕ) → has_part ps r ≡ has_part qs r) → ps ≡ qs
same_parts [] [] ps_rise qs_rise same = refl
same_parts [] (q ∷ qs) ps_rise qs_rise same = absurd (true≢false (sym (here q qs) ∙ sym (same q)))
same_parts (p ∷ ps) [] ps_rise qs_rise same = absurd (true≢false (sym (here p ps) ∙ same p))
same_parts (p ∷ ps) (q ∷ qs) ps_rise qs_rise same = elim (cases_Bool (nat_lt p q)) as (λ _. p ∷ ps ≡ q ∷ qs) [
  | inl low ↦ absurd (not_low p q ps qs qs_rise (same p) (grind (arith, nat_tests)))
  | inr high ↦ elim (cases_Bool (nat_lt q p)) as (λ _. p ∷ ps ≡ q ∷ qs) [
    | inl below ↦ absurd (not_low q p qs ps ps_rise (sym (same q)) (grind (arith, nat_tests)))
    | inr above ↦
        let is : p ≡ q = grind (arith, nat_tests) in
        let rest : ps ≡ qs = same_parts ps qs (rest_rises p ps ps_rise) (rest_rises q qs qs_rise) (λ r. tails p q ps qs is ps_rise qs_rise r (same r)) in
        λ i. is i ∷ rest i
  ]
]

-- one part more
has_with : (qs : List ℕ) (p q : ℕ) → has_part (with_part qs p) q ≡ (nat_eq p q || has_part qs q)
has_with [] p q = refl
has_with (r ∷ qs) p q = elim (cases_Bool (nat_lt r p)) [
  | inl below ↦ rw below (ap (λ (b : Bool). nat_eq r q || b) (has_with qs p q) ∙ swap (nat_eq r q) (nat_eq p q) (has_part qs q))
  | inr above ↦ elim (cases_Bool (nat_eq r p)) [
    | inl same ↦ rw (above, same) (sym (again (nat_eq p q) (nat_eq r q) (has_part qs q) (ap (λ (n : ℕ). nat_eq n q) (sym (eqb-true r p same)))))
    | inr other ↦ rw (above, other) refl
  ]
] where
  swap : (a b c : Bool) → (a || (b || c)) ≡ (b || (a || c))
  swap true true c = refl
  swap true false c = refl
  swap false b c = refl

  again : (a b c : Bool) → a ≡ b → (a || (b || c)) ≡ (b || c)
  again true true c same = refl
  again false b c same = refl
  again true false c same = absurd (true≢false same)

-- what is gathered rises, and has the parts that f gives
maybe_rises : (ps : List ℕ) (o : Option ℕ) → Rises ps → Rises (with_maybe ps o)
maybe_rises ps None rises = rises
maybe_rises ps (Some p) rises = with_part-rises ps p rises

pub gathered_rises : {A : Type 0} (f : A → Option ℕ) (ps : List ℕ) (xs : List A) → Rises ps → Rises (gathered f ps xs)
gathered_rises f ps [] rises = rises
gathered_rises f ps (x ∷ xs) rises = gathered_rises f (with_maybe ps (f x)) xs (maybe_rises ps (f x) rises)

abbrev pub is_some : ℕ → Option ℕ → Bool
is_some q None = false
is_some q (Some p) = nat_eq p q

or_turn : (a b c : Bool) → ((a || b) || c) ≡ (b || (a || c))
or_turn true true c = refl
or_turn true false c = refl
or_turn false b c = refl

pub or_false : (b : Bool) → b ≡ (b || false)
or_false true = refl
or_false false = refl

has_maybe : (ps : List ℕ) (o : Option ℕ) (q : ℕ) → has_part (with_maybe ps o) q ≡ (is_some q o || has_part ps q)
has_maybe ps None q = refl
has_maybe ps (Some p) q = has_with ps p q

pub has_gathered : {A : Type 0} (f : A → Option ℕ) (ps : List ℕ) (xs : List A) (q : ℕ) → has_part (gathered f ps xs) q ≡ (has_part ps q || list_any (λ (x : A). is_some q (f x)) xs)
has_gathered f ps [] q = or_false (has_part ps q)
has_gathered {A = A} f ps (x ∷ xs) q =
    has_gathered f (with_maybe ps (f x)) xs q ∙ ap (λ (b : Bool). b || list_any (λ (y : A). is_some q (f y)) xs) (has_maybe ps (f x) q)
    ∙ or_turn (is_some q (f x)) (has_part ps q) (list_any (λ (y : A). is_some q (f y)) xs)

-- the parts that items see
sees_any : (items : List Item) (q : ℕ) → list_any (λ (x : Item). is_some q (seen_part x)) items ≡ sees q items
sees_any [] q = refl
sees_any (Seen p ∷ items) q = ap (λ (b : Bool). nat_eq p q || b) (sees_any items q)
sees_any (Holds p ∷ items) q = sees_any items q

pub seen_gathered : (v : Laid) (ps : List ℕ) → ArePartsOf v SeenParts ps → ps ≡ gathered seen_part [] v.set.items
seen_gathered v ps is = same_parts ps (gathered seen_part [] v.set.items) is.rises (gathered_rises seen_part [] v.set.items tt) (λ q. is.each q ∙ sym (has_gathered seen_part [] v.set.items q ∙ sees_any v.set.items q))

-- the parts of which there are only predicates
other_here : (seen : List ℕ) (p q : ℕ) → is_some q (not_in seen p) ≡ (not (has_part seen q) && nat_eq p q)
other_here seen p q = elim (cases_Bool (nat_eq p q)) [
  | inl hit ↦
      let at : p ≡ q = eqb-true p q hit in
      elim (cases_Bool (has_part seen p)) [
        | inl there ↦ let too : has_part seen q ≡ true = ap (has_part seen) (sym at) ∙ there in rw (there, too) refl
        | inr apart ↦ let too : has_part seen q ≡ false = ap (has_part seen) (sym at) ∙ apart in rw (apart, too) refl
      ]
  | inr miss ↦ elim (cases_Bool (has_part seen p)) [
    | inl there ↦ rw (there, miss) (sym (and_false (not (has_part seen q))))
    | inr apart ↦ rw apart (miss ∙ sym (ap (λ (b : Bool). not (has_part seen q) && b) miss ∙ and_false (not (has_part seen q))))
  ]
] where
  and_false : (b : Bool) → (b && false) ≡ false
  and_false true = refl
  and_false false = refl

other_any : (seen : List ℕ) (items : List Item) (q : ℕ) → list_any (λ (x : Item). is_some q (other_part seen x)) items ≡ (not (has_part seen q) && list_any (is_pred_on q) items)
other_any seen [] q = sym (and_none (not (has_part seen q))) where
  and_none : (b : Bool) → (b && false) ≡ false
  and_none true = refl
  and_none false = refl
other_any seen (Seen p ∷ items) q = other_any seen items q
other_any seen (Holds p ∷ items) q =
    ap (λ (b : Bool). b || list_any (λ (x : Item). is_some q (other_part seen x)) items) (other_here seen p.part q)
    ∙ ap (λ (b : Bool). (not (has_part seen q) && nat_eq p.part q) || b) (other_any seen items q) ∙ share (not (has_part seen q)) (nat_eq p.part q) (list_any (is_pred_on q) items)
  where
    share : (a b c : Bool) → ((a && b) || (a && c)) ≡ (a && (b || c))
    share true b c = refl
    share false b c = refl

pub held_gathered : (v : Laid) (seen ps : List ℕ) → ArePartsOf v SeenParts seen → ArePartsOf v HeldParts ps → ps ≡ gathered (other_part seen) [] v.set.items
held_gathered v seen ps sights is =
    same_parts ps (gathered (other_part seen) [] v.set.items) is.rises (gathered_rises (other_part seen) [] v.set.items tt)
    (λ q. is.each q ∙ ap (λ (b : Bool). not b && list_any (is_pred_on q) v.set.items) (sym (sights.each q)) ∙ sym (has_gathered (other_part seen) [] v.set.items q ∙ other_any seen v.set.items q))
