-- What is offered can be taken up.
use Rattle.std.specs.Prelude.{Some}
use Rattle.std.specs.List.{AllByRecursion, list_any}
use Rattle.std.proofs.Common.{◌≡◌, ◌≤◌, ◌<◌, ◌+◌, ◌-◌, ℕ, zero, suc, List, [], ◌∷◌, ◌++◌, drop, refl, sym, ap, ◌∙◌, subst, arith, Bool, true, false, not, ◌||◌, inl, inr, append_assoc, append-nil, nat_eq, nat_lt}
use Rattle.std.proofs.lemmas.Bool.{cases_Bool, and_from, or_left, or_right, cond-true, not_from_false, lt-ltb, eqb-true, both_ways}
use Rattle.std.proofs.lemmas.List.Concat.{flat_map-append}
use Rattle.sto_explore.specs.Schedules.{Turn, Place, is_switch, may, is_within, without}
use Rattle.sto_explore.specs.Legs.{turns_with, turns_of, threads_of, schedule_of, after_all, IsAmong, AreApart, LeadToEnds, AreTold}
use Rattle.sto_explore.specs.Branches.{offers_to, offers_within, switches_in, offered, part_of}
use Rattle.sto_explore.specs.Exploring.{IsFit, GoesOn, FirstGoesOn, IsBegun, IsOffer}
use Rattle.sto_explore.specs.declared.leg.Leg.{Leg}
use Rattle.sto_explore.proofs.Following.{same, within_leg, after_leg, after_append, within_append, told_append, within_with, after_part, after_whole, told_part, threads_with}
use Rattle.sto_explore.proofs.Among.{without_in, without_out, others_are, schedule_more}
use Rattle.sto_explore.proofs.Reaching.{whole_leg}

pub all_append : {X : Type 0} (A : X → Type 0) (xs ys : List X) → AllByRecursion A xs → AllByRecursion A ys → AllByRecursion A (xs ++ ys)
all_append A [] ys h k = k
all_append A (x ∷ xs) ys h k = (h.0, all_append A xs ys h.1 k)

pub all_split : {X : Type 0} (A : X → Type 0) (xs ys : List X) → AllByRecursion A (xs ++ ys) → AllByRecursion A xs × AllByRecursion A ys
all_split A [] ys h = (tt, h)
all_split A (x ∷ xs) ys h = (let k = all_split A xs ys h.1 in ((h.0, k.0), k.1))

pub turns_append : (xs ys : List Leg) → turns_of (xs ++ ys) ≡ turns_of xs ++ turns_of ys
turns_append xs ys = flat_map-append (λ (leg : Leg). turns_with leg.thread leg.over leg.turns) xs ys

pub turns_more : (legs : List Leg) (leg : Leg) → turns_of (legs ++ leg ∷ []) ≡ turns_of legs ++ turns_with leg.thread leg.over leg.turns
turns_more legs leg = turns_append legs (leg ∷ []) ∙ ap (λ (l : List Turn). turns_of legs ++ l) (append-nil (turns_with leg.thread leg.over leg.turns))

pub told_split : (tells : List ℕ → Bool → Type 0) (before : List ℕ) (xs ys : List Turn)
    → AreTold tells before (xs ++ ys) → AreTold tells before xs × AreTold tells (before ++ threads_of xs) ys
told_split tells before [] ys h = (tt, subst (λ (l : List ℕ). AreTold tells l ys) (sym (append-nil before)) h)
told_split tells before (x ∷ xs) ys h =
    let k = told_split tells (before ++ x.thread ∷ []) xs ys h.1 in
    ((h.0, k.0), subst (λ (l : List ℕ). AreTold tells l ys) (append_assoc before (x.thread ∷ []) (threads_of xs)) k.1)

-- a thread that is not over may go on where the last one is, or where a switch is left
may_after : (p : Place) (t u : ℕ) → IsAmong (without t p.going) u → may (after_leg p t) u ≡ true
may_after p t u h = and_from (list_any (nat_eq u) (without t p.going)) true h refl

pub may_switch : (p : Place) (t u : ℕ) → IsAmong p.going u → 1 ≤ (within_leg p t).left → may (within_leg p t) u ≡ true
may_switch p t u h some =
    and_from (list_any (nat_eq u) p.going) (not (is_switch (Some t) u) || nat_lt 0 (within_leg p t).left) h
    (or_right (not (is_switch (Some t) u)) (nat_lt 0 (within_leg p t).left) (lt-ltb 0 (within_leg p t).left some))

pub differ : (t u : ℕ) → nat_eq u t ≡ false → nat_eq t u ≡ false
differ t u other = elim (cases_Bool (nat_eq t u)) [
  | inl is ↦ absurd (both_ways (nat_eq u t) other (subst (λ (n : ℕ). nat_eq u n ≡ true) (sym (eqb-true t u is)) (same u)))
  | inr is_not ↦ is_not
]

pub place_with : (start : Place) (legs : List Leg) (leg : Leg)
    → after_all start (turns_of (legs ++ leg ∷ [])) ≡ after_all (after_all start (turns_of legs)) (turns_with leg.thread leg.over leg.turns)
place_with start legs leg = ap (after_all start) (turns_more legs leg) ∙ after_append start (turns_of legs) (turns_with leg.thread leg.over leg.turns)

-- the others after a leg
pub goes_after : (p : Place) (left t : ℕ) (others : List ℕ) → GoesOn p left t → AreApart (t ∷ others) → ((u : ℕ) → IsAmong (t ∷ others) u → IsAmong p.going u)
    → (u : ℕ) → IsAmong others u → GoesOn (after_leg p t) left u
goes_after p left t others goes apart can u h =
    (may_after p t u (without_in u t p.going (can u (or_right (nat_eq u t) (list_any (nat_eq u) others) h)) (others_are u t others apart.0 h)), goes.1)

pub drop_among : (others : List ℕ) (u : ℕ) → IsAmong (drop 1 others) u → IsAmong others u
drop_among [] u h = h
drop_among (t ∷ others) u h = or_right (nat_eq u t) (list_any (nat_eq u) others) h

-- and the first of them
pub first_of : (q : Place) (left : ℕ) (us : List ℕ) → ((u : ℕ) → IsAmong us u → GoesOn q left u) → FirstGoesOn q left us
first_of q left [] g = tt
first_of q left (u ∷ us) g = g u (or_left (nat_eq u u) (list_any (nat_eq u) us) (same u))

module _ (start : Place) (tells : List ℕ → Bool → Type 0) where
  place_of : List Leg → Place
  place_of legs = after_all start (turns_of legs)

  abbrev Begun : List Leg → Type 0
  Begun = IsBegun start tells

  -- one more leg, of which so much is so
  begun_with : (legs : List Leg) (leg : Leg) → Begun legs → is_within (after_all start (turns_of legs)) (turns_with leg.thread leg.over leg.turns) ≡ true
      → AreTold tells (schedule_of legs) (turns_with leg.thread leg.over leg.turns) → IsFit start.going leg → Begun (legs ++ leg ∷ [])
  begun_with legs leg b within told fit = record {
    within = subst (λ (l : List Turn). is_within start l ≡ true) (sym (turns_more legs leg)) (within_append start (turns_of legs) (turns_with leg.thread leg.over leg.turns) b.within within);
    told = subst (λ (l : List Turn). AreTold tells [] l) (sym (turns_more legs leg)) (told_append tells [] (turns_of legs) (turns_with leg.thread leg.over leg.turns) b.told told);
    fit = all_append (IsFit start.going) legs (leg ∷ []) b.fit (fit, tt);
  }

  -- what is so before a leg of a thread, which may go on: the leg was told whole
  record Stands (before : List Leg) (p : Place) (left t : ℕ) (others : List ℕ) (leg : Leg) : Type 0 where
    begun : Begun before
    here : after_all start (turns_of before) ≡ p
    goes : GoesOn p left t
    can : (u : ℕ) → IsAmong (t ∷ others) u → IsAmong p.going u
    known : (u : ℕ) → IsAmong p.going u → IsAmong start.going u
    apart : AreApart (t ∷ others)
    thread : leg.thread ≡ t
    over : leg.over ≡ true
    some : 1 ≤ leg.turns
    told : AreTold tells (schedule_of before) (turns_with leg.thread leg.over leg.turns)

  -- offers after a leg, or a part of it, are taken up where the threads may go on
  pub offers_good : (legs : List Leg) (left : ℕ) (others : List ℕ) → Begun legs → ((u : ℕ) → IsAmong others u → GoesOn (after_all start (turns_of legs)) left u)
      → AllByRecursion (IsOffer start tells) (offers_to legs left others)
  offers_good legs left [] b goes = tt
  offers_good legs left (u ∷ others) b goes = (
    record { begun = b; goes_on = goes u (or_left (nat_eq u u) (list_any (nat_eq u) others) (same u)) },
    offers_good legs left others b (λ v h. goes v (or_right (nat_eq v u) (list_any (nat_eq v) others) h)),
  )

  -- a part of the leg
  part_begun : (before : List Leg) (p : Place) (left t : ℕ) (others : List ℕ) (leg : Leg) (e : ℕ) → Stands before p left t others leg → suc e < leg.turns
      → Begun (before ++ part_of leg.thread (suc e) ∷ []) × (after_all start (turns_of (before ++ part_of leg.thread (suc e) ∷ [])) ≡ within_leg p t)
  part_begun before p left t others leg e s less =
      let n = leg.turns - 2 in
      let many : leg.turns ≡ suc (suc n) = omega (arith, less) in
      let told : AreTold tells (schedule_of before) (turns_with leg.thread leg.over (suc (suc n))) =
      subst (λ (k : ℕ). AreTold tells (schedule_of before) (turns_with leg.thread leg.over k)) many s.told in (
        begun_with before (part_of leg.thread (suc e)) s.begun
            (subst (λ (q : Place). is_within q (turns_with leg.thread false (suc e)) ≡ true) (sym s.here)
            (within_with p leg.thread false e (subst (λ (k : ℕ). may p k ≡ true) (sym s.thread) s.goes.0)))
            (told_part tells (schedule_of before) leg.thread leg.over e n (omega (arith, less)) told)
            (omega arith, s.known leg.thread (s.can leg.thread (subst (λ (k : ℕ). IsAmong (t ∷ others) k) (sym s.thread) (or_left (nat_eq t t) (list_any (nat_eq t) others) (same t))))),
        place_with start before (part_of leg.thread (suc e)) ∙ ap (λ (q : Place). after_all q (turns_with leg.thread false (suc e))) s.here
            ∙ after_part p leg.thread e ∙ ap (within_leg p) s.thread,
      )

  within_good : (before : List Leg) (p : Place) (left t : ℕ) (others : List ℕ) (leg : Leg) (n : ℕ) → Stands before p (suc left) t others leg → n + 1 ≤ leg.turns
      → AllByRecursion (IsOffer start tells) (offers_within before left others leg.thread n)
  within_good before p left t others leg zero s less = tt
  within_good before p left t others leg (suc n) s less =
      let k = part_begun before p (suc left) t others leg n s (omega (arith, less)) in
      all_append (IsOffer start tells) (offers_within before left others leg.thread n) (offers_to (before ++ part_of leg.thread (suc n) ∷ []) left others)
      (within_good before p left t others leg n s (omega (arith, less)))
      (offers_good (before ++ part_of leg.thread (suc n) ∷ []) left others k.0
      (λ u h. subst (λ (q : Place). GoesOn q left u) (sym k.1) (goes u h)))
    where
      left_is : (within_leg p t).left ≡ suc left
      left_is = s.goes.1

      goes : (u : ℕ) → IsAmong others u → GoesOn (within_leg p t) left u
      goes u h =
          let other = others_are u t others s.apart.0 h in (
            may_switch p t u (s.can u (or_right (nat_eq u t) (list_any (nat_eq u) others) h)) (omega (arith, left_is)),
            cond-true (is_switch (Some t) u) ((within_leg p t).left - 1) (within_leg p t).left (not_from_false (nat_eq t u) (differ t u other)) ∙ omega (arith, left_is),
          )

  switches_good : (before : List Leg) (p : Place) (left t : ℕ) (others : List ℕ) (leg : Leg) → Stands before p left t others leg
      → AllByRecursion (IsOffer start tells) (switches_in before left others leg)
  switches_good before p zero t others leg s = tt
  switches_good before p (suc left) t others leg s = within_good before p left t others leg (leg.turns - 1) s (let a = s.some in omega (arith, a))

  -- the whole leg
  leg_begun : (before : List Leg) (p : Place) (left t : ℕ) (others : List ℕ) (leg : Leg) → Stands before p left t others leg
      → Begun (before ++ leg ∷ []) × (after_all start (turns_of (before ++ leg ∷ [])) ≡ after_leg p t)
  leg_begun before p left t others leg s =
      let whole = whole_leg t leg s.thread s.over s.some in (
        begun_with before leg s.begun
            (subst (λ (q : Place). is_within q (turns_with leg.thread leg.over leg.turns) ≡ true) (sym s.here)
            (subst (λ (l : List Turn). is_within p l ≡ true) (sym whole) (within_with p t true (leg.turns - 1) s.goes.0)))
            s.told
            (s.some, s.known leg.thread (s.can leg.thread (subst (λ (k : ℕ). IsAmong (t ∷ others) k) (sym s.thread) (or_left (nat_eq t t) (list_any (nat_eq t) others) (same t))))),
        place_with start before leg ∙ (λ i. after_all (s.here i) (whole i)) ∙ after_whole p t (leg.turns - 1),
      )

  -- all offers at the legs of an order, and the legs themselves
  pub offered_good : (before : List Leg) (p : Place) (left : ℕ) (order : List ℕ) (legs : List Leg)
      → LeadToEnds order legs → Begun before → after_all start (turns_of before) ≡ p → FirstGoesOn p left order
      → ((u : ℕ) → IsAmong order u → IsAmong p.going u) → ((u : ℕ) → IsAmong p.going u → IsAmong start.going u) → AreApart order
      → AreTold tells (schedule_of before) (turns_of legs)
      → AllByRecursion (IsOffer start tells) (offered before left order legs) × Begun (before ++ legs)
  offered_good before p left [] [] ends begun here goes can known apart told = (tt, subst Begun (sym (append-nil before)) begun)
  offered_good before p left [] (leg ∷ legs) ends begun here goes can known apart told = absurd ends
  offered_good before p left (t ∷ others) [] ends begun here goes can known apart told = absurd ends
  offered_good before p left (t ∷ others) (leg ∷ legs) ends begun here goes can known apart told =
      let parts = told_split tells (schedule_of before) (turns_with leg.thread leg.over leg.turns) (turns_of legs) told in
      let s : Stands before p left t others leg = record {
        begun = begun;
        here = here;
        goes = goes;
        can = can;
        known = known;
        apart = apart;
        thread = ends.0;
        over = ends.1;
        some = ends.2;
        told = parts.0;
      } in
      let whole = leg_begun before p left t others leg s in
      let after_goes = goes_after p left t others goes apart can in
      let rest = offered_good (before ++ leg ∷ []) (after_leg p t) left others legs ends.3 whole.0 whole.1 (first_of (after_leg p t) left others after_goes)
      (λ u h. without_in u t p.going (can u (or_right (nat_eq u t) (list_any (nat_eq u) others) h)) (others_are u t others apart.0 h))
      (λ u h. known u (without_out u t p.going h).0) apart.1
      (subst (λ (l : List ℕ). AreTold tells l (turns_of legs)) (ap (λ (l : List ℕ). schedule_of before ++ l) (threads_with leg.thread leg.over leg.turns) ∙ sym (schedule_more before leg)) parts.1) in (
        all_append (IsOffer start tells) (switches_in before left others leg) (offers_to (before ++ leg ∷ []) left (drop 1 others) ++ offered (before ++ leg ∷ []) left others legs)
            (switches_good before p left t others leg s)
            (all_append (IsOffer start tells) (offers_to (before ++ leg ∷ []) left (drop 1 others)) (offered (before ++ leg ∷ []) left others legs)
            (offers_good (before ++ leg ∷ []) left (drop 1 others) whole.0
            (λ u h. subst (λ (q : Place). GoesOn q left u) (sym whole.1) (after_goes u (drop_among others u h))))
            rest.0),
        subst Begun (append_assoc before (leg ∷ []) legs) rest.1,
      )
