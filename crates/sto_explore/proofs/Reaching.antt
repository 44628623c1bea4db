-- A schedule follows the legs of a run, or leaves them where another thread was offered to go on.
use Rattle.std.specs.Prelude.{◌⊎◌}
use Rattle.std.specs.List.{list_any}
use Rattle.std.proofs.Common.{◌≡◌, ◌≤◌, ◌<◌, ◌-◌, ℕ, zero, suc, List, [], ◌∷◌, ◌++◌, replicate, refl, sym, ap, ◌∙◌, subst, arith, Bool, true, false, not, ◌||◌, inl, inr, append_assoc, nat_eq, nat_lt}
use Rattle.std.proofs.lemmas.Bool.{eqb-true, cases_Bool, and_parts, or_cases, cond-true, cond-false, not_from_true, not_from_false, ltb-true, false≢true}
use Rattle.sto_explore.specs.Schedules.{Turn, Place, is_switch, may, follows}
use Rattle.sto_explore.specs.Legs.{turns_with, turns_of, schedule_of, IsAmong, LeadToEnds}
use Rattle.sto_explore.specs.Branches.{Offer, offers_to, offers_within, switches_in, offered, begins, path_of}
use Rattle.sto_explore.specs.declared.leg.Leg.{Leg}
use Rattle.sto_explore.proofs.Following.{same, within_leg, after_leg, stays, ends_alike}
use Rattle.sto_explore.proofs.Among.{any_left, any_right, without_out, among_others, schedule_more, in_offers, in_within}

-- the schedule leaves a thread after fewer than so many of its turns, for another that may go on there
record Leaves (q : Place) (thread most : ℕ) (schedule : List ℕ) : Type 0 where
  turns : ℕ
  other : ℕ
  rest : List ℕ
  within : turns < most
  may_go : may q other ≡ true
  another : nat_eq other thread ≡ false
  leaves : schedule ≡ replicate turns thread ++ other ∷ rest

-- the schedule has so many turns of the thread, and is followed as far as what is left of it is
record Passes (thread n : ℕ) (schedule : List ℕ) (now : Bool) (later : List ℕ → Bool) : Type 0 where
  rest : List ℕ
  passes : schedule ≡ replicate n thread ++ rest
  as_rest : now ≡ later rest

-- what comes next is not had by the run: it may not be, or it was offered
leaving : (q : Place) (thread u most : ℕ) (rest : List ℕ) (b : Bool) → 0 < most → nat_eq u thread ≡ false → b ≡ not (may q u)
    → (b ≡ true) ⊎ Leaves q thread most (u ∷ rest)
leaving q thread u most rest b some other is = elim (cases_Bool (may q u)) [
  | inl agrees ↦ inr (record { turns = 0; other = u; rest = rest; within = some; may_go = agrees; another = other; leaves = refl })
  | inr differs ↦ inl (is ∙ not_from_false (may q u) differs)
]

abbrev Walks : Place → ℕ → List Turn → ℕ → List ℕ → Type 0
Walks q thread ts m schedule =
    (follows q (turns_with thread true (suc m) ++ ts) schedule ≡ true) ⊎ (Leaves q thread (suc m) schedule
    ⊎ Passes thread (suc m) schedule (follows q (turns_with thread true (suc m) ++ ts) schedule) (follows (after_leg q thread) ts))

-- within a leg
walk : (q : Place) (thread : ℕ) (ts : List Turn) (m : ℕ) → within_leg q thread ≡ q → (schedule : List ℕ) → Walks q thread ts m schedule
walk q thread ts zero stay [] = inl refl
walk q thread ts (suc m) stay [] = inl refl
walk q thread ts zero stay (u ∷ rest) = elim (cases_Bool (nat_eq u thread)) [
  | inl agrees ↦ inr (inr (record {
    rest = rest;
    passes = ap (λ (n : ℕ). n ∷ rest) (eqb-true u thread agrees);
    as_rest = cond-true (nat_eq u thread) (follows (after_leg q thread) ts rest) (not (may q u)) agrees;
  }))
  | inr differs ↦ elim (leaving q thread u 1 rest (follows q (turns_with thread true 1 ++ ts) (u ∷ rest)) (omega arith) differs
      (cond-false (nat_eq u thread) (follows (after_leg q thread) ts rest) (not (may q u)) differs)) [
        | inl is ↦ inl is
        | inr away ↦ inr (inl away)
      ]
]
walk q thread ts (suc m) stay (u ∷ rest) = by (cases_Bool (nat_eq u thread)) (walk q thread ts m stay rest)
  where
    now : Bool
    now = follows q (turns_with thread true (suc (suc m)) ++ ts) (u ∷ rest)

    on : nat_eq u thread ≡ true → now ≡ follows q (turns_with thread true (suc m) ++ ts) rest
    on agrees =
        cond-true (nat_eq u thread) (follows (within_leg q thread) (turns_with thread true (suc m) ++ ts) rest) (not (may q u)) agrees
        ∙ ap (λ (p : Place). follows p (turns_with thread true (suc m) ++ ts) rest) stay

    by : (nat_eq u thread ≡ true) ⊎ (nat_eq u thread ≡ false) → Walks q thread ts m rest → Walks q thread ts (suc m) (u ∷ rest)
    by (inl agrees) (inl is) = inl (on agrees ∙ is)
    by (inl agrees) (inr (inl l)) = inr (inl (record {
      turns = suc l.turns;
      other = l.other;
      rest = l.rest;
      within = (let w = l.within in omega (arith, w));
      may_go = l.may_go;
      another = l.another;
      leaves = (λ i. eqb-true u thread agrees i ∷ l.leaves i);
    }))
    by (inl agrees) (inr (inr k)) = inr (inr (record {
      rest = k.rest;
      passes = (λ i. eqb-true u thread agrees i ∷ k.passes i);
      as_rest = on agrees ∙ k.as_rest;
    }))
    by (inr differs) other = elim (leaving q thread u (suc (suc m)) rest now (omega arith) differs
        (cond-false (nat_eq u thread) (follows (within_leg q thread) (turns_with thread true (suc m) ++ ts) rest) (not (may q u)) differs)) [
          | inl is ↦ inl is
          | inr away ↦ inr (inl away)
        ]

-- a leg, of which the schedule has the first turn
abbrev Crosses : Place → ℕ → List Turn → ℕ → List ℕ → Type 0
Crosses p thread ts m rest =
    (follows p (turns_with thread true (suc m) ++ ts) (thread ∷ rest) ≡ true) ⊎ (Leaves (within_leg p thread) thread m rest
    ⊎ Passes thread (suc m) (thread ∷ rest) (follows p (turns_with thread true (suc m) ++ ts) (thread ∷ rest)) (follows (after_leg p thread) ts))

cross : (p : Place) (thread : ℕ) (ts : List Turn) (m : ℕ) (rest : List ℕ) → Crosses p thread ts m rest
cross p thread ts zero rest = inr (inr (record {
  rest = rest;
  passes = refl;
  as_rest = cond-true (nat_eq thread thread) (follows (after_leg p thread) ts rest) (not (may p thread)) (same thread);
}))
cross p thread ts (suc m) rest = by (walk (within_leg p thread) thread ts m (stays p thread) rest)
  where
    on : follows p (turns_with thread true (suc (suc m)) ++ ts) (thread ∷ rest) ≡ follows (within_leg p thread) (turns_with thread true (suc m) ++ ts) rest
    on = cond-true (nat_eq thread thread) (follows (within_leg p thread) (turns_with thread true (suc m) ++ ts) rest) (not (may p thread)) (same thread)

    by : Walks (within_leg p thread) thread ts m rest → Crosses p thread ts (suc m) rest
    by (inl is) = inl (on ∙ is)
    by (inr (inl l)) = inr (inl l)
    by (inr (inr k)) = inr (inr (record {
      rest = k.rest;
      passes = ap (λ (l : List ℕ). thread ∷ l) k.passes;
      as_rest = on ∙ k.as_rest ∙ ap (λ (b : Place). follows b ts k.rest) (ends_alike p thread);
    }))

-- A leg as it was told is whole.
pub whole_leg : (t : ℕ) (leg : Leg) → leg.thread ≡ t → leg.over ≡ true → 1 ≤ leg.turns
    → turns_with leg.thread leg.over leg.turns ≡ turns_with t true (suc (leg.turns - 1))
whole_leg t leg a b some =
    let c : leg.turns ≡ suc (leg.turns - 1) = omega (arith, some) in
    (λ i. turns_with (a i) (b i) (c i))

-- the run follows the schedule, or an offer can be taken up by it
abbrev pub Reaches : Place → List Leg → ℕ → List ℕ → List Leg → List ℕ → Type 0
Reaches p before left order legs schedule =
    (follows p (turns_of legs) schedule ≡ true) ⊎ (list_any (λ (o : Offer). begins (path_of o) (schedule_of before ++ schedule)) (offered before left order legs) ≡ true)

-- all threads that can go on are in the order
abbrev pub AreIn : Place → List ℕ → Type 0
AreIn p order = (u : ℕ) → IsAmong p.going u → IsAmong order u

pub going_of : (p : Place) (u : ℕ) → may p u ≡ true → IsAmong p.going u
going_of p u h = (and_parts (list_any (nat_eq u) p.going) (not (is_switch p.last u) || nat_lt 0 p.left) h).0

-- a switch is made only where one is left
switch_left : (p : Place) (thread u : ℕ) → may (within_leg p thread) u ≡ true → nat_eq u thread ≡ false → 1 ≤ (within_leg p thread).left
switch_left p thread u h other =
    let q = within_leg p thread in
    let not_same : nat_eq thread u ≡ false = swapped in
    let may_switch = (and_parts (list_any (nat_eq u) q.going) (not (is_switch q.last u) || nat_lt 0 q.left) h).1 in
    elim (or_cases (not (is_switch q.last u)) (nat_lt 0 q.left) may_switch) [
      | inl none ↦ absurd (false≢true (sym (not_from_true (is_switch q.last u) (not_from_false (nat_eq thread u) not_same)) ∙ none))
      | inr some ↦ ltb-true 0 q.left some
    ]
  where
    swapped : nat_eq thread u ≡ false
    swapped = elim (cases_Bool (nat_eq thread u)) [
      | inl is ↦ absurd (false≢true (sym other ∙ subst (λ (n : ℕ). nat_eq n thread ≡ true) (eqb-true thread u is) (same thread)))
      | inr differs ↦ differs
    ]

-- a schedule that leaves a leg within it
within_offers : (p : Place) (before : List Leg) (left t : ℕ) (others : List ℕ) (leg : Leg) (further : List Leg) (rest : List ℕ)
    → leg.thread ≡ t → 1 ≤ leg.turns → (within_leg p t).left ≡ left → AreIn p (t ∷ others)
    → Leaves (within_leg p t) t (leg.turns - 1) rest
    → list_any (λ (o : Offer). begins (path_of o) (schedule_of before ++ t ∷ rest)) (offered before left (t ∷ others) (leg ∷ further)) ≡ true
within_offers p before zero t others leg further rest thread some left_is inside l =
    absurd (let a = switch_left p t l.other l.may_go l.another in omega (arith, a, left_is))
within_offers p before (suc left) t others leg further rest thread some left_is inside l =
    any_left P (offers_within before left others leg.thread (leg.turns - 1)) _
    (subst (λ (s : List ℕ). list_any (λ (o : Offer). begins (path_of o) (schedule_of before ++ s)) (offers_within before left others leg.thread (leg.turns - 1)) ≡ true)
    ((λ i. replicate (suc l.turns) (thread i) ++ l.other ∷ l.rest) ∙ ap (λ (s : List ℕ). t ∷ s) (sym l.leaves))
    (in_within before left others leg.thread (leg.turns - 1) (suc l.turns) l.other l.rest (omega arith) (let w = l.within in omega (arith, w)) among))
  where
    P : Offer → Bool
    P o = begins (path_of o) (schedule_of before ++ t ∷ rest)

    among : IsAmong others l.other
    among = among_others l.other t others (inside l.other (going_of (within_leg p t) l.other l.may_go)) l.another

pub follows_nil : (p : Place) (ts : List Turn) → follows p ts [] ≡ true
follows_nil p [] = refl
follows_nil p (t ∷ ts) = refl

-- another thread than the one whose leg comes
other_first : (b : Place) (t : ℕ) (m : ℕ) (ts : List Turn) (u : ℕ) (rest : List ℕ) → nat_eq u t ≡ false
    → follows b (turns_with t true (suc m) ++ ts) (u ∷ rest) ≡ not (may b u)
other_first b t zero ts u rest differs = cond-false (nat_eq u t) (follows (after_leg b t) ts rest) (not (may b u)) differs
other_first b t (suc m) ts u rest differs = cond-false (nat_eq u t) (follows (within_leg b t) (turns_with t true (suc m) ++ ts) rest) (not (may b u)) differs

-- where a thread has ended, the others can go on
pub after_in : (p : Place) (t : ℕ) (others : List ℕ) → AreIn p (t ∷ others) → AreIn (after_leg p t) others
after_in p t others inside u h =
    let out = without_out u t p.going h in
    among_others u t others (inside u out.0) out.1

-- the last leg: nothing can go on after it
last_leg : (p : Place) (before : List Leg) (left t : ℕ) (leg : Leg) (rest : List ℕ)
    → leg.thread ≡ t → leg.over ≡ true → 1 ≤ leg.turns → (within_leg p t).left ≡ left → AreIn p (t ∷ [])
    → Crosses p t [] (leg.turns - 1) rest → Reaches p before left (t ∷ []) (leg ∷ []) (t ∷ rest)
last_leg p before left t leg rest thread over some left_is inside crossed = by crossed
  where
    turns : turns_of (leg ∷ []) ≡ turns_with t true (suc (leg.turns - 1)) ++ []
    turns = ap (λ (l : List Turn). l ++ []) (whole_leg t leg thread over some)

    ended : (s : List ℕ) → follows (after_leg p t) [] s ≡ true
    ended [] = refl
    ended (u ∷ s) = elim (cases_Bool (may (after_leg p t) u)) [
      | inl agrees ↦ absurd (false≢true (after_in p t [] inside u (going_of (after_leg p t) u agrees)))
      | inr differs ↦ not_from_false (may (after_leg p t) u) differs
    ]

    by : Crosses p t [] (leg.turns - 1) rest → Reaches p before left (t ∷ []) (leg ∷ []) (t ∷ rest)
    by (inl is) = inl (ap (λ (l : List Turn). follows p l (t ∷ rest)) turns ∙ is)
    by (inr (inl l)) = inr (within_offers p before left t [] leg [] rest thread some left_is inside l)
    by (inr (inr k)) = inl (ap (λ (l : List Turn). follows p l (t ∷ rest)) turns ∙ k.as_rest ∙ ended k.rest)

-- a leg after which another comes, by what is so from there
next_leg : (p : Place) (before : List Leg) (left t t2 : ℕ) (others : List ℕ) (leg leg2 : Leg) (further : List Leg) (rest : List ℕ)
    → leg.thread ≡ t → leg.over ≡ true → 1 ≤ leg.turns → (within_leg p t).left ≡ left → AreIn p (t ∷ t2 ∷ others)
    → leg2.thread ≡ t2 → leg2.over ≡ true → 1 ≤ leg2.turns
    → ((s : List ℕ) → Reaches (after_leg p t) (before ++ leg ∷ []) left (t2 ∷ others) (leg2 ∷ further) (t2 ∷ s))
    → Crosses p t (turns_of (leg2 ∷ further)) (leg.turns - 1) rest
    → Reaches p before left (t ∷ t2 ∷ others) (leg ∷ leg2 ∷ further) (t ∷ rest)
next_leg p before left t t2 others leg leg2 further rest thread over some left_is inside thread2 over2 some2 onward crossed = by crossed
  where
    Q : List ℕ → Offer → Bool
    Q s o = begins (path_of o) s

    later : List Turn
    later = turns_of (leg2 ∷ further)

    turns : turns_of (leg ∷ leg2 ∷ further) ≡ turns_with t true (suc (leg.turns - 1)) ++ later
    turns = ap (λ (l : List Turn). l ++ later) (whole_leg t leg thread over some)

    -- the schedule, from the end of the leg on
    as_after : (s : List ℕ) → t ∷ rest ≡ replicate (suc (leg.turns - 1)) t ++ s → schedule_of (before ++ leg ∷ []) ++ s ≡ schedule_of before ++ t ∷ rest
    as_after s is =
        let many : leg.turns ≡ suc (leg.turns - 1) = omega (arith, some) in
        ap (λ (l : List ℕ). l ++ s) (schedule_more before leg) ∙ append_assoc (schedule_of before) (replicate leg.turns leg.thread) s
        ∙ (λ i. schedule_of before ++ (replicate (many i) (thread i) ++ s)) ∙ ap (λ (l : List ℕ). schedule_of before ++ l) (sym is)

    after_offers : List Offer
    after_offers = offers_to (before ++ leg ∷ []) left others

    later_offers : List Offer
    later_offers = offered (before ++ leg ∷ []) left (t2 ∷ others) (leg2 ∷ further)

    through : (s : List ℕ) → t ∷ rest ≡ replicate (suc (leg.turns - 1)) t ++ s
        → follows p (turns_with t true (suc (leg.turns - 1)) ++ later) (t ∷ rest) ≡ follows (after_leg p t) later s
        → Reaches p before left (t ∷ t2 ∷ others) (leg ∷ leg2 ∷ further) (t ∷ rest)
    through [] passes as_rest = inl (ap (λ (l : List Turn). follows p l (t ∷ rest)) turns ∙ as_rest ∙ follows_nil (after_leg p t) later)
    through (u ∷ s) passes as_rest = by_next (cases_Bool (nat_eq u t2)) (cases_Bool (may (after_leg p t) u))
      where
        first_later : later ≡ turns_with t2 true (suc (leg2.turns - 1)) ++ turns_of further
        first_later = ap (λ (l : List Turn). l ++ turns_of further) (whole_leg t2 leg2 thread2 over2 some2)

        by_next : (nat_eq u t2 ≡ true) ⊎ (nat_eq u t2 ≡ false) → (may (after_leg p t) u ≡ true) ⊎ (may (after_leg p t) u ≡ false)
            → Reaches p before left (t ∷ t2 ∷ others) (leg ∷ leg2 ∷ further) (t ∷ rest)
        by_next (inl agrees) go = elim (onward s) [
          | inl is ↦ inl (ap (λ (l : List Turn). follows p l (t ∷ rest)) turns ∙ as_rest ∙ ap (λ (n : ℕ). follows (after_leg p t) later (n ∷ s)) (eqb-true u t2 agrees) ∙ is)
          | inr is ↦ inr (any_right (Q (schedule_of before ++ t ∷ rest)) (switches_in before left (t2 ∷ others) leg) (after_offers ++ later_offers)
              (any_right (Q (schedule_of before ++ t ∷ rest)) after_offers later_offers
              (subst (λ (l : List ℕ). list_any (Q l) later_offers ≡ true)
              (ap (λ (n : ℕ). schedule_of (before ++ leg ∷ []) ++ n ∷ s) (sym (eqb-true u t2 agrees)) ∙ as_after (u ∷ s) passes) is)))
        ]
        by_next (inr differs) (inr none) =
            inl (ap (λ (l : List Turn). follows p l (t ∷ rest)) turns ∙ as_rest ∙ ap (λ (l : List Turn). follows (after_leg p t) l (u ∷ s)) first_later
            ∙ other_first (after_leg p t) t2 (leg2.turns - 1) (turns_of further) u s differs ∙ not_from_false (may (after_leg p t) u) none)
        by_next (inr differs) (inl agrees) =
            inr (any_right (Q (schedule_of before ++ t ∷ rest)) (switches_in before left (t2 ∷ others) leg) (after_offers ++ later_offers)
            (any_left (Q (schedule_of before ++ t ∷ rest)) after_offers later_offers
            (subst (λ (l : List ℕ). list_any (Q l) after_offers ≡ true) (as_after (u ∷ s) passes)
            (in_offers (before ++ leg ∷ []) left others u s
            (among_others u t2 others (after_in p t (t2 ∷ others) inside u (going_of (after_leg p t) u agrees)) differs)))))

    by : Crosses p t later (leg.turns - 1) rest → Reaches p before left (t ∷ t2 ∷ others) (leg ∷ leg2 ∷ further) (t ∷ rest)
    by (inl is) = inl (ap (λ (l : List Turn). follows p l (t ∷ rest)) turns ∙ is)
    by (inr (inl l)) = inr (within_offers p before left t (t2 ∷ others) leg (leg2 ∷ further) rest thread some left_is inside l)
    by (inr (inr k)) = through k.rest k.passes k.as_rest

-- A schedule that has the first turn of the legs of an order is followed by them, or an offer can be taken up by it.
pub reach : (p : Place) (before : List Leg) (left t : ℕ) (others : List ℕ) (leg : Leg) (further : List Leg)
    → LeadToEnds (t ∷ others) (leg ∷ further) → (within_leg p t).left ≡ left → AreIn p (t ∷ others) → (rest : List ℕ)
    → Reaches p before left (t ∷ others) (leg ∷ further) (t ∷ rest)
reach p before left t [] leg [] ends left_is inside rest =
    last_leg p before left t leg rest ends.0 ends.1 ends.2 left_is inside (cross p t [] (leg.turns - 1) rest)
reach p before left t [] leg (leg2 ∷ further) ends left_is inside rest = absurd ends.3
reach p before left t (t2 ∷ others) leg [] ends left_is inside rest = absurd ends.3
reach p before left t (t2 ∷ others) leg (leg2 ∷ further) ends left_is inside rest =
    next_leg p before left t t2 others leg leg2 further rest ends.0 ends.1 ends.2 left_is inside ends.3.0 ends.3.1 ends.3.2
    (reach (after_leg p t) (before ++ leg ∷ []) left t2 others leg2 further ends.3 left_is (after_in p t (t2 ∷ others) inside))
    (cross p t (turns_of (leg2 ∷ further)) (leg.turns - 1) rest)
