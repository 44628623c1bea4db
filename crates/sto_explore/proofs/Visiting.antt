-- What a visit and a whole exploration come to.
use Rattle.std.specs.Prelude.{◌⊎◌, max}
use Rattle.std.specs.List.{AllByRecursion, list_any, filter}
use Rattle.std.proofs.Common.{◌≡◌, ◌≤◌, ◌+◌, ◌-◌, ℕ, suc, List, [], ◌∷◌, ◌++◌, drop, length, refl, sym, ap, ◌∙◌, subst, arith, Bool, true, false, not, ◌&&◌, inl, inr, append_assoc, nat_eq}
use Rattle.std.proofs.lemmas.Bool.{cases_Bool, and_parts, and_from, or_from, or_cases, or_left, or_right, cond-false, not_from_false, eqb-true, both_ways, false≢true, false_from_ne_true}
use Rattle.std.proofs.lemmas.List.{map-append, length-append}
use Rattle.sto_explore.specs.Schedules.{Turn, Place, may, after, is_within, follows}
use Rattle.sto_explore.specs.Legs.{turns_with, turns_of, threads_of, schedule_of, after_all, IsAmong, AreApart, LeadToEnds, AreTold}
use Rattle.sto_explore.specs.Branches.{Offer, offers_to, offered, begins, path_of, way_of, GoesOnFrom, Part}
use Rattle.sto_explore.specs.Explored.{Found, IsFound, EachTwo, Differ, AreExplored, AreTooMany, start_of}
use Rattle.sto_explore.specs.Exploring.{GoesOn, FirstGoesOn, HasFirst, IsBegun, IsOffer, IsOrdered, HasVisited, IsUnderWay, ended, order_after}
use Rattle.sto_explore.specs.declared.leg.Leg.{Leg}
use Rattle.sto_explore.proofs.Following.{after_leg, after_append, after_whole, follows_through}
use Rattle.sto_explore.proofs.Among.{any_left, any_right, among_others, in_offers}
use Rattle.sto_explore.proofs.Reaching.{whole_leg, AreIn, after_in, reach, follows_nil, going_of}
use Rattle.sto_explore.proofs.Offering.{all_append, all_split, turns_append, drop_among, offered_good, offers_good}
use Rattle.sto_explore.proofs.Ordering.{going_out}
use Rattle.sto_explore.proofs.Parting.{all_with, all_swapped, two_append, two_front, two_with, part_sym, part_onward, part_from, part_refuses, after_from, after_apart, offered_apart}

schedule_append : (xs ys : List Leg) → schedule_of (xs ++ ys) ≡ schedule_of xs ++ schedule_of ys
schedule_append xs ys = ap threads_of (turns_append xs ys) ∙ map-append (λ (t : Turn). t.thread) (turns_of xs) (turns_of ys)

-- after the legs of all that can go on none can
none_goes_on : (p : Place) (order : List ℕ) (made : List Leg) → LeadToEnds order made → AreIn p order
    → (u : ℕ) → may (after_all p (turns_of made)) u ≡ false
none_goes_on p [] [] ends inside u = false_from_ne_true (may p u) (λ goes. false≢true (inside u (going_of p u goes)))
none_goes_on p [] (leg ∷ made) ends inside u = absurd ends
none_goes_on p (t ∷ others) [] ends inside u = absurd ends
none_goes_on p (t ∷ others) (leg ∷ made) ends inside u =
    let there : after_all p (turns_of (leg ∷ made)) ≡ after_all (after_leg p t) (turns_of made) =
    after_append p (turns_with leg.thread leg.over leg.turns) (turns_of made)
    ∙ ap (λ (q : Place). after_all q (turns_of made)) (ap (after_all p) (whole_leg t leg ends.0 ends.1 ends.2) ∙ after_whole p t (leg.turns - 1)) in
    subst (λ (q : Place). may q u ≡ false) (sym there) (none_goes_on (after_leg p t) others made ends.3 (after_in p t others inside) u)

-- where no thread can go on, a run follows what comes
none_left : (p : Place) (s : List ℕ) → ((u : ℕ) → IsAmong p.going u → IsAmong [] u) → follows p [] s ≡ true
none_left p [] none = refl
none_left p (u ∷ s) none = elim (cases_Bool (may p u)) [
  | inl is ↦ absurd (false≢true (none u (going_of p u is)))
  | inr is_not ↦ not_from_false (may p u) is_not
]

reached : (p : Place) (before : List Leg) (left : ℕ) (order : List ℕ) (made : List Leg) → LeadToEnds order made
    → ((u : ℕ) → IsAmong p.going u → IsAmong order u) → ((t : ℕ) (others : List ℕ) → order ≡ t ∷ others → GoesOn p left t)
    → (s : List ℕ) → HasFirst order s
    → (follows p (turns_of made) s ≡ true) ⊎ (list_any (λ (o : Offer). begins (path_of o) (schedule_of before ++ s)) (offered before left order made) ≡ true)
reached p before left [] [] ends inside goes s first = inl (none_left p s inside)
reached p before left [] (leg ∷ made) ends inside goes s first = absurd ends
reached p before left (t ∷ others) [] ends inside goes s first = absurd ends
reached p before left (t ∷ others) (leg ∷ made) ends inside goes [] first = absurd first
reached p before left (t ∷ others) (leg ∷ made) ends inside goes (u ∷ s) first =
    subst (λ (n : ℕ). (follows p (turns_of (leg ∷ made)) (n ∷ s) ≡ true) ⊎ (list_any (λ (o : Offer). begins (path_of o) (schedule_of before ++ n ∷ s)) (offered before left (t ∷ others) (leg ∷ made)) ≡ true))
    (sym first) (reach p before left t others leg made ends (goes t others refl).1 inside s)

module _ {P : Type 0} (start : Place) (tells : List ℕ → Bool → Type 0) (reports : List ℕ → P → Type 0) where
  first_goes : (p : Place) (left : ℕ) (order : List ℕ) → FirstGoesOn p left order → (t : ℕ) (others : List ℕ) → order ≡ t ∷ others → GoesOn p left t
  first_goes p left order h t others is = subst (FirstGoesOn p left) is h

  -- a visit
  pub visited : (holds held : List (Found P) → Type 0) (legs made all : List Leg) (left : ℕ) (order : List ℕ) (report : P) (was now : List Offer)
      → IsOrdered start tells legs left order → LeadToEnds order made → AreTold tells (schedule_of legs) (turns_of made)
      → reports (schedule_of legs ++ schedule_of made) report → all ≡ legs ++ made → now ≡ was ++ offered legs left order made
      → ((xs : List (Found P)) → holds xs → held (xs ++ (record { legs = all; report = report }) ∷ []))
      → HasVisited start tells reports holds held legs order was now
  visited holds held legs made all left order report was now h ends told reported whole added held_then =
      let p = after_all start (turns_of legs) in
      let good = offered_good start tells legs p left order made ends h.begun refl h.first h.can
      (λ u k. (going_out start.going legs start u h.begun.fit k).0) h.apart told in
      let begun : IsBegun start tells all = subst (IsBegun start tells) (sym whole) good.1 in
      let apart = offered_apart start legs left order made ends h.first h.can h.apart in
      record {
        x = record { legs = all; report = report };
        found = record {
          within = begun.within;
          ends = λ u. subst (λ (q : Place). may q u ≡ false)
              (sym (ap (λ (ls : List Leg). after_all start (turns_of ls)) whole ∙ ap (after_all start) (turns_append legs made) ∙ after_append start (turns_of legs) (turns_of made)))
              (none_goes_on p order made ends h.all u);
          told = begun.told;
          reported = subst (λ (s : List ℕ). reports s report) (sym (ap schedule_of whole ∙ schedule_append legs made)) reported;
        };
        holds_then = held_then;
        offers = offered legs left order made;
        added = added;
        each = good.0;
        part = subst (λ (ls : List Leg). AllByRecursion (λ (o : Offer). Part start (turns_of ls) (way_of o)) (offered legs left order made)) (sym whole) apart.from_run;
        offers_part = apart.apart;
        onward = subst (λ (ls : List Leg). GoesOnFrom (turns_of legs) order (turns_of ls)) (sym whole) apart.run_onward;
        offers_onward = apart.onward;
        reaches = λ s first. (elim (reached p legs left order made ends h.all (first_goes p left order h.first) s first) [
          | inl is ↦ inl (ap (λ (ls : List Leg). follows start (turns_of ls) (schedule_of legs ++ s)) whole
              ∙ ap (λ (l : List Turn). follows start l (schedule_of legs ++ s)) (turns_append legs made) ∙ follows_through start (turns_of legs) (turns_of made) s ∙ is)
          | inr is ↦ inr is
        ]);
      }

  -- a schedule whose first turn may not be had is followed by each run
  refused : (turns : List Turn) (u : ℕ) (s : List ℕ) → is_within start turns ≡ true → may start u ≡ false → follows start turns (u ∷ s) ≡ true
  refused [] u s within none = not_from_false (may start u) none
  refused (turn ∷ turns) u s within none =
      let goes = (and_parts (may start turn.thread) (is_within (after start turn) turns) within).0 in
      elim (cases_Bool (nat_eq u turn.thread)) [
        | inl is ↦ absurd (both_ways (may start u) none (subst (λ (n : ℕ). may start n ≡ true) (sym (eqb-true u turn.thread is)) goes))
        | inr is_not ↦ cond-false (nat_eq u turn.thread) (follows (after start turn) turns s) (not (may start u)) is_not ∙ not_from_false (may start u) none
      ]

  abbrev followed : List (Found P) → List ℕ → Bool
  followed xs s = list_any (λ (x : Found P). follows start (turns_of x.legs) s) xs

  abbrev RunsPart : Found P → Found P → Type 0
  RunsPart x y = Part start (turns_of x.legs) (turns_of y.legs)

  abbrev OffersPart : Offer → Offer → Type 0
  OffersPart a b = Part start (way_of a) (way_of b)

  abbrev PartsFrom : Found P → Offer → Type 0
  PartsFrom x o = Part start (turns_of x.legs) (way_of o)

  -- one run more
  pub going_on : (holds held : List (Found P) → Type 0) (made : ℕ) (todo rest now : List Offer) (o : Offer) → todo ≡ rest ++ o ∷ []
      → IsUnderWay start tells reports holds made todo
      → HasVisited start tells reports holds held o.legs (order_after start.going o.legs o.next) rest now
      → IsUnderWay start tells reports held (made + 1) now
  going_on holds held made todo rest now o popped was v = record {
    xs = was.xs ++ v.x ∷ [];
    holds = v.holds_then was.xs was.holds;
    many = length-append was.xs (v.x ∷ []) ∙ ap (λ (n : ℕ). n + 1) was.many;
    each = all_append (IsFound start tells reports) was.xs (v.x ∷ []) was.each (v.found, tt);
    offers = subst (AllByRecursion (IsOffer start tells)) (sym v.added)
        (all_append (IsOffer start tells) rest v.offers (all_split (IsOffer start tells) rest (o ∷ []) (subst (AllByRecursion (IsOffer start tells)) popped was.offers)).0 v.each);
    runs_part = two_append RunsPart was.xs (v.x ∷ []) was.runs_part (tt, tt)
        (all_with Parts (λ x. AllByRecursion (RunsPart x) (v.x ∷ [])) (λ x h. (part_from start o others (turns_of v.x.legs) (turns_of x.legs) v.onward h.1, tt)) was.xs parts);
    offers_part = subst (EachTwo OffersPart) (sym v.added) (two_append OffersPart rest v.offers two.0 v.offers_part
        (all_with (λ r. OffersPart r o) (λ r. AllByRecursion (OffersPart r) v.offers) (λ r. on_to_offers (way_of r)) rest two.1));
    part = all_append (λ x. AllByRecursion (PartsFrom x) now) was.xs (v.x ∷ [])
        (all_with Parts (λ x. AllByRecursion (PartsFrom x) now) (λ x h. as_now x (all_append (PartsFrom x) rest v.offers h.0 (on_to_offers (turns_of x.legs) h.1))) was.xs parts)
        (as_now v.x (all_append (PartsFrom v.x) rest v.offers (all_with (λ r. OffersPart r o) (PartsFrom v.x) from_run rest two.1) v.part), tt);
    complete = λ s. from s (was.complete s);
  }
    where
      others : List ℕ
      others = filter (λ thread. not (nat_eq thread o.next) && not (ended o.legs thread)) start.going

      -- what parted from the offer parts from what became of it
      on_to_offers : (ys : List Turn) → Part start ys (way_of o) → AllByRecursion (λ n. Part start ys (way_of n)) v.offers
      on_to_offers ys h =
          all_with (λ n. GoesOnFrom (turns_of o.legs) (o.next ∷ others) (way_of n)) (λ n. Part start ys (way_of n)) (λ n on. part_from start o others (way_of n) ys on h) v.offers v.offers_onward

      from_run : (r : Offer) → OffersPart r o → PartsFrom v.x r
      from_run r h = part_onward start o others (turns_of v.x.legs) (way_of r) v.onward (part_sym start (way_of r) (way_of o) h)

      two : EachTwo OffersPart rest × AllByRecursion (λ r. OffersPart r o) rest
      two = two_front OffersPart rest o (subst (EachTwo OffersPart) popped was.offers_part)

      Parts : Found P → Type 0
      Parts x = AllByRecursion (PartsFrom x) rest × PartsFrom x o

      parts : AllByRecursion Parts was.xs
      parts =
          all_with (λ x. AllByRecursion (PartsFrom x) todo) Parts
          (λ x h. let k = all_split (PartsFrom x) rest (o ∷ []) (subst (AllByRecursion (PartsFrom x)) popped h) in (k.0, k.1.0)) was.xs was.part

      as_now : (x : Found P) → AllByRecursion (PartsFrom x) (rest ++ v.offers) → AllByRecursion (PartsFrom x) now
      as_now x h = subst (AllByRecursion (PartsFrom x)) (sym v.added) h

      Q : List ℕ → Offer → Bool
      Q s x = begins (path_of x) s

      Goal : List ℕ → Type 0
      Goal s = (followed (was.xs ++ v.x ∷ []) s ≡ true) ⊎ (list_any (Q s) now ≡ true)

      in_now : (s : List ℕ) → list_any (Q s) (rest ++ v.offers) ≡ true → Goal s
      in_now s h = inr (subst (λ (l : List Offer). list_any (Q s) l ≡ true) (sym v.added) h)

      taken : (s s' : List ℕ) → s ≡ path_of o ++ s' → Goal s
      taken s s' is =
          let split : s ≡ schedule_of o.legs ++ o.next ∷ s' = is ∙ append_assoc (schedule_of o.legs) (o.next ∷ []) s' in
          elim (v.reaches (o.next ∷ s') refl) [
            | inl h ↦ inl (any_right (λ (x : Found P). follows start (turns_of x.legs) s) was.xs (v.x ∷ [])
                (or_left (follows start (turns_of v.x.legs) s) false (ap (follows start (turns_of v.x.legs)) split ∙ h)))
            | inr h ↦ in_now s (any_right (Q s) rest v.offers (subst (λ (l : List ℕ). list_any (Q l) v.offers ≡ true) (sym split) h))
          ]

      begins_split : (a s : List ℕ) → begins a s ≡ true → (s' : List ℕ) × (s ≡ a ++ s')
      begins_split [] s h = (s, refl)
      begins_split (x ∷ a) [] h = absurd (false≢true h)
      begins_split (x ∷ a) (y ∷ s) h =
          let both = and_parts (nat_eq x y) (begins a s) h in
          let k = begins_split a s both.1 in
          (k.0, (λ i. sym (eqb-true x y both.0) i ∷ k.1 i))

      any_cases : {X : Type 0} (f : X → Bool) (xs ys : List X) → list_any f (xs ++ ys) ≡ true → (list_any f xs ≡ true) ⊎ (list_any f ys ≡ true)
      any_cases f [] ys h = inr h
      any_cases f (x ∷ xs) ys h = elim (or_cases (f x) (list_any f (xs ++ ys)) h) [
        | inl here ↦ inl (or_left (f x) (list_any f xs) here)
        | inr there ↦ elim (any_cases f xs ys there) [
          | inl a ↦ inl (or_right (f x) (list_any f xs) a)
          | inr b ↦ inr b
        ]
      ]

      from : (s : List ℕ) → (followed was.xs s ≡ true) ⊎ (list_any (Q s) todo ≡ true) → Goal s
      from s (inl h) = inl (any_left (λ (x : Found P). follows start (turns_of x.legs) s) was.xs (v.x ∷ []) h)
      from s (inr h) = elim (any_cases (Q s) rest (o ∷ []) (subst (λ (l : List Offer). list_any (Q s) l ≡ true) popped h)) [
        | inl a ↦ in_now s (any_left (Q s) rest v.offers a)
        | inr b ↦ elim (or_cases (Q s o) false b) [
          | inl c ↦ (let k = begins_split (path_of o) s c in taken s k.0 k.1)
          | inr c ↦ absurd (false≢true c)
        ]
      ]

  -- runs that part differ
  differ_all : (xs : List (Found P)) → EachTwo RunsPart xs → EachTwo (Differ start) xs
  differ_all xs h =
      two_with RunsPart (Differ start) (λ x y k. (part_refuses start (turns_of x.legs) (turns_of y.legs) k, part_refuses start (turns_of y.legs) (turns_of x.legs) (part_sym start (turns_of x.legs) (turns_of y.legs) k))) xs h

  -- at the end
  pub all_explored : (held : List (Found P) → Type 0) (made most : ℕ) (todo : List Offer) → todo ≡ [] → made ≤ most
      → IsUnderWay start tells reports held made todo → (xs : List (Found P)) × held xs × AreExplored start tells reports xs × (length xs ≤ most)
  all_explored held made most todo none few was = (
    was.xs,
    was.holds,
    record {
      each = was.each;
      distinct = differ_all was.xs was.runs_part;
      complete = λ s. (elim (was.complete s) [
        | inl is ↦ is
        | inr is ↦ absurd (false≢true (subst (λ (l : List Offer). list_any (λ (o : Offer). begins (path_of o) s) l ≡ true) none is))
      ]);
    },
    subst (λ (n : ℕ). n ≤ most) (sym was.many) few,
  )

  -- where an offer is left, no run follows it
  pub too_many : (held : List (Found P) → Type 0) (made limit : ℕ) (todo : List Offer) → 1 ≤ length todo → made ≡ max 1 limit
      → IsUnderWay start tells reports held made todo → (xs : List (Found P)) × held xs × AreTooMany start tells reports limit xs
  too_many held made limit [] some all was = absurd (omega (arith, some))
  too_many held made limit (o ∷ rest) some all was = (
    was.xs,
    was.holds,
    record {
      each = was.each;
      distinct = differ_all was.xs was.runs_part;
      many = was.many ∙ all;
      left_out = (path_of o, none was.xs was.part);
    },
  )
    where
      path : threads_of (way_of o) ≡ path_of o
      path = map-append (λ (t : Turn). t.thread) (turns_of o.legs) (record { thread = o.next; over = false } ∷ [])

      none : (xs : List (Found P)) → AllByRecursion (λ x. AllByRecursion (PartsFrom x) (o ∷ rest)) xs
          → list_any (λ (x : Found P). follows start (turns_of x.legs) (path_of o)) xs ≡ false
      none [] h = refl
      none (x ∷ xs) h =
          or_from (follows start (turns_of x.legs) (path_of o)) (list_any (λ (y : Found P). follows start (turns_of y.legs) (path_of o)) xs)
          (ap (follows start (turns_of x.legs)) (sym path) ∙ part_refuses start (turns_of x.legs) (way_of o) h.0.0) (none xs h.1)

  -- the offer that is taken up
  pub last_offer : (todo rest : List Offer) (o : Offer) → todo ≡ rest ++ o ∷ [] → AllByRecursion (IsOffer start tells) todo → IsOffer start tells o
  last_offer todo rest o popped h = (back rest (subst (AllByRecursion (IsOffer start tells)) popped h)).0
    where
      back : (xs : List Offer) → AllByRecursion (IsOffer start tells) (xs ++ o ∷ []) → AllByRecursion (IsOffer start tells) (o ∷ [])
      back [] k = k
      back (x ∷ xs) k = back xs k.1

-- the first run, with the offers to the other threads
pub first_run : {P : Type 0} (switches : ℕ) (threads : List ℕ) (tells : List ℕ → Bool → Type 0) (reports : List ℕ → P → Type 0) (holds held : List (Found P) → Type 0) (was now : List Offer)
    → holds [] → was ≡ offers_to [] switches (drop 1 threads) → AreApart threads
    → HasVisited (start_of switches threads) tells reports holds held [] threads was now
    → IsUnderWay (start_of switches threads) tells reports held 1 now
first_run {P} switches threads tells reports holds held was now none offers_are apart v = record {
  xs = v.x ∷ [];
  holds = v.holds_then [] none;
  many = refl;
  each = (v.found, tt);
  offers = subst (AllByRecursion (IsOffer start tells)) (sym v.added) (all_append (IsOffer start tells) was v.offers
      (subst (AllByRecursion (IsOffer start tells)) (sym offers_are) (offers_good start tells [] switches (drop 1 threads) (record { within = refl; told = tt; fit = tt })
      (λ u h. (goes u (drop_among threads u h), refl)))) v.each);
  runs_part = (tt, tt);
  offers_part = subst (EachTwo Two) (sym added) (two_append Two others v.offers (after_apart start [] switches threads apart goes) v.offers_part
      (all_swapped Two Two (λ (a b : Offer). part_sym start (way_of a) (way_of b)) v.offers others
      (all_with (λ n. GoesOnFrom [] threads (way_of n)) (λ n. AllByRecursion (Two n) others) (λ n. after_from start [] switches threads (way_of n) apart goes) v.offers v.offers_onward)));
  part = (
    subst (AllByRecursion From) (sym added) (all_append From others v.offers (after_from start [] switches threads (turns_of v.x.legs) apart goes v.onward) v.part),
    tt,
  );
  complete = λ s. by s threads refl;
}
  where
    start : Place
    start = start_of switches threads

    goes : (u : ℕ) → IsAmong threads u → may start u ≡ true
    goes u h = and_from (list_any (nat_eq u) threads) true h refl

    others : List Offer
    others = offers_to [] switches (drop 1 threads)

    added : now ≡ others ++ v.offers
    added = v.added ∙ ap (λ (l : List Offer). l ++ v.offers) offers_are

    Two : Offer → Offer → Type 0
    Two a b = Part start (way_of a) (way_of b)

    From : Offer → Type 0
    From o = Part start (turns_of v.x.legs) (way_of o)

    Goal : List ℕ → Type 0
    Goal s = (list_any (λ (x : Found P). follows start (turns_of x.legs) s) (v.x ∷ []) ≡ true) ⊎ (list_any (λ (o : Offer). begins (path_of o) s) now ≡ true)

    through : (s : List ℕ) → (follows start (turns_of v.x.legs) s ≡ true) ⊎ (list_any (λ (o : Offer). begins (path_of o) s) v.offers ≡ true) → Goal s
    through s (inl h) = inl (or_left (follows start (turns_of v.x.legs) s) false h)
    through s (inr h) = inr (subst (λ (l : List Offer). list_any (λ (o : Offer). begins (path_of o) s) l ≡ true) (sym v.added) (any_right (λ (o : Offer). begins (path_of o) s) was v.offers h))

    other : (t u : ℕ) (ts s : List ℕ) → threads ≡ t ∷ ts → nat_eq u t ≡ false → (may start u ≡ true) ⊎ (may start u ≡ false) → Goal (u ∷ s)
    other t u ts s is is_not (inr none) = through (u ∷ s) (inl (refused start tells reports (turns_of v.x.legs) u s v.found.within none))
    other t u ts s is is_not (inl goes) =
        inr (subst (λ (l : List Offer). list_any (λ (o : Offer). begins (path_of o) (u ∷ s)) l ≡ true) (sym v.added)
        (any_left (λ (o : Offer). begins (path_of o) (u ∷ s)) was v.offers
        (subst (λ (l : List Offer). list_any (λ (o : Offer). begins (path_of o) (u ∷ s)) l ≡ true) (sym (offers_are ∙ ap (λ (l : List ℕ). offers_to [] switches (drop 1 l)) is))
        (in_offers [] switches ts u s (among_others u t ts (subst (λ (l : List ℕ). IsAmong l u) is (going_of start u goes)) is_not)))))

    by : (s ts : List ℕ) → threads ≡ ts → Goal s
    by [] ts is = through [] (inl (follows_nil start (turns_of v.x.legs)))
    by (u ∷ s) [] is = through (u ∷ s) (v.reaches (u ∷ s) (subst (λ (l : List ℕ). HasFirst l (u ∷ s)) (sym is) tt))
    by (u ∷ s) (t ∷ ts) is = elim (cases_Bool (nat_eq u t)) [
      | inl agrees ↦ through (u ∷ s) (v.reaches (u ∷ s) (subst (λ (l : List ℕ). HasFirst l (u ∷ s)) (sym is) (eqb-true u t agrees)))
      | inr differs ↦ other t u ts s is differs (cases_Bool (may start u))
    ]

-- as many legs as threads
pub many_ends : (order : List ℕ) (legs : List Leg) → LeadToEnds order legs → length order ≡ length legs
many_ends [] [] h = refl
many_ends [] (leg ∷ legs) h = absurd h
many_ends (t ∷ order) [] h = absurd h
many_ends (t ∷ order) (leg ∷ legs) h = ap (λ (n : ℕ). suc n) (many_ends order legs h.3)
