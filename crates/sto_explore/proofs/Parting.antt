-- Turns that part from others, and that offers do so from one another and from the run in which they are made.
use Rattle.std.specs.List.{AllByRecursion, list_any}
use Rattle.std.proofs.Common.{◌≡◌, ◌≤◌, ◌-◌, ℕ, zero, suc, List, [], ◌∷◌, ◌++◌, drop, refl, sym, ap, ◌∙◌, subst, arith, Bool, true, false, not, inl, inr, append_assoc, append-nil, nat_eq}
use Rattle.std.proofs.lemmas.Bool.{or_left, or_right, cond-true, cond-false, not_from_true}
use Rattle.sto_explore.specs.Schedules.{Turn, Place, may, after, follows}
use Rattle.sto_explore.specs.Legs.{turns_with, turns_of, threads_of, after_all, IsAmong, AreApart, LeadToEnds}
use Rattle.sto_explore.specs.Branches.{Offer, offers_to, offers_within, switches_in, offered, part_of, way_of, GoesOnFrom, Part}
use Rattle.sto_explore.specs.Explored.{EachTwo}
use Rattle.sto_explore.specs.Exploring.{GoesOn, FirstGoesOn}
use Rattle.sto_explore.specs.declared.leg.Leg.{Leg}
use Rattle.sto_explore.proofs.Following.{same, within_leg, after_leg, after_part, after_whole, may_stay}
use Rattle.sto_explore.proofs.Among.{without_in, others_are}
use Rattle.sto_explore.proofs.Reaching.{whole_leg}
use Rattle.sto_explore.proofs.Offering.{all_append, all_split, turns_more, may_switch, differ, goes_after, first_of, place_with}

-- all of some, and each two of them
pub all_with : {X : Type 0} (A B : X → Type 0) → ((x : X) → A x → B x) → (xs : List X) → AllByRecursion A xs → AllByRecursion B xs
all_with A B f [] h = tt
all_with A B f (x ∷ xs) h = (f x h.0, all_with A B f xs h.1)

pub all_both : {X Y : Type 0} (A B : X → Y → Type 0) → ((x : X) (y : Y) → A x y → B x y) → (xs : List X) (ys : List Y)
    → AllByRecursion (λ x. AllByRecursion (A x) ys) xs → AllByRecursion (λ x. AllByRecursion (B x) ys) xs
all_both A B f xs ys h = all_with (λ x. AllByRecursion (A x) ys) (λ x. AllByRecursion (B x) ys) (λ x. all_with (A x) (B x) (f x) ys) xs h

-- in the other order
pub all_swapped : {X Y : Type 0} (A : X → Y → Type 0) (B : Y → X → Type 0) → ((x : X) (y : Y) → A x y → B y x) → (xs : List X) (ys : List Y)
    → AllByRecursion (λ x. AllByRecursion (A x) ys) xs → AllByRecursion (λ y. AllByRecursion (B y) xs) ys
all_swapped A B f xs [] h = tt
all_swapped A B f xs (y ∷ ys) h = (
  all_with (λ x. AllByRecursion (A x) (y ∷ ys)) (B y) (λ x k. f x y k.0) xs h,
  all_swapped A B f xs ys (all_with (λ x. AllByRecursion (A x) (y ∷ ys)) (λ x. AllByRecursion (A x) ys) (λ x k. k.1) xs h),
)

pub two_append : {X : Type 0} (R : X → X → Type 0) (xs ys : List X) → EachTwo R xs → EachTwo R ys
    → AllByRecursion (λ x. AllByRecursion (R x) ys) xs → EachTwo R (xs ++ ys)
two_append R [] ys h k m = k
two_append R (x ∷ xs) ys h k m = (all_append (R x) xs ys h.0 m.0, two_append R xs ys h.1 k m.1)

pub two_front : {X : Type 0} (R : X → X → Type 0) (xs : List X) (y : X) → EachTwo R (xs ++ y ∷ []) → EachTwo R xs × AllByRecursion (λ x. R x y) xs
two_front R [] y h = (tt, tt)
two_front R (x ∷ xs) y h =
    let parts = all_split (R x) xs (y ∷ []) h.0 in
    let rest = two_front R xs y h.1 in
    ((parts.0, rest.0), (parts.1.0, rest.1))

pub two_with : {X : Type 0} (R S : X → X → Type 0) → ((x y : X) → R x y → S x y) → (xs : List X) → EachTwo R xs → EachTwo S xs
two_with R S f [] h = tt
two_with R S f (x ∷ xs) h = (all_with (R x) (S x) (f x) xs h.0, two_with R S f xs h.1)

-- what parts from turns parts from all that goes on from them
pub part_more : (p : Place) (xs more ys : List Turn) → Part p xs ys → Part p (xs ++ more) ys
part_more p [] more ys h = absurd h
part_more p (x ∷ xs) more [] h = absurd h
part_more p (x ∷ xs) more (y ∷ ys) (inl h) = inl (h.0, part_more (after p x) xs more ys h.1)
part_more p (x ∷ xs) more (y ∷ ys) (inr h) = inr h

pub part_sym : (p : Place) (xs ys : List Turn) → Part p xs ys → Part p ys xs
part_sym p [] ys h = absurd h
part_sym p (x ∷ xs) [] h = absurd h
part_sym p (x ∷ xs) (y ∷ ys) (inl h) = inl (sym h.0, part_sym (after p y) xs ys (subst (λ (t : Turn). Part (after p t) xs ys) h.0 h.1))
part_sym p (x ∷ xs) (y ∷ ys) (inr h) = inr (differ y.thread x.thread h.0, h.2, h.1)

part_under : (p : Place) (before xs ys : List Turn) → Part (after_all p before) xs ys → Part p (before ++ xs) (before ++ ys)
part_under p [] xs ys h = h
part_under p (t ∷ before) xs ys h = inl (refl, part_under (after p t) before xs ys h)

-- whether the thread is over after the last turn does not matter
part_last : (p : Place) (before : List Turn) (thread : ℕ) (was over : Bool) (more ys : List Turn)
    → Part p (before ++ record { thread = thread; over = was } ∷ []) ys → Part p (before ++ record { thread = thread; over = over } ∷ more) ys
part_last p [] thread was over more [] h = absurd h
part_last p [] thread was over more (y ∷ ys) (inl h) = absurd h.1
part_last p [] thread was over more (y ∷ ys) (inr h) = inr h
part_last p (x ∷ before) thread was over more [] h = absurd h
part_last p (x ∷ before) thread was over more (y ∷ ys) (inl h) = inl (h.0, part_last (after p x) before thread was over more ys h.1)
part_last p (x ∷ before) thread was over more (y ∷ ys) (inr h) = inr h

-- turns that go on from those of an offer part from what these part from
pub part_onward : (p : Place) (o : Offer) (others : List ℕ) (v ys : List Turn) → GoesOnFrom (turns_of o.legs) (o.next ∷ others) v
    → Part p (way_of o) ys → Part p v ys
part_onward p o others v ys on h = subst (λ (w : List Turn). Part p w ys) (sym on.2) (part_last p (turns_of o.legs) o.next false on.0 on.1 ys h)

-- and these part from those
pub part_from : (p : Place) (o : Offer) (others : List ℕ) (v ys : List Turn) → GoesOnFrom (turns_of o.legs) (o.next ∷ others) v
    → Part p ys (way_of o) → Part p ys v
part_from p o others v ys on h = part_sym p v ys (part_onward p o others v ys on (part_sym p ys (way_of o) h))

-- a run does not follow what parts from it
pub part_refuses : (p : Place) (xs ys : List Turn) → Part p xs ys → follows p xs (threads_of ys) ≡ false
part_refuses p [] ys h = absurd h
part_refuses p (x ∷ xs) [] h = absurd h
part_refuses p (x ∷ xs) (y ∷ ys) (inl h) =
    cond-true (nat_eq y.thread x.thread) (follows (after p x) xs (threads_of ys)) (not (may p y.thread)) (subst (λ (t : Turn). nat_eq t.thread x.thread ≡ true) h.0 (same x.thread))
    ∙ part_refuses (after p x) xs ys h.1
part_refuses p (x ∷ xs) (y ∷ ys) (inr h) =
    cond-false (nat_eq y.thread x.thread) (follows (after p x) xs (threads_of ys)) (not (may p y.thread)) (differ y.thread x.thread h.0)
    ∙ not_from_true (may p y.thread) h.2

-- turns of one thread, the last apart
front_turn : (thread m : ℕ) → turns_with thread false (suc m) ≡ record { thread = thread; over = false } ∷ turns_with thread false m
front_turn thread zero = refl
front_turn thread (suc m) = refl

last_turn : (thread : ℕ) (over : Bool) (m : ℕ) → turns_with thread over (suc m) ≡ turns_with thread false m ++ record { thread = thread; over = over } ∷ []
last_turn thread over zero = refl
last_turn thread over (suc m) =
    ap (λ (l : List Turn). record { thread = thread; over = false } ∷ l) (last_turn thread over m)
    ∙ ap (λ (l : List Turn). l ++ record { thread = thread; over = over } ∷ []) (sym (front_turn thread m))

-- what goes on from turns begins with them
goes_more : (before : List Turn) (order : List ℕ) (v : List Turn) → GoesOnFrom before order v → (more : List Turn) × (v ≡ before ++ more)
goes_more before [] v on = on
goes_more before (t ∷ others) v on = (record { thread = t; over = on.0 } ∷ on.1, on.2)

module _ (start : Place) where
  abbrev PartsFrom : List Turn → Offer → Type 0
  PartsFrom v o = Part start v (way_of o)

  abbrev ArePart : Offer → Offer → Type 0
  ArePart a b = Part start (way_of a) (way_of b)

  -- offers to others at a place where turns go on with one thread
  pub to_from : (legs : List Leg) (left : ℕ) (others : List ℕ) (x : Turn) (more v : List Turn) → v ≡ turns_of legs ++ x ∷ more
      → may (after_all start (turns_of legs)) x.thread ≡ true
      → ((u : ℕ) → IsAmong others u → (nat_eq x.thread u ≡ false) × (may (after_all start (turns_of legs)) u ≡ true))
      → AllByRecursion (PartsFrom v) (offers_to legs left others)
  to_from legs left [] x more v is goes other = tt
  to_from legs left (u ∷ others) x more v is goes other =
      let here = other u (or_left (nat_eq u u) (list_any (nat_eq u) others) (same u)) in (
        subst (λ (w : List Turn). Part start w (turns_of legs ++ record { thread = u; over = false } ∷ [])) (sym is)
            (part_under start (turns_of legs) (x ∷ more) (record { thread = u; over = false } ∷ []) (inr (here.0, goes, here.1))),
        to_from legs left others x more v is goes (λ w k. other w (or_right (nat_eq w u) (list_any (nat_eq w) others) k)),
      )

  pub to_apart : (legs : List Leg) (left : ℕ) (others : List ℕ) → AreApart others
      → ((u : ℕ) → IsAmong others u → may (after_all start (turns_of legs)) u ≡ true) → EachTwo ArePart (offers_to legs left others)
  to_apart legs left [] apart goes = tt
  to_apart legs left (u ∷ others) apart goes = (
    to_from legs left others (record { thread = u; over = false }) [] (turns_of legs ++ record { thread = u; over = false } ∷ []) refl
        (goes u (or_left (nat_eq u u) (list_any (nat_eq u) others) (same u)))
        (λ w k. (differ u w (others_are w u others apart.0 k), goes w (or_right (nat_eq w u) (list_any (nat_eq w) others) k))),
    to_apart legs left others apart.1 (λ w k. goes w (or_right (nat_eq w u) (list_any (nat_eq w) others) k)),
  )

  -- what is so of an offer to each of some threads
  all_offers : (A : Offer → Type 0) (legs : List Leg) (left : ℕ) (others : List ℕ) → ((u : ℕ) → A (record { legs = legs; next = u; left = left }))
      → AllByRecursion A (offers_to legs left others)
  all_offers A legs left [] f = tt
  all_offers A legs left (u ∷ others) f = (f u, all_offers A legs left others f)

  -- a leg of a thread, which may go on, with others that may go on in its place
  record Leaves (before : List Leg) (t : ℕ) (others : List ℕ) : Type 0 where
    apart : AreApart (t ∷ others)
    stays : (e : ℕ) → may (after_all start (turns_of (before ++ part_of t (suc e) ∷ []))) t ≡ true
    other : (e u : ℕ) → IsAmong others u → may (after_all start (turns_of (before ++ part_of t (suc e) ∷ []))) u ≡ true

  -- turns that go on beyond a part of a leg
  beyond : (before : List Leg) (t n : ℕ) (x : Turn) (more v : List Turn) → v ≡ turns_of before ++ (turns_with t false (suc n) ++ x ∷ more)
      → v ≡ turns_of (before ++ part_of t (suc n) ∷ []) ++ x ∷ more
  beyond before t n x more v is =
      is ∙ sym (append_assoc (turns_of before) (turns_with t false (suc n)) (x ∷ more))
      ∙ ap (λ (l : List Turn). l ++ x ∷ more) (sym (turns_more before (part_of t (suc n))))

  from_within : (before : List Leg) (left t : ℕ) (others : List ℕ) (n : ℕ) (over : Bool) (more v : List Turn) → Leaves before t others
      → v ≡ turns_of before ++ (turns_with t false n ++ record { thread = t; over = over } ∷ more)
      → AllByRecursion (PartsFrom v) (offers_within before left others t n)
  from_within before left t others zero over more v s is = tt
  from_within before left t others (suc n) over more v s is =
      all_append (PartsFrom v) (offers_within before left others t n) (offers_to (before ++ part_of t (suc n) ∷ []) left others)
      (from_within before left t others n false (record { thread = t; over = over } ∷ more) v s
      (is ∙ ap (λ (l : List Turn). turns_of before ++ (l ++ record { thread = t; over = over } ∷ more)) (last_turn t false n)
      ∙ ap (λ (l : List Turn). turns_of before ++ l) (append_assoc (turns_with t false n) (record { thread = t; over = false } ∷ []) (record { thread = t; over = over } ∷ more))))
      (to_from (before ++ part_of t (suc n) ∷ []) left others (record { thread = t; over = over }) more v (beyond before t n (record { thread = t; over = over }) more v is) (s.stays n)
      (λ u k. (differ t u (others_are u t others s.apart.0 k), s.other n u k)))

  -- a part of a leg and one turn more is as far as the next part
  way_within : (before : List Leg) (t n u : ℕ)
      → turns_of (before ++ part_of t (suc n) ∷ []) ++ record { thread = u; over = false } ∷ []
      ≡ turns_of before ++ (turns_with t false n ++ record { thread = t; over = false } ∷ record { thread = u; over = false } ∷ [])
  way_within before t n u =
      ap (λ (l : List Turn). l ++ record { thread = u; over = false } ∷ []) (turns_more before (part_of t (suc n)))
      ∙ append_assoc (turns_of before) (turns_with t false (suc n)) (record { thread = u; over = false } ∷ [])
      ∙ ap (λ (l : List Turn). turns_of before ++ (l ++ record { thread = u; over = false } ∷ [])) (last_turn t false n)
      ∙ ap (λ (l : List Turn). turns_of before ++ l) (append_assoc (turns_with t false n) (record { thread = t; over = false } ∷ []) (record { thread = u; over = false } ∷ []))

  within_apart : (before : List Leg) (left t : ℕ) (others : List ℕ) (n : ℕ) → Leaves before t others
      → EachTwo ArePart (offers_within before left others t n)
  within_apart before left t others zero s = tt
  within_apart before left t others (suc n) s =
      let now = offers_to (before ++ part_of t (suc n) ∷ []) left others in
      let was = offers_within before left others t n in
      two_append ArePart was now (within_apart before left t others n s)
      (to_apart (before ++ part_of t (suc n) ∷ []) left others s.apart.1 (s.other n))
      (all_swapped ArePart ArePart (λ (a b : Offer). part_sym start (way_of a) (way_of b)) now was
      (all_offers (λ (o : Offer). AllByRecursion (PartsFrom (way_of o)) was) (before ++ part_of t (suc n) ∷ []) left others
      (λ u. from_within before left t others n false (record { thread = u; over = false } ∷ []) (turns_of (before ++ part_of t (suc n) ∷ []) ++ record { thread = u; over = false } ∷ []) s
      (way_within before t n u))))

  within_onward : (before : List Leg) (left t : ℕ) (others : List ℕ) (n : ℕ) → AllByRecursion (λ o. GoesOnFrom (turns_of before) (t ∷ others) (way_of o)) (offers_within before left others t n)
  within_onward before left t others zero = tt
  within_onward before left t others (suc n) =
      all_append (λ (o : Offer). GoesOnFrom (turns_of before) (t ∷ others) (way_of o)) (offers_within before left others t n) (offers_to (before ++ part_of t (suc n) ∷ []) left others)
      (within_onward before left t others n)
      (all_offers (λ (o : Offer). GoesOnFrom (turns_of before) (t ∷ others) (way_of o)) (before ++ part_of t (suc n) ∷ []) left others
      (λ u. (
        false,
        turns_with t false n ++ record { thread = u; over = false } ∷ [],
        ap (λ (l : List Turn). l ++ record { thread = u; over = false } ∷ []) (turns_more before (part_of t (suc n)))
            ∙ append_assoc (turns_of before) (turns_with t false (suc n)) (record { thread = u; over = false } ∷ [])
            ∙ ap (λ (l : List Turn). turns_of before ++ (l ++ record { thread = u; over = false } ∷ [])) (front_turn t n),
      )))

  -- the offers at the legs of an order part from the run and from one another, and go on with the first thread, as the run does
  pub record ApartAt (before : List Leg) (left : ℕ) (order : List ℕ) (legs : List Leg) : Type 0 where
    pub run_onward : GoesOnFrom (turns_of before) order (turns_of (before ++ legs))
    pub onward : AllByRecursion (λ o. GoesOnFrom (turns_of before) order (way_of o)) (offered before left order legs)
    pub from_run : AllByRecursion (PartsFrom (turns_of (before ++ legs))) (offered before left order legs)
    pub apart : EachTwo ArePart (offered before left order legs)

  -- those within a leg
  record Switches (before : List Leg) (left : ℕ) (others : List ℕ) (leg : Leg) : Type 0 where
    apart : EachTwo ArePart (switches_in before left others leg)
    onward : AllByRecursion (λ o. GoesOnFrom (turns_of before) (leg.thread ∷ others) (way_of o)) (switches_in before left others leg)
    from : (more v : List Turn) → v ≡ turns_of (before ++ leg ∷ []) ++ more → AllByRecursion (PartsFrom v) (switches_in before left others leg)

  leg_whole : (before : List Leg) (leg : Leg) (more v : List Turn) → 1 ≤ leg.turns → v ≡ turns_of (before ++ leg ∷ []) ++ more
      → v ≡ turns_of before ++ (turns_with leg.thread leg.over (suc (leg.turns - 1)) ++ more)
  leg_whole before leg more v some is =
      let many : leg.turns ≡ suc (leg.turns - 1) = omega (arith, some) in
      is ∙ ap (λ (l : List Turn). l ++ more) (turns_more before leg) ∙ append_assoc (turns_of before) (turns_with leg.thread leg.over leg.turns) more
      ∙ ap (λ (n : ℕ). turns_of before ++ (turns_with leg.thread leg.over n ++ more)) many

  switches_apart : (before : List Leg) (left : ℕ) (others : List ℕ) (leg : Leg) → 1 ≤ leg.turns → GoesOn (after_all start (turns_of before)) left leg.thread
      → ((u : ℕ) → IsAmong (leg.thread ∷ others) u → IsAmong (after_all start (turns_of before)).going u) → AreApart (leg.thread ∷ others)
      → Switches before left others leg
  switches_apart before zero others leg some goes can apart = record { apart = tt; onward = tt; from = λ more v is. tt }
  switches_apart before (suc left) others leg some goes can apart =
      let s : Leaves before leg.thread others = record {
        apart = apart;
        stays = λ e. subst (λ (q : Place). may q leg.thread ≡ true) (sym (place e)) (may_stay p leg.thread goes.0);
        other = λ e u k. subst (λ (q : Place). may q u ≡ true) (sym (place e))
            (may_switch p leg.thread u (can u (or_right (nat_eq u leg.thread) (list_any (nat_eq u) others) k)) (omega (arith, left_is)));
      } in
      record {
        apart = within_apart before left leg.thread others (leg.turns - 1) s;
        onward = within_onward before left leg.thread others (leg.turns - 1);
        from = λ more v is. from_within before left leg.thread others (leg.turns - 1) leg.over more v s
            (leg_whole before leg more v some is ∙ ap (λ (l : List Turn). turns_of before ++ (l ++ more)) (last_turn leg.thread leg.over (leg.turns - 1))
            ∙ ap (λ (l : List Turn). turns_of before ++ l) (append_assoc (turns_with leg.thread false (leg.turns - 1)) (record { thread = leg.thread; over = leg.over } ∷ []) more));
      }
    where
      p : Place
      p = after_all start (turns_of before)

      left_is : (within_leg p leg.thread).left ≡ suc left
      left_is = goes.1

      place : (e : ℕ) → after_all start (turns_of (before ++ part_of leg.thread (suc e) ∷ [])) ≡ within_leg p leg.thread
      place e = place_with start before (part_of leg.thread (suc e)) ∙ after_part p leg.thread e

  -- what begins with a leg goes on with its thread
  leg_onward : (before : List Leg) (others : List ℕ) (leg : Leg) (v : List Turn) → 1 ≤ leg.turns → (more : List Turn) × (v ≡ turns_of (before ++ leg ∷ []) ++ more)
      → GoesOnFrom (turns_of before) (leg.thread ∷ others) v
  leg_onward before others leg v some on = by (leg.turns - 1) (leg_whole before leg on.0 v some on.1)
    where
      by : (m : ℕ) → v ≡ turns_of before ++ (turns_with leg.thread leg.over (suc m) ++ on.0) → GoesOnFrom (turns_of before) (leg.thread ∷ others) v
      by zero is = (leg.over, on.0, is)
      by (suc m) is = (false, turns_with leg.thread leg.over (suc m) ++ on.0, is)

  -- the others after a leg, save the first, which goes on
  pub after_from : (before : List Leg) (left : ℕ) (others : List ℕ) (v : List Turn) → AreApart others
      → ((u : ℕ) → IsAmong others u → may (after_all start (turns_of before)) u ≡ true) → GoesOnFrom (turns_of before) others v
      → AllByRecursion (PartsFrom v) (offers_to before left (drop 1 others))
  after_from before left [] v apart goes on = tt
  after_from before left (t ∷ others) v apart goes on =
      to_from before left others (record { thread = t; over = on.0 }) on.1 v on.2 (goes t (or_left (nat_eq t t) (list_any (nat_eq t) others) (same t)))
      (λ u k. (differ t u (others_are u t others apart.0 k), goes u (or_right (nat_eq u t) (list_any (nat_eq u) others) k)))

  pub after_apart : (before : List Leg) (left : ℕ) (others : List ℕ) → AreApart others
      → ((u : ℕ) → IsAmong others u → may (after_all start (turns_of before)) u ≡ true) → EachTwo ArePart (offers_to before left (drop 1 others))
  after_apart before left [] apart goes = tt
  after_apart before left (t ∷ others) apart goes =
      to_apart before left others apart.1 (λ u k. goes u (or_right (nat_eq u t) (list_any (nat_eq u) others) k))

  -- one leg more
  leg_apart : (before : List Leg) (left : ℕ) (others : List ℕ) (leg : Leg) (legs : List Leg) → 1 ≤ leg.turns → Switches before left others leg → AreApart others
      → ((u : ℕ) → IsAmong others u → may (after_all start (turns_of (before ++ leg ∷ []))) u ≡ true)
      → ApartAt (before ++ leg ∷ []) left others legs → ApartAt before left (leg.thread ∷ others) (leg ∷ legs)
  leg_apart before left others leg legs some switches apart goes rest = record {
    run_onward = leg_onward before others leg run some (goes_more so_far others run run_on);
    onward = all_append On s (o ++ r) switches.onward (all_with Begins On (λ x. leg_onward before others leg (way_of x) some) (o ++ r) begin);
    from_run = all_append (PartsFrom run) s (o ++ r) (from_switches run (goes_more so_far others run run_on))
        (all_append (PartsFrom run) o r (after_from all left others run apart goes run_on)
        (subst (λ (ls : List Leg). AllByRecursion (PartsFrom (turns_of ls)) r) (append_assoc before (leg ∷ []) legs) rest.from_run));
    apart = two_append ArePart s (o ++ r) switches.apart
        (two_append ArePart o r (after_apart all left others apart goes) rest.apart
        (swapped r o (all_with (λ x. GoesOnFrom so_far others (way_of x)) (λ x. AllByRecursion (PartsFrom (way_of x)) o) (λ x. after_from all left others (way_of x) apart goes) r rest.onward)))
        (swapped (o ++ r) s (all_with Begins (λ x. AllByRecursion (PartsFrom (way_of x)) s) (λ x. from_switches (way_of x)) (o ++ r) begin));
  }
    where
      all : List Leg
      all = before ++ leg ∷ []

      so_far : List Turn
      so_far = turns_of all

      run : List Turn
      run = turns_of (before ++ leg ∷ legs)

      s : List Offer
      s = switches_in before left others leg

      o : List Offer
      o = offers_to all left (drop 1 others)

      r : List Offer
      r = offered all left others legs

      On : Offer → Type 0
      On x = GoesOnFrom (turns_of before) (leg.thread ∷ others) (way_of x)

      Begins : Offer → Type 0
      Begins x = (more : List Turn) × (way_of x ≡ so_far ++ more)

      begin : AllByRecursion Begins (o ++ r)
      begin =
          all_append Begins o r (all_offers Begins all left (drop 1 others) (λ u. (record { thread = u; over = false } ∷ [], refl)))
          (all_with (λ x. GoesOnFrom so_far others (way_of x)) Begins (λ x. goes_more so_far others (way_of x)) r rest.onward)

      run_on : GoesOnFrom so_far others run
      run_on = subst (λ (ls : List Leg). GoesOnFrom so_far others (turns_of ls)) (append_assoc before (leg ∷ []) legs) rest.run_onward

      from_switches : (v : List Turn) → (more : List Turn) × (v ≡ so_far ++ more) → AllByRecursion (PartsFrom v) s
      from_switches v is = switches.from is.0 v is.1

      swapped : (xs ys : List Offer) → AllByRecursion (λ x. AllByRecursion (PartsFrom (way_of x)) ys) xs → AllByRecursion (λ y. AllByRecursion (ArePart y) xs) ys
      swapped xs ys h = all_swapped ArePart ArePart (λ (a b : Offer). part_sym start (way_of a) (way_of b)) xs ys h

  pub offered_apart : (before : List Leg) (left : ℕ) (order : List ℕ) (legs : List Leg) → LeadToEnds order legs → FirstGoesOn (after_all start (turns_of before)) left order
      → ((u : ℕ) → IsAmong order u → IsAmong (after_all start (turns_of before)).going u) → AreApart order → ApartAt before left order legs
  offered_apart before left [] [] ends goes can apart = record {
    run_onward = ([], ap turns_of (append-nil before) ∙ sym (append-nil (turns_of before)));
    onward = tt;
    from_run = tt;
    apart = tt;
  }
  offered_apart before left [] (leg ∷ legs) ends goes can apart = absurd ends
  offered_apart before left (t ∷ others) [] ends goes can apart = absurd ends
  offered_apart before left (t ∷ others) (leg ∷ legs) ends goes can apart =
      let p = after_all start (turns_of before) in
      let there : after_all start (turns_of (before ++ leg ∷ [])) ≡ after_leg p t =
      place_with start before leg ∙ ap (after_all p) (whole_leg t leg ends.0 ends.1 ends.2) ∙ after_whole p t (leg.turns - 1) in
      let after_goes = goes_after p left t others goes apart can in
      let rest = offered_apart (before ++ leg ∷ []) left others legs ends.3
      (subst (λ (q : Place). FirstGoesOn q left others) (sym there) (first_of (after_leg p t) left others after_goes))
      (λ u h. subst (λ (q : Place). IsAmong q.going u) (sym there) (without_in u t p.going (can u (or_right (nat_eq u t) (list_any (nat_eq u) others) h)) (others_are u t others apart.0 h))) apart.1 in
      subst (λ (n : ℕ). ApartAt before left (n ∷ others) (leg ∷ legs)) ends.0
      (leg_apart before left others leg legs ends.2
      (switches_apart before left others leg ends.2 (subst (λ (n : ℕ). GoesOn p left n) (sym ends.0) goes)
      (subst (λ (n : ℕ). (u : ℕ) → IsAmong (n ∷ others) u → IsAmong p.going u) (sym ends.0) can) (subst (λ (n : ℕ). AreApart (n ∷ others)) (sym ends.0) apart))
      apart.1 (λ u h. subst (λ (q : Place). may q u ≡ true) (sym there) (after_goes u h).0) rest)
