-- The threads that can go on after some legs.
use Rattle.std.specs.Prelude.{◌⊎◌, if◌then◌else◌}
use Rattle.std.specs.List.{AllByRecursion, list_any, filter}
use Rattle.std.proofs.Common.{◌≡◌, ◌≤◌, ◌-◌, ℕ, suc, List, [], ◌∷◌, refl, sym, ap, ◌∙◌, subst, arith, Bool, true, false, not, ◌&&◌, inl, inr, nat_eq}
use Rattle.std.proofs.lemmas.Bool.{cases_Bool, and_parts, and_from, or_parts, or_from, or_cases, or_left, or_right, cond-true, cond-false, not_from_true, not_from_false, not-true, eqb-true, both_ways, false≢true, false_from_ne_true, and_left}
use Rattle.sto_explore.specs.Schedules.{Place, without}
use Rattle.sto_explore.specs.Legs.{turns_with, turns_of, after_all, IsAmong, AreApart}
use Rattle.sto_explore.specs.Branches.{Offer}
use Rattle.sto_explore.specs.Exploring.{IsFit, FirstGoesOn, IsOffer, IsOrdered, ended, order_after}
use Rattle.sto_explore.specs.Explored.{start_of}
use Rattle.sto_explore.specs.declared.leg.Leg.{Leg}
use Rattle.sto_explore.proofs.Following.{same, after_append, after_part, after_whole}
use Rattle.sto_explore.proofs.Among.{without_in, without_out}
use Rattle.sto_explore.proofs.Reaching.{going_of}

-- one of those that pass a test
filter_in : (f : ℕ → Bool) (u : ℕ) (xs : List ℕ) → IsAmong xs u → f u ≡ true → IsAmong (filter f xs) u
filter_in f u [] h passes = h
filter_in f u (v ∷ vs) h passes = by (f v) refl (or_cases (nat_eq u v) (list_any (nat_eq u) vs) h) (λ there. filter_in f u vs there passes)
  where
    by : (b : Bool) → f v ≡ b → (nat_eq u v ≡ true) ⊎ (list_any (nat_eq u) vs ≡ true) → (IsAmong vs u → IsAmong (filter f vs) u) → IsAmong (filter f (v ∷ vs)) u
    by true is (inl here) rec =
        subst (λ (l : List ℕ). IsAmong l u) (sym (cond-true (f v) (v ∷ filter f vs) (filter f vs) is)) (or_left (nat_eq u v) (list_any (nat_eq u) (filter f vs)) here)
    by true is (inr there) rec =
        subst (λ (l : List ℕ). IsAmong l u) (sym (cond-true (f v) (v ∷ filter f vs) (filter f vs) is)) (or_right (nat_eq u v) (list_any (nat_eq u) (filter f vs)) (rec there))
    by false is (inl here) rec =
        absurd (both_ways (f v) is (subst (λ (n : ℕ). f n ≡ true) (eqb-true u v here) passes))
    by false is (inr there) rec =
        subst (λ (l : List ℕ). IsAmong l u) (sym (cond-false (f v) (v ∷ filter f vs) (filter f vs) is)) (rec there)

filter_out : (f : ℕ → Bool) (u : ℕ) (xs : List ℕ) → IsAmong (filter f xs) u → IsAmong xs u × (f u ≡ true)
filter_out f u [] h = absurd (false≢true h)
filter_out f u (v ∷ vs) h = by (f v) refl (λ there. filter_out f u vs there)
  where
    further : (IsAmong vs u × (f u ≡ true)) → IsAmong (v ∷ vs) u × (f u ≡ true)
    further k = (or_right (nat_eq u v) (list_any (nat_eq u) vs) k.0, k.1)

    by : (b : Bool) → f v ≡ b → (IsAmong (filter f vs) u → IsAmong vs u × (f u ≡ true)) → IsAmong (v ∷ vs) u × (f u ≡ true)
    by true is rec = elim (or_cases (nat_eq u v) (list_any (nat_eq u) (filter f vs))
        (subst (λ (l : List ℕ). IsAmong l u) (cond-true (f v) (v ∷ filter f vs) (filter f vs) is) h)) [
          | inl here ↦ (or_left (nat_eq u v) (list_any (nat_eq u) vs) here, subst (λ (n : ℕ). f n ≡ true) (sym (eqb-true u v here)) is)
          | inr there ↦ further (rec there)
        ]
    by false is rec = further (rec (subst (λ (l : List ℕ). IsAmong l u) (cond-false (f v) (v ∷ filter f vs) (filter f vs) is) h))

apart_filter : (f : ℕ → Bool) (xs : List ℕ) → AreApart xs → AreApart (filter f xs)
apart_filter f [] h = tt
apart_filter f (x ∷ xs) h = by (f x) refl (apart_filter f xs h.1)
  where
    by : (b : Bool) → f x ≡ b → AreApart (filter f xs) → AreApart (filter f (x ∷ xs))
    by true is rest =
        subst AreApart (sym (cond-true (f x) (x ∷ filter f xs) (filter f xs) is))
        (false_from_ne_true (list_any (nat_eq x) (filter f xs)) (λ k. both_ways (list_any (nat_eq x) xs) h.0 (filter_out f x xs k).0), rest)
    by false is rest = subst AreApart (sym (cond-false (f x) (x ∷ filter f xs) (filter f xs) is)) rest

-- who goes on after legs: those who went on before and were not led to their ends
differ : (t u : ℕ) → nat_eq u t ≡ false → nat_eq t u ≡ false
differ t u other = elim (cases_Bool (nat_eq t u)) [
  | inl is ↦ absurd (both_ways (nat_eq u t) other (subst (λ (n : ℕ). nat_eq u n ≡ true) (sym (eqb-true t u is)) (same u)))
  | inr is_not ↦ is_not
]

AreFit : List ℕ → List Leg → Type 0
AreFit threads legs = AllByRecursion (IsFit threads) legs

after_one : (p : Place) (leg : Leg) (b : Bool) → leg.over ≡ b → 1 ≤ leg.turns
    → (after_all p (turns_with leg.thread leg.over leg.turns)).going ≡ (if b then without leg.thread p.going else p.going)
after_one p leg true is some =
    let many : leg.turns ≡ suc (leg.turns - 1) = omega (arith, some) in
    (λ i. (after_all p (turns_with leg.thread (is i) (many i))).going) ∙ ap (λ (q : Place). q.going) (after_whole p leg.thread (leg.turns - 1))
after_one p leg false is some =
    let many : leg.turns ≡ suc (leg.turns - 1) = omega (arith, some) in
    (λ i. (after_all p (turns_with leg.thread (is i) (many i))).going) ∙ ap (λ (q : Place). q.going) (after_part p leg.thread (leg.turns - 1))

pub going_out : (threads : List ℕ) (legs : List Leg) (p : Place) (u : ℕ) → AllByRecursion (IsFit threads) legs
    → IsAmong (after_all p (turns_of legs)).going u → IsAmong p.going u × (ended legs u ≡ false)
going_out threads [] p u fit h = (h, refl)
going_out threads (leg ∷ legs) p u fit h =
    by leg.over refl (going_out threads legs (after_all p (turns_with leg.thread leg.over leg.turns)) u fit.1
    (subst (λ (q : Place). IsAmong q.going u) (after_append p (turns_with leg.thread leg.over leg.turns) (turns_of legs)) h))
  where
    by : (b : Bool) → leg.over ≡ b → (IsAmong (after_all p (turns_with leg.thread leg.over leg.turns)).going u × (ended legs u ≡ false)) → IsAmong p.going u × (ended (leg ∷ legs) u ≡ false)
    by true is k =
        let out = without_out u leg.thread p.going (subst (λ (l : List ℕ). IsAmong l u) (after_one p leg true is fit.0.0) k.0) in
        (out.0, or_from (leg.over && nat_eq leg.thread u) (ended legs u) (ap (λ (b : Bool). b && nat_eq leg.thread u) is ∙ differ leg.thread u out.1) k.1)
    by false is k = (
      subst (λ (l : List ℕ). IsAmong l u) (after_one p leg false is fit.0.0) k.0,
      or_from (leg.over && nat_eq leg.thread u) (ended legs u) (and_left leg.over (nat_eq leg.thread u) is) k.1,
    )

going_in : (threads : List ℕ) (legs : List Leg) (p : Place) (u : ℕ) → AllByRecursion (IsFit threads) legs
    → IsAmong p.going u → ended legs u ≡ false → IsAmong (after_all p (turns_of legs)).going u
going_in threads [] p u fit h not_ended = h
going_in threads (leg ∷ legs) p u fit h not_ended =
    subst (λ (q : Place). IsAmong q.going u) (sym (after_append p (turns_with leg.thread leg.over leg.turns) (turns_of legs)))
    (going_in threads legs (after_all p (turns_with leg.thread leg.over leg.turns)) u fit.1 (by leg.over refl) parts.1)
  where
    parts : ((leg.over && nat_eq leg.thread u) ≡ false) × (ended legs u ≡ false)
    parts = or_parts (leg.over && nat_eq leg.thread u) (ended legs u) not_ended

    by : (b : Bool) → leg.over ≡ b → IsAmong (after_all p (turns_with leg.thread leg.over leg.turns)).going u
    by true is =
        subst (λ (l : List ℕ). IsAmong l u) (sym (after_one p leg true is fit.0.0))
        (without_in u leg.thread p.going h (differ u leg.thread (sym (ap (λ (b : Bool). b && nat_eq leg.thread u) is) ∙ parts.0)))
    by false is = subst (λ (l : List ℕ). IsAmong l u) (sym (after_one p leg false is fit.0.0)) h

-- the order of an offer
pub offer_ordered : (start : Place) (tells : List ℕ → Bool → Type 0) (o : Offer) → AreApart start.going → IsOffer start tells o
    → IsOrdered start tells o.legs o.left (order_after start.going o.legs o.next)
offer_ordered start tells o apart h = record {
  begun = h.begun;
  all = λ u k. (let out = going_out start.going o.legs start u h.begun.fit k in first_or_later u out.0 out.1 (cases_Bool (nat_eq u o.next)));
  can = λ u k. came u (or_cases (nat_eq u o.next) (list_any (nat_eq u) (filter f start.going)) k);
  apart = (
    false_from_ne_true (list_any (nat_eq o.next) (filter f start.going)) (λ k. both_ways (not (nat_eq o.next o.next)) (not_from_true (nat_eq o.next o.next) (same o.next))
        (and_parts (not (nat_eq o.next o.next)) (not (ended o.legs o.next)) (filter_out f o.next start.going k).1).0),
    apart_filter f start.going apart,
  );
  first = h.goes_on;
}
  where
    f : ℕ → Bool
    f t = not (nat_eq t o.next) && not (ended o.legs t)

    first_or_later : (u : ℕ) → IsAmong start.going u → ended o.legs u ≡ false → (nat_eq u o.next ≡ true) ⊎ (nat_eq u o.next ≡ false) → IsAmong (order_after start.going o.legs o.next) u
    first_or_later u there going (inl is) = or_left (nat_eq u o.next) (list_any (nat_eq u) (filter f start.going)) is
    first_or_later u there going (inr is_not) =
        or_right (nat_eq u o.next) (list_any (nat_eq u) (filter f start.going))
        (filter_in f u start.going there (and_from (not (nat_eq u o.next)) (not (ended o.legs u)) (not_from_false (nat_eq u o.next) is_not) (not_from_false (ended o.legs u) going)))

    came : (u : ℕ) → (nat_eq u o.next ≡ true) ⊎ (list_any (nat_eq u) (filter f start.going) ≡ true) → IsAmong (after_all start (turns_of o.legs)).going u
    came u (inl is) = subst (λ (n : ℕ). IsAmong (after_all start (turns_of o.legs)).going n) (sym (eqb-true u o.next is)) (going_of (after_all start (turns_of o.legs)) o.next h.goes_on.0)
    came u (inr k) =
        let out = filter_out f u start.going k in
        going_in start.going o.legs start u h.begun.fit out.0 (not-true (ended o.legs u) (and_parts (not (nat_eq u o.next)) (not (ended o.legs u)) out.1).1)

-- and that of the first run
pub start_ordered : (switches : ℕ) (threads : List ℕ) (tells : List ℕ → Bool → Type 0) → AreApart threads → IsOrdered (start_of switches threads) tells [] switches threads
start_ordered switches threads tells apart = record {
  begun = record { within = refl; told = tt; fit = tt };
  all = λ u h. h;
  can = λ u h. h;
  apart = apart;
  first = first threads;
}
  where
    first : (ts : List ℕ) → FirstGoesOn (start_of switches ts) switches ts
    first [] = tt
    first (t ∷ ts) = (and_from (list_any (nat_eq t) (t ∷ ts)) true (or_left (nat_eq t t) (list_any (nat_eq t) ts) (same t)) refl, refl)

-- the threads of an order are those of the beginning, and so are those of legs
pub all_among : (threads order : List ℕ) → ((u : ℕ) → IsAmong order u → IsAmong threads u) → AllByRecursion (IsAmong threads) order
all_among threads [] h = tt
all_among threads (u ∷ order) h =
    (h u (or_left (nat_eq u u) (list_any (nat_eq u) order) (same u)), all_among threads order (λ v k. h v (or_right (nat_eq v u) (list_any (nat_eq v) order) k)))

pub legs_among : (threads : List ℕ) (legs : List Leg) → AllByRecursion (IsFit threads) legs → AllByRecursion (λ (leg : Leg). IsAmong threads leg.thread) legs
legs_among threads [] h = tt
legs_among threads (leg ∷ legs) h = (h.0.1, legs_among threads legs h.1)

-- those of the order of an offer are threads of the beginning
pub order_among : (start : Place) (tells : List ℕ → Bool → Type 0) (o : Offer) → AreApart start.going → IsOffer start tells o
    → AllByRecursion (IsAmong start.going) (order_after start.going o.legs o.next)
order_among start tells o apart h =
    all_among start.going (order_after start.going o.legs o.next)
    (λ u k. (going_out start.going o.legs start u h.begun.fit ((offer_ordered start tells o apart h).can u k)).0)
