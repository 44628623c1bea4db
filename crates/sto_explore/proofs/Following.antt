-- Runs and schedules, turn by turn.
use Rattle.std.specs.Prelude.{None, Some}
use Rattle.std.specs.List.{list_any}
use Rattle.std.proofs.Common.{◌≡◌, ◌≤◌, ◌-◌, ℕ, zero, suc, List, [], ◌∷◌, ◌++◌, replicate, refl, sym, ap, ◌∙◌, subst, arith, Bool, true, false, not, ◌||◌, append_assoc, append-nil, nat_eq, nat_lt}
use Rattle.std.proofs.lemmas.Bool.{eq-eqb, and_parts, and_from, or_left, cond-true, cond-false, not_from_true, not_from_false}
use Rattle.sto_explore.specs.Schedules.{Turn, Place, is_switch, may, after, is_within, follows}
use Rattle.sto_explore.specs.Legs.{turns_with, threads_of, after_all, AreTold}

pub same : (n : ℕ) → nat_eq n n ≡ true
same n = eq-eqb n n refl

-- what an append is
pub after_append : (p : Place) (xs ys : List Turn) → after_all p (xs ++ ys) ≡ after_all (after_all p xs) ys
after_append p [] ys = refl
after_append p (x ∷ xs) ys = after_append (after p x) xs ys

pub within_append : (p : Place) (xs ys : List Turn) → is_within p xs ≡ true → is_within (after_all p xs) ys ≡ true → is_within p (xs ++ ys) ≡ true
within_append p [] ys h k = k
within_append p (x ∷ xs) ys h k =
    let both = and_parts (may p x.thread) (is_within (after p x) xs) h in
    and_from (may p x.thread) (is_within (after p x) (xs ++ ys)) both.0 (within_append (after p x) xs ys both.1 k)

pub told_append : (tells : List ℕ → Bool → Type 0) (before : List ℕ) (xs ys : List Turn)
    → AreTold tells before xs → AreTold tells (before ++ threads_of xs) ys → AreTold tells before (xs ++ ys)
told_append tells before [] ys h k = subst (λ (l : List ℕ). AreTold tells l ys) (append-nil before) k
told_append tells before (x ∷ xs) ys h k =
    (h.0, told_append tells (before ++ x.thread ∷ []) xs ys h.1 (subst (λ (l : List ℕ). AreTold tells l ys) (sym (append_assoc before (x.thread ∷ []) (threads_of xs))) k))

-- a run follows its own turns
pub follows_through : (p : Place) (xs ys : List Turn) (rest : List ℕ) → follows p (xs ++ ys) (threads_of xs ++ rest) ≡ follows (after_all p xs) ys rest
follows_through p [] ys rest = refl
follows_through p (x ∷ xs) ys rest =
    cond-true (nat_eq x.thread x.thread) (follows (after p x) (xs ++ ys) (threads_of xs ++ rest)) (not (may p x.thread)) (same x.thread)
    ∙ follows_through (after p x) xs ys rest

-- the threads of a leg
pub threads_with : (thread : ℕ) (over : Bool) (n : ℕ) → threads_of (turns_with thread over n) ≡ replicate n thread
threads_with thread over zero = refl
threads_with thread over (suc zero) = refl
threads_with thread over (suc (suc n)) = ap (λ (l : List ℕ). thread ∷ l) (threads_with thread over (suc n))

-- the place within a leg, after its first turn, and the place after it
abbrev pub within_leg : Place → ℕ → Place
within_leg p thread = after p (record { thread = thread; over = false })

abbrev pub after_leg : Place → ℕ → Place
after_leg p thread = after p (record { thread = thread; over = true })

no_switch : (thread : ℕ) → is_switch (Some thread) thread ≡ false
no_switch thread = not_from_true (nat_eq thread thread) (same thread)

pub stays : (p : Place) (thread : ℕ) → within_leg (within_leg p thread) thread ≡ within_leg p thread
stays p thread = λ i. record {
  left = cond-false (is_switch (Some thread) thread) ((within_leg p thread).left - 1) ((within_leg p thread).left) (no_switch thread) i;
  last = Some thread;
  going = p.going;
}

pub ends_alike : (p : Place) (thread : ℕ) → after_leg (within_leg p thread) thread ≡ after_leg p thread
ends_alike p thread = λ i. record {
  left = cond-false (is_switch (Some thread) thread) ((within_leg p thread).left - 1) ((within_leg p thread).left) (no_switch thread) i;
  last = None;
  going = (after_leg p thread).going;
}

pub after_part : (p : Place) (thread n : ℕ) → after_all p (turns_with thread false (suc n)) ≡ within_leg p thread
after_part p thread zero = refl
after_part p thread (suc n) = after_part (within_leg p thread) thread n ∙ stays p thread

pub after_whole : (p : Place) (thread n : ℕ) → after_all p (turns_with thread true (suc n)) ≡ after_leg p thread
after_whole p thread zero = refl
after_whole p thread (suc n) = after_whole (within_leg p thread) thread n ∙ ends_alike p thread

-- a thread that may have a turn may have more of them
pub may_stay : (p : Place) (thread : ℕ) → may p thread ≡ true → may (within_leg p thread) thread ≡ true
may_stay p thread h =
    let among = (and_parts (list_any (nat_eq thread) p.going) (not (is_switch p.last thread) || nat_lt 0 p.left) h).0 in
    and_from (list_any (nat_eq thread) p.going) _ among (or_left _ _ (not_from_false (is_switch (Some thread) thread) (no_switch thread)))

pub within_with : (p : Place) (thread : ℕ) (over : Bool) (n : ℕ) → may p thread ≡ true → is_within p (turns_with thread over (suc n)) ≡ true
within_with p thread over zero h = and_from (may p thread) true h refl
within_with p thread over (suc n) h =
    and_from (may p thread) (is_within (within_leg p thread) (turns_with thread over (suc n))) h (within_with (within_leg p thread) thread over n (may_stay p thread h))

-- what was told of a whole leg was told of each part of it
pub told_part : (tells : List ℕ → Bool → Type 0) (before : List ℕ) (thread : ℕ) (over : Bool) (k n : ℕ) → k ≤ n
    → AreTold tells before (turns_with thread over (suc (suc n))) → AreTold tells before (turns_with thread false (suc k))
told_part tells before thread over zero n h told = (told.0, tt)
told_part tells before thread over (suc k) zero h told = absurd (omega (arith, h))
told_part tells before thread over (suc k) (suc n) h told = (told.0, told_part tells (before ++ thread ∷ []) thread over k n (omega (arith, h)) told.1)
