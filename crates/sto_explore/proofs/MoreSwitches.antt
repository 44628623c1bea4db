-- What is so of runs with at most so many switches, and stays so where more may be made.
use Rattle.std.specs.Prelude.{Option, None, Some, if◌then◌else◌}
use Rattle.std.specs.List.{AllByRecursion, list_any}
use Rattle.std.proofs.Common.{◌≡◌, ◌≤◌, ◌-◌, ℕ, List, [], ◌∷◌, refl, sym, ◌∙◌, ap, arith, Bool, true, false, not, ◌&&◌, ◌||◌, inl, inr, nat_eq, nat_lt, rules}
use Rattle.std.proofs.lemmas.Bool.{and_parts, and_from, or_cases, or_left, or_right, cond-true, cond-false, not_from_true, not_from_false, not-false, both_ways, true≢false}
use Rattle.sto_explore.specs.Schedules.{Turn, Place, is_switch, may, after, is_within, follows, without}
use Rattle.sto_explore.specs.Legs.{turns_of, schedule_of, after_all, IsAmong}
use Rattle.sto_explore.specs.Explored.{Found, IsFound, AreTooMany, Differ, start_of}
use Rattle.sto_explore.proofs.Following.{same}
use Rattle.sto_explore.proofs.Parting.{all_with, two_with}

-- the same place, where so many switches may be made
abbrev wider : Place → ℕ → Place
wider p m = record p { left = m }

some_left : (l m : ℕ) → l ≤ m → nat_lt 0 l ≡ true → nat_lt 0 m ≡ true
some_left l m more some = search (rules, more, some)

may_more : (p : Place) (m : ℕ) → p.left ≤ m → (t : ℕ) → may p t ≡ true → may (wider p m) t ≡ true
may_more p m more t h =
    let among = list_any (nat_eq t) p.going in
    let stays = not (is_switch p.last t) in
    let both = and_parts among (stays || nat_lt 0 p.left) h in
    and_from among (stays || nat_lt 0 m) both.0
    (elim (or_cases stays (nat_lt 0 p.left) both.1) [
      | inl on ↦ or_left stays (nat_lt 0 m) on
      | inr some ↦ or_right stays (nat_lt 0 m) (some_left p.left m more some)
    ])

fewer_left : (b : Bool) (l m : ℕ) → l ≤ m → (if b then l - 1 else l) ≤ (if b then m - 1 else m)
fewer_left true l m more = omega (arith, more)
fewer_left false l m more = more

-- how many switches may be made after a turn, where so many may be made before it
abbrev left_after : Place → ℕ → Turn → ℕ
left_after p m turn = (after (wider p m) turn).left

left_more : (p : Place) (m : ℕ) → p.left ≤ m → (turn : Turn) → (after p turn).left ≤ left_after p m turn
left_more p m more turn = fewer_left (is_switch p.last turn.thread) p.left m more

within_more : (p : Place) (m : ℕ) → p.left ≤ m → (turns : List Turn) → is_within p turns ≡ true → is_within (wider p m) turns ≡ true
within_more p m more [] h = refl
within_more p m more (x ∷ xs) h =
    let both = and_parts (may p x.thread) (is_within (after p x) xs) h in
    and_from (may (wider p m) x.thread) (is_within (after (wider p m) x) xs) (may_more p m more x.thread both.0)
    (within_more (after p x) (left_after p m x) (left_more p m more x) xs both.1)

follows_less : (p : Place) (m : ℕ) → p.left ≤ m → (turns : List Turn) (schedule : List ℕ) → follows p turns schedule ≡ false → follows (wider p m) turns schedule ≡ false
follows_less p m more [] [] h = absurd (true≢false h)
follows_less p m more (x ∷ xs) [] h = absurd (true≢false h)
follows_less p m more [] (t ∷ ts) h = not_from_true (may (wider p m) t) (may_more p m more t (not-false (may p t) h))
follows_less p m more (x ∷ xs) (t ∷ ts) h = by (nat_eq t x.thread) refl (follows_less (after p x) (left_after p m x) (left_more p m more x) xs ts)
  where
    by : (b : Bool) → nat_eq t x.thread ≡ b → (follows (after p x) xs ts ≡ false → follows (after (wider p m) x) xs ts ≡ false)
        → follows (wider p m) (x ∷ xs) (t ∷ ts) ≡ false
    by true is further =
        cond-true (nat_eq t x.thread) (follows (after (wider p m) x) xs ts) (not (may (wider p m) t)) is
        ∙ further (sym (cond-true (nat_eq t x.thread) (follows (after p x) xs ts) (not (may p t)) is) ∙ h)
    by false is further =
        cond-false (nat_eq t x.thread) (follows (after (wider p m) x) xs ts) (not (may (wider p m) t)) is
        ∙ not_from_true (may (wider p m) t)
        (may_more p m more t (not-false (may p t) (sym (cond-false (nat_eq t x.thread) (follows (after p x) xs ts) (not (may p t)) is) ∙ h)))

-- where a thread had the last turn and is not over, it can go on
abbrev Goes : Option ℕ → List ℕ → Type 0
Goes None going = Unit {0}
Goes (Some thread) going = IsAmong going thread

goes_after : (p : Place) (turn : Turn) → may p turn.thread ≡ true → Goes (after p turn).last (after p turn).going
goes_after p turn h = by turn.over (and_parts (list_any (nat_eq turn.thread) p.going) _ h).0
  where
    by : (over : Bool) → IsAmong p.going turn.thread
        → Goes (if over then None else Some turn.thread) (if over then without turn.thread p.going else p.going)
    by true among = tt
    by false among = among

goes_after_all : (p : Place) (turns : List Turn) → Goes p.last p.going → is_within p turns ≡ true → Goes (after_all p turns).last (after_all p turns).going
goes_after_all p [] goes h = goes
goes_after_all p (x ∷ xs) goes h =
    let both = and_parts (may p x.thread) (is_within (after p x) xs) h in
    goes_after_all (after p x) xs (goes_after p x both.0) both.1

-- where no thread may have a turn, none can go on
none_goes : (left : ℕ) (last : Option ℕ) (going : List ℕ) → Goes last going → ((t : ℕ) → may (record { left = left; last = last; going = going }) t ≡ false)
    → (t : ℕ) → list_any (nat_eq t) going ≡ false
none_goes left None going goes none t = search (rules, none t)
none_goes left (Some u) going goes none t =
    absurd (both_ways (may (record { left = left; last = Some u; going = going }) u) (none u)
    (and_from (list_any (nat_eq u) going) _ goes (or_left (not (is_switch (Some u) u)) (nat_lt 0 left) (not_from_false (is_switch (Some u) u) (not_from_true (nat_eq u u) (same u))))))

after_all_more : (p : Place) (m : ℕ) (turns : List Turn) → after_all (wider p m) turns ≡ wider (after_all p turns) (after_all (wider p m) turns).left
after_all_more p m [] = refl
after_all_more p m (x ∷ xs) = after_all_more (after p x) (left_after p m x) xs

ends_more : (p : Place) (m : ℕ) (turns : List Turn) → Goes p.last p.going → is_within p turns ≡ true → ((t : ℕ) → may (after_all p turns) t ≡ false)
    → (t : ℕ) → may (after_all (wider p m) turns) t ≡ false
ends_more p m turns goes within none t =
    let q = after_all p turns in
    let over : list_any (nat_eq t) q.going ≡ false = none_goes q.left q.last q.going (goes_after_all p turns goes within) none t in
    ap (λ (r : Place). may r t) (after_all_more p m turns) ∙ ap (λ b. b && (not (is_switch q.last t) || nat_lt 0 (after_all (wider p m) turns).left)) over

module _ {P : Type 0} (tells : List ℕ → Bool → Type 0) (reports : List ℕ → P → Type 0) (k m : ℕ) (threads : List ℕ) (more : k ≤ m) where
  found_more : (x : Found P) → IsFound (start_of k threads) tells reports x → IsFound (start_of m threads) tells reports x
  found_more x h = record {
    within = within_more (start_of k threads) m more (turns_of x.legs) h.within;
    ends = ends_more (start_of k threads) m (turns_of x.legs) tt h.within h.ends;
    told = h.told;
    reported = h.reported;
  }

  none_follows : (schedule : List ℕ) (xs : List (Found P)) → list_any (λ x. follows (start_of k threads) (turns_of x.legs) schedule) xs ≡ false
      → list_any (λ x. follows (start_of m threads) (turns_of x.legs) schedule) xs ≡ false
  none_follows schedule [] h = refl
  none_follows schedule (x ∷ xs) h =
      let here : follows (start_of k threads) (turns_of x.legs) schedule ≡ false = search (rules, h) in
      let there : list_any (λ (y : Found P). follows (start_of k threads) (turns_of y.legs) schedule) xs ≡ false = search (rules, h) in
      let first = follows_less (start_of k threads) m more (turns_of x.legs) schedule here in
      let others = none_follows schedule xs there in
      λ i. first i || others i

  -- what is too much for some switches is so for more
  pub too_many_more : (limit : ℕ) (xs : List (Found P)) → AreTooMany (start_of k threads) tells reports limit xs → AreTooMany (start_of m threads) tells reports limit xs
  too_many_more limit xs h = record {
    each = all_with (IsFound (start_of k threads) tells reports) (IsFound (start_of m threads) tells reports) found_more xs h.each;
    distinct = two_with (Differ (start_of k threads)) (Differ (start_of m threads))
        (λ x y d. (follows_less (start_of k threads) m more (turns_of x.legs) (schedule_of y.legs) d.0, follows_less (start_of k threads) m more (turns_of y.legs) (schedule_of x.legs) d.1)) xs h.distinct;
    many = h.many;
    left_out = (h.left_out.0, none_follows h.left_out.0 xs h.left_out.1);
  }
