-- Both ends of an arrow name its ticket and its part.
use Rattle.std.specs.Prelude.{IfSome, position, unwrap_or, is_some, nat_le}
use Rattle.std.specs.Option.{option_map, option_map_or, option_and_then}
use Rattle.std.proofs.Common.{◌≡◌, ◌<◌, ◌≤◌, ℕ, ◌+◌, ◌-◌, List, [], ◌∷◌, length, get_or, reverse, take, slice_get, Option, None, Some, Bool, true, false, cond, ◌==◌, ◌&&◌, refl, sym, ap, ◌∙◌, subst, arith}
use Rattle.std.proofs.lemmas.Bool.{false≢true, eqb-true, leb-true}
use Rattle.std.proofs.lemmas.List.{get_or-reverse, get_or-take, length-take-le, length-reverse}
use Rattle.std.proofs.lemmas.List.Quantifiers.{position-Some}
use Rattle.std.proofs.lemmas.Option.{slice_get-get_or}
use Rattle.sto_version.specs.declared.Version.{Version}
use Rattle.sto_trace.specs.declared.Deed.{Deed}
use Rattle.sto_trace.specs.declared.Deed.TheVariants.{Start, Renew, Open, Word, Close, Recheck, Lock, Test, Draw, Check, Decide, Put, Release, Unlock}
use Rattle.sto_trace.specs.declared.Step.{Step}
use Rattle.sto_picture.specs.Told.{last_before, releases, released_part, is_part, start_of}
use Rattle.sto_picture.specs.Arrows.{finds, draws, finds_of, draws_of, draws_this, found_at, has_drawn, is_with_ticket, released_at, ends_of, IsArrow, AreArrows}

-- step r is the last one before n that passes
record IsLast (passes : Step → Bool) (steps : List Step) (n r : ℕ) : Type 0 where
  step : Step
  before : r < n
  at : slice_get steps r ≡ Some step
  does : passes step ≡ true
  later : (k : ℕ) → r < k → k < n → option_map_or passes (slice_get steps k) false ≡ false

some_is : (x y : ℕ) → Some x ≡ Some y → x ≡ y
some_is x y h = ap (λ (o : Option ℕ). unwrap_or o x) h

none_is : (x : ℕ) → None ≡ Some x → ⊥
none_is x h = false≢true (ap (λ (o : Option ℕ). is_some o) h)

-- the step so far from the end of the first n
step_back : (steps : List Step) (n back : ℕ) (d : Step) → n ≤ length steps → back < n → get_or (reverse (take n steps)) back d ≡ get_or steps (n - 1 - back) d
step_back steps n back d few near =
    let long = length-take-le n steps few in
    get_or-reverse (take n steps) back d (omega (arith, near, long))
    ∙ ap (λ (m : ℕ). get_or (take n steps) (m - 1 - back) d) long
    ∙ get_or-take n steps (n - 1 - back) d (omega (arith, near))

last_by : (passes : Step → Bool) (steps : List Step) (n r : ℕ) (d : Step) → n ≤ length steps → (back : Option ℕ) → position passes (reverse (take n steps)) ≡ back
    → option_map (λ (b : ℕ). n - 1 - b) back ≡ Some r → IsLast passes steps n r
last_by passes steps n r d few None found is = absurd (none_is r is)
last_by passes steps n r d few (Some back) found is =
    let first = position-Some passes (reverse (take n steps)) back d found in
    let near : back < n = omega (arith, first.0, length-reverse (take n steps), length-take-le n steps few) in
    let place : n - 1 - back ≡ r = some_is (n - 1 - back) r is in
    let within : r < n = omega (arith, place, near) in
    record {
      step = get_or steps r d;
      before = within;
      at = slice_get-get_or steps r d (omega (arith, within, few));
      does = ap (λ (k : ℕ). passes (get_or steps k d)) (sym place) ∙ ap passes (sym (step_back steps n back d few near)) ∙ first.1;
      later = λ k above below.
          let nearer : n - 1 - k < back = omega (arith, place, near, above, below) in
          let there : n - 1 - (n - 1 - k) ≡ k = omega (arith, below) in
          ap (λ (o : Option Step). option_map_or passes o false) (slice_get-get_or steps k d (omega (arith, below, few)))
          ∙ ap (λ (j : ℕ). passes (get_or steps j d)) (sym there)
          ∙ ap passes (sym (step_back steps n (n - 1 - k) d few (omega (arith, nearer, near))))
          ∙ first.2 (n - 1 - k) nearer;
    }

last_is : (passes : Step → Bool) (steps : List Step) (n r : ℕ) → n ≤ length steps → last_before passes steps n ≡ Some r → IsLast passes steps n r
last_is passes [] n r few h =
    let none : n ≡ 0 = omega (arith, few) in
    absurd (none_is r (subst (λ (m : ℕ). last_before passes [] m ≡ Some r) none h))
last_is passes (s ∷ steps) n r few h = last_by passes (s ∷ steps) n r s few (position passes (reverse (take n (s ∷ steps)))) refl h

both : (a b : Bool) → (a && b) ≡ true → (a ≡ true) × (b ≡ true)
both true b h = (refl, h)
both false b h = absurd (false≢true h)

drew_it : (ticket : ℕ) (deed : Deed) → draws_this ticket deed ≡ true → deed ≡ Draw ticket
drew_it ticket (Draw other) h = ap Draw (eqb-true other ticket h)
drew_it ticket (Start clock) h = absurd (false≢true h)
drew_it ticket (Renew clock) h = absurd (false≢true h)
drew_it ticket (Open part version) h = absurd (false≢true h)
drew_it ticket (Word part word value) h = absurd (false≢true h)
drew_it ticket (Close part version) h = absurd (false≢true h)
drew_it ticket (Recheck part version) h = absurd (false≢true h)
drew_it ticket (Lock part version) h = absurd (false≢true h)
drew_it ticket (Test part version) h = absurd (false≢true h)
drew_it ticket (Check part version) h = absurd (false≢true h)
drew_it ticket (Decide commit) h = absurd (false≢true h)
drew_it ticket (Put part word value) h = absurd (false≢true h)
drew_it ticket (Release part) h = absurd (false≢true h)
drew_it ticket (Unlock part) h = absurd (false≢true h)

released_it : (part : ℕ) (deed : Deed) → is_part part (released_part deed) ≡ true → deed ≡ Release part
released_it part (Release other) h = ap Release (eqb-true other part h)
released_it part (Draw ticket) h = absurd (false≢true h)
released_it part (Start clock) h = absurd (false≢true h)
released_it part (Renew clock) h = absurd (false≢true h)
released_it part (Open other version) h = absurd (false≢true h)
released_it part (Word other word value) h = absurd (false≢true h)
released_it part (Close other version) h = absurd (false≢true h)
released_it part (Recheck other version) h = absurd (false≢true h)
released_it part (Lock other version) h = absurd (false≢true h)
released_it part (Test other version) h = absurd (false≢true h)
released_it part (Check other version) h = absurd (false≢true h)
released_it part (Decide commit) h = absurd (false≢true h)
released_it part (Put other word value) h = absurd (false≢true h)
released_it part (Unlock other) h = absurd (false≢true h)

-- a number that is kept only where a test passes
kept_is : (test : ℕ → Bool) (o : Option ℕ) (r : ℕ) → option_and_then (λ k. cond (test k) (Some k) None) o ≡ Some r → (o ≡ Some r) × (test r ≡ true)
kept_is test None r h = absurd (none_is r h)
kept_is test (Some k) r h = by (test k) refl h
  where
    by : (b : Bool) → test k ≡ b → cond b (Some k) None ≡ Some r → (Some k ≡ Some r) × (test r ≡ true)
    by true passed is = (is, ap test (sym (some_is k r is)) ∙ passed)
    by false passed is = absurd (none_is r is)

-- the writer of a release had drawn the ticket last
record HasDrawn (steps : List Step) (thread ticket n : ℕ) : Type 0 where
  drawn : ℕ
  last : IsLast (draws_of thread) steps n drawn
  drew : last.step.deed ≡ Draw ticket

drawn_is : (steps : List Step) (thread ticket n : ℕ) → n ≤ length steps → has_drawn steps thread ticket n ≡ true → HasDrawn steps thread ticket n
drawn_is steps thread ticket n few h = by (last_before (draws_of thread) steps n) refl h
  where
    by : (o : Option ℕ) → last_before (draws_of thread) steps n ≡ o
        → option_map_or (λ drawn. option_map_or (λ (s : Step). draws_this ticket s.deed) (slice_get steps drawn) false) o false ≡ true → HasDrawn steps thread ticket n
    by None found is = absurd (false≢true is)
    by (Some drawn) found is =
        let last = last_is (draws_of thread) steps n drawn few found in
        record {
          drawn = drawn;
          last = last;
          drew = drew_it ticket last.step.deed (subst (λ (o : Option Step). option_map_or (λ (s : Step). draws_this ticket s.deed) o false ≡ true) last.at is);
        }

pub arrow_is : (steps : List Step) (thread part ticket n from found : ℕ) → n < length steps → found_at steps thread part ticket n ≡ Some found
    → released_at steps part ticket found ≡ Some from → IsArrow steps thread part ticket n from found
arrow_is steps thread part ticket n from found within h k =
    let kept = kept_is (λ (r : ℕ). nat_le (start_of steps thread n) r) (last_before (finds_of thread part ticket) steps (n + 1)) found h in
    let look = last_is (finds_of thread part ticket) steps (n + 1) found (omega (arith, within)) kept.0 in
    let looked = both (look.step.thread == thread) (finds part ticket look.step.deed) look.does in
    let few : found ≤ length steps = omega (arith, within, look.before) in
    let right = kept_is (λ (r : ℕ). is_with_ticket steps ticket r) (last_before (releases part) steps found) from k in
    let release = last_is (releases part) steps found from few right.0 in
    let draw = drawn_is steps release.step.thread ticket from (omega (arith, few, release.before))
    (subst (λ (o : Option Step). option_map_or (λ (s : Step). has_drawn steps s.thread ticket from) o false ≡ true) release.at right.1) in
    record {
      release = release.step;
      draw = draw.last.step;
      look = look.step;
      drawn = draw.drawn;
      at_release = release.at;
      at_draw = draw.last.at;
      at_look = look.at;
      released = released_it part release.step.deed release.does;
      drew = draw.drew;
      writer = eqb-true draw.last.step.thread release.step.thread (both (draw.last.step.thread == release.step.thread) (draws draw.last.step.deed) draw.last.does).0;
      last = draw.last.later;
      reader = eqb-true look.step.thread thread looked.0;
      sees = looked.1;
      in_order = (draw.last.before, release.before, leb-true (start_of steps thread n) found kept.1, omega (arith, look.before));
    }

pub arrows_are : (steps : List Step) → AreArrows steps
arrows_are steps thread part ticket n within = by_found (found_at steps thread part ticket n) refl
  where
    by_from : (found : ℕ) → found_at steps thread part ticket n ≡ Some found → (o : Option ℕ) → released_at steps part ticket found ≡ o
        → IfSome {T = ℕ × ℕ} (option_map (λ from. (from, found)) o) (λ ends. IsArrow steps thread part ticket n ends.0 ends.1)
    by_from found h None k = tt
    by_from found h (Some from) k = arrow_is steps thread part ticket n from found within h k

    by_found : (o : Option ℕ) → found_at steps thread part ticket n ≡ o
        → IfSome {T = ℕ × ℕ} (option_and_then (λ found. option_map (λ from. (from, found)) (released_at steps part ticket found)) o) (λ ends. IsArrow steps thread part ticket n ends.0 ends.1)
    by_found None h = tt
    by_found (Some found) h = by_from found h (released_at steps part ticket found) refl
