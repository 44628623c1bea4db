use Rattle.std.proofs.Common.{◌≡◌, ◌<◌, ◌-◌, ◌++◌, ◌∷◌, [], ℕ, ℤ, List, suc, pos, length, ap, sym, ◌∙◌, subst, arith, rules, FitsSigned, to_z, of_z, length-append, append_assoc}
use Rattle.std.specs.Int.{w64}
use Rattle.std.proofs.lemmas.Int.{to_z-of_z}
use Rattle.sto_item.specs.declared.item.Item.{Item}
use Rattle.sto_item.specs.declared.item.Item.TheVariants.{Seen}
use Rattle.sto_model.proofs.RowFacts.{not_equal_of}
use Rattle.sto_type.specs.Known.{known, word_known}
use Rattle.sto_type.specs.Plans.{Ask}
use Rattle.sto_type.specs.Telling.{plan_of}
use Rattle.sto_container.specs.Places.{next, next_below}
use Rattle.sto_map.specs.Mapped.{look, key_part, over_part}
use Rattle.sto_map.proofs.Looks.{asks_key, finds, asks_over, stops, goes_on}
use Rattle.sto_map.proofs.seeking.seek.Goals as goal

-- a number that is passed as its bits
plainly : {A : Type 0} (x : ℤ) → FitsSigned w64 x → (f g : ℤ → A) → f (to_z w64 (of_z w64 x)) ≡ g (to_z w64 (of_z w64 x)) → f x ≡ g x
plainly x fit f g h = subst (λ y. f y ≡ g y) (to_z-of_z w64 x fit) h

coded : {A : Type 0} (x : ℤ) → FitsSigned w64 x → (f g : ℤ → A) → f x ≡ g x → f (to_z w64 (of_z w64 x)) ≡ g (to_z w64 (of_z w64 x))
coded x fit f g h = subst (λ y. f y ≡ g y) (sym (to_z-of_z w64 x fit)) h

is_nothing : (x : ℤ) → FitsSigned w64 x → of_z w64 x ≡ 0 → x ≡ pos 0
is_nothing x fit e = sym (to_z-of_z w64 x fit) ∙ ap (to_z w64) e

pub returns-in_default-clause-comes : goal.returns-in_default-clause-comes
returns-in_default-clause-comes c z e s f g =
    let fit = c.ranges.key in
    let k = known c.args.cache.now in
    let left = c.args.size.now.places - suc c.loop.counter in
    let all = plainly c.args.key fit (λ x. plan_of (look z x f g z.places c.args.home []) k) (λ x. plan_of (look z x f g (suc left) c.loop.place c.loop.items.items) k) (c.loop.invariant.rest z e s f g (suc left) (omega (arith, c.loop-test.true))) in
    all ∙ asks_key z c.args.key f g k left c.loop.place c.loop.items.items (ap k (sym (c.key_part.ensures z e s)) ∙ c.in_default.ensures) ∙ ap Ask (sym (c.key_part-in_default.ensures z e s))

pub returns-then-holds-clause-comes : goal.returns-then-holds-clause-comes
returns-then-holds-clause-comes c z e s f g =
    let fit = c.ranges.key in
    let k = known c.args.cache.now in
    let left = c.args.size.now.places - suc c.loop.counter in
    let all = plainly c.args.key fit (λ x. plan_of (look z x f g z.places c.args.home []) k) (λ x. plan_of (look z x f g (suc left) c.loop.place c.loop.items.items) k) (c.loop.invariant.rest z e s f g (suc left) (omega (arith, c.loop-test.true))) in
    let h = simp to_z-of_z at c.holds.ensures in
    all ∙ finds z c.args.key f g k left c.loop.place c.loop.items.items c.in-Some.words.now (ap k (sym (c.key_part.ensures z e s)) ∙ c.in-Some.ensures) (sym h ∙ c.if-holds.true)

pub returns-in_default-first_word-clause-comes : goal.returns-in_default-first_word-clause-comes
returns-in_default-first_word-clause-comes c z e s f g =
    let fit = c.ranges.key in
    let k = known c.args.cache.now in
    let left = c.args.size.now.places - suc c.loop.counter in
    let all = plainly c.args.key fit (λ x. plan_of (look z x f g z.places c.args.home []) k) (λ x. plan_of (look z x f g (suc left) c.loop.place c.loop.items.items) k) (c.loop.invariant.rest z e s f g (suc left) (omega (arith, c.loop-test.true))) in
    let h = simp to_z-of_z at c.holds.ensures in
    all
    ∙ asks_over z c.args.key f g k left c.loop.place c.loop.items.items c.in-Some.words.now (ap k (sym (c.key_part.ensures z e s)) ∙ c.in-Some.ensures) (sym h ∙ c.if-holds.false)
    (ap (λ p. word_known (k p)) (sym (c.over_part.ensures z e s)) ∙ c.in_default-first_word.ensures)
    ∙ ap Ask (sym (c.over_part-in_default-first_word.ensures z e s))

pub push-requires : goal.push-requires
push-requires c = omega (arith, c.loop.invariant.many, c.loop-test.true, c.args.size.now.few)

pub push-requires-then-over-eq0 : goal.push-requires-then-over-eq0
push-requires-then-over-eq0 c =
    omega (arith, ap length c.in_ok-push.ensures.ok, length-append c.loop.items.items (Seen c.key_part-in-loop.result ∷ []), c.loop.invariant.many, c.loop-test.true, c.args.size.now.few)

pub returns-then-over-eq0-clause-comes : goal.returns-then-over-eq0-clause-comes
returns-then-over-eq0-clause-comes c z e s f g =
    let fit = c.ranges.key in
    let k = known c.args.cache.now in
    let left = c.args.size.now.places - suc c.loop.counter in
    let all = plainly c.args.key fit (λ x. plan_of (look z x f g z.places c.args.home []) k) (λ x. plan_of (look z x f g (suc left) c.loop.place c.loop.items.items) k) (c.loop.invariant.rest z e s f g (suc left) (omega (arith, c.loop-test.true))) in
    let h = simp to_z-of_z at c.holds.ensures in
    let items = c.loop.items.items in
    let a : c.key_part-in-loop.result ≡ key_part z c.loop.place = c.key_part-in-loop.ensures z e s in
    let b : c.over_part-then-over-eq0.result ≡ over_part z c.loop.place = c.over_part-then-over-eq0.ensures z e s in
    let made =
    c.in_ok-push-2.ensures.ok ∙ ap (λ (l : List Item). l ++ Seen c.over_part-then-over-eq0.result ∷ []) c.in_ok-push.ensures.ok
    ∙ append_assoc items (Seen c.key_part-in-loop.result ∷ []) (Seen c.over_part-then-over-eq0.result ∷ [])
    ∙ (λ i. items ++ Seen (a i) ∷ Seen (b i) ∷ []) in
    all
    ∙ stops z c.args.key f g k left c.loop.place items c.in-Some.words.now (ap k (sym (c.key_part.ensures z e s)) ∙ c.in-Some.ensures) c.in-Some-first_word.over (sym h ∙ c.if-holds.false)
    (ap (λ p. word_known (k p)) (sym (c.over_part.ensures z e s)) ∙ c.in-Some-first_word.ensures) (is_nothing c.in-Some-first_word.over (search rules) c.if-over-eq0.true)
    ∙ ap (λ l. plan_of (g l) k) (sym made)

pub loop-preserved : goal.loop-preserved
loop-preserved c =
    let fit = c.ranges.key in
    let k = known c.args.cache.now in
    let n = c.args.size.now.places in
    let items = c.loop.items.items in
    let h = simp to_z-of_z at c.holds.ensures in
    record {
      below = subst (λ (x : ℕ). x < n) (sym c.next-place.ensures) (next_below n c.loop.place c.loop.invariant.below);
      many = omega (arith, ap length c.in_ok-push.ensures.ok, length-append items (Seen c.key_part-in-loop.result ∷ []), c.loop.invariant.many);
      rest = λ z e s f g left eq.
          let a : c.key_part-in-loop.result ≡ key_part z c.loop.place = c.key_part-in-loop.ensures z e s in
          let made : c.push.new.self.items ≡ items ++ Seen (key_part z c.loop.place) ∷ [] = c.in_ok-push.ensures.ok ∙ ap (λ x. items ++ Seen x ∷ []) a in
          let to : c.next-place.result ≡ next z.places c.loop.place = c.next-place.ensures ∙ ap (λ x. next x c.loop.place) (sym e) in
          coded c.args.key fit (λ x. plan_of (look z x f g z.places c.args.home []) k) (λ x. plan_of (look z x f g left c.next-place.result c.push.new.self.items) k)
          (plainly c.args.key fit (λ x. plan_of (look z x f g z.places c.args.home []) k) (λ x. plan_of (look z x f g (suc left) c.loop.place items) k) (c.loop.invariant.rest z e s f g (suc left) (omega (arith, eq)))
          ∙ goes_on z c.args.key f g k left c.loop.place items c.in-Some.words.now (ap k (sym (c.key_part.ensures z e s)) ∙ c.in-Some.ensures) c.in-Some-first_word.over (sym h ∙ c.if-holds.false)
          (ap (λ p. word_known (k p)) (sym (c.over_part.ensures z e s)) ∙ c.in-Some-first_word.ensures) (not_equal_of c.in-Some-first_word.over (pos 0) (λ x. c.if-over-eq0.false (ap (of_z w64) x)))
          ∙ (λ i. plan_of (look z c.args.key f g left (sym to i) (sym made i)) k));
    }

pub returns-clause-comes : goal.returns-clause-comes
returns-clause-comes c z e s f g =
    let fit = c.ranges.key in
    plainly c.args.key fit (λ x. plan_of (look z x f g z.places c.args.home []) (known c.args.cache.now)) (λ x. plan_of (look z x f g 0 c.loop.place c.loop.items.items) (known c.args.cache.now)) (c.loop.invariant.rest z e s f g 0 (omega (arith, c.loop-test.false, c.loop.auto.counter-end)))
