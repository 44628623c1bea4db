use Rattle.std.proofs.Common.{◌≡◌, ◌<◌, ◌-◌, ◌++◌, ◌∷◌, [], ℕ, suc, length, ap, sym, ◌∙◌, subst, arith, length-append}
use Rattle.sto_item.specs.declared.item.Item.TheVariants.{Seen}
use Rattle.sto_model.specs.PlainReplies.{Done}
use Rattle.sto_type.specs.Known.{known}
use Rattle.sto_type.specs.Plans.{Ask, Say}
use Rattle.sto_type.specs.Telling.{plan_of}
use Rattle.sto_container.specs.Places.{next, next_below}
use Rattle.sto_map.specs.Mapped.{key_part, added, place_walk}
use Rattle.sto_map.proofs.Walks.{asks_place, is_taken, is_free}
use Rattle.sto_map.proofs.rooms.place_from.Goals as goal

pub returns-in_default-clause-comes : goal.returns-in_default-clause-comes
returns-in_default-clause-comes c z e s key x r =
    let k = known c.args.cache.now in
    let left = c.args.size.now.places - suc c.loop.counter in
    let part = c.key_part-part.ensures z e s in
    c.loop.invariant.rest z e s key x r (suc left) (omega (arith, c.loop-test.true)) ∙ asks_place z key x k r left c.loop.place c.loop.items.items (ap k (sym part) ∙ c.in_default.ensures) ∙ ap Ask (sym part)

pub push-requires : goal.push-requires
push-requires c = omega (arith, c.loop.invariant.many, c.loop-test.true, c.args.size.now.few, c.requires.home)

pub returns-then-not-is_live-clause-comes : goal.returns-then-not-is_live-clause-comes
returns-then-not-is_live-clause-comes c z e s key x r =
    let k = known c.args.cache.now in
    let left = c.args.size.now.places - suc c.loop.counter in
    let items = c.loop.items.items in
    let part = c.key_part-part.ensures z e s in
    let made : c.push.new.self.items ≡ items ++ Seen (key_part z c.loop.place) ∷ [] = c.in_ok-push.ensures.ok ∙ ap (λ y. items ++ Seen y ∷ []) part in
    c.loop.invariant.rest z e s key x r (suc left) (omega (arith, c.loop-test.true)) ∙ is_free z key x k r left c.loop.place items c.in-Some.words.now (ap k (sym part) ∙ c.in-Some.ensures) (sym c.is_live.ensures ∙ c.if-not-is_live.true)
    ∙ ap (λ l. Say Done l (added z key x r c.loop.place)) (sym made)

pub loop-preserved : goal.loop-preserved
loop-preserved c =
    let k = known c.args.cache.now in
    let n = c.args.size.now.places in
    let items = c.loop.items.items in
    record {
      below = subst (λ (y : ℕ). y < n) (sym c.next-place.ensures) (next_below n c.loop.place c.loop.invariant.below);
      many = omega (arith, ap length c.in_ok-push.ensures.ok, length-append items (Seen c.key_part-part.result ∷ []), c.loop.invariant.many);
      rest = λ z e s key x r left eq.
          let part = c.key_part-part.ensures z e s in
          let made : c.push.new.self.items ≡ items ++ Seen (key_part z c.loop.place) ∷ [] = c.in_ok-push.ensures.ok ∙ ap (λ y. items ++ Seen y ∷ []) part in
          let to : c.next-place.result ≡ next z.places c.loop.place = c.next-place.ensures ∙ ap (λ y. next y c.loop.place) (sym e) in
          c.loop.invariant.rest z e s key x r (suc left) (omega (arith, eq)) ∙ is_taken z key x k r left c.loop.place items c.in-Some.words.now (ap k (sym part) ∙ c.in-Some.ensures) (sym c.is_live.ensures ∙ c.if-not-is_live.false)
          ∙ (λ i. plan_of (place_walk z key x r left (sym to i) (sym made i)) k);
    }

pub returns-clause-comes : goal.returns-clause-comes
returns-clause-comes c z e s key x r = c.loop.invariant.rest z e s key x r 0 (omega (arith, c.loop-test.false, c.loop.auto.counter-end))
