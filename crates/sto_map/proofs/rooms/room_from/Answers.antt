use Rattle.std.proofs.Common.{◌≡◌, ◌<◌, ◌-◌, ◌++◌, ◌∷◌, [], ℕ, suc, pos, length, false, true, ap, sym, ◌∙◌, subst, arith, length-append}
use Rattle.std.specs.Prelude.{int_lt}
use Rattle.std.proofs.lemmas.Int.{ints}
use Rattle.sto_part.specs.declared.pred.Test.TheVariants.{Lt, Ge}
use Rattle.sto_type.specs.Known.{known}
use Rattle.sto_type.specs.Telling.{plan_of}
use Rattle.sto_type.specs.Words.{compared}
use Rattle.sto_container.specs.Places.{next, next_below}
use Rattle.sto_map.specs.Mapped.{room_walk, place_from_home}
use Rattle.sto_map.proofs.Walks.{asks_room, no_room, has_room}
use Rattle.sto_map.proofs.rooms.room_from.Goals as goal

pub returns-in_default-clause-comes : goal.returns-in_default-clause-comes
returns-in_default-clause-comes c z e s key x =
    let left = c.args.size.now.stripes - suc c.loop.counter in
    c.loop.invariant.rest z e s key x (suc left) (omega (arith, c.loop-test.true)) ∙ asks_room z key x (known c.args.cache.now) left c.loop.at c.loop.items.items c.in_default.ensures

pub push-requires : goal.push-requires
push-requires c = omega (arith, c.loop.invariant.many, c.loop-test.true, c.args.size.now.few, c.requires.some)

pub returns-then-room-ge1-clause-comes : goal.returns-then-room-ge1-clause-comes
returns-then-room-ge1-clause-comes c z e s key x =
    let k = known c.args.cache.now in
    let left = c.args.size.now.stripes - suc c.loop.counter in
    let items = c.loop.items.items in
    let b : int_lt c.in-Some.room (pos 1) ≡ false = grind (arith, ints, c.if-room-ge1.true) in
    let made : c.push.new.self.items ≡ items ++ compared c.loop.at 0 Ge (pos 1) ∷ [] = c.in_ok-push.ensures.ok ∙ ap (λ y. items ++ y ∷ []) c.compares.ensures in
    c.loop.invariant.rest z e s key x (suc left) (omega (arith, c.loop-test.true)) ∙ has_room z key x k left c.loop.at items c.in-Some.room c.in-Some.ensures b
    ∙ ap (λ l. plan_of (place_from_home z key x c.loop.at l) k) (sym made)

pub push-requires-in-loop : goal.push-requires-in-loop
push-requires-in-loop c = omega (arith, c.loop.invariant.many, c.loop-test.true, c.args.size.now.few, c.requires.some)

pub loop-preserved : goal.loop-preserved
loop-preserved c =
    let k = known c.args.cache.now in
    let n = c.args.size.now.stripes in
    let items = c.loop.items.items in
    let b : int_lt c.in-Some.room (pos 1) ≡ true = grind (arith, ints, c.if-room-ge1.false) in
    let made : c.push-in-loop.new.self.items ≡ items ++ compared c.loop.at 0 Lt (pos 1) ∷ [] = c.in_ok-push-2.ensures.ok ∙ ap (λ y. items ++ y ∷ []) c.compares-in-loop.ensures in
    record {
      below = subst (λ (y : ℕ). y < n) (sym c.next-at.ensures) (next_below n c.loop.at c.loop.invariant.below);
      many = omega (arith, ap length made, length-append items (compared c.loop.at 0 Lt (pos 1) ∷ []), c.loop.invariant.many);
      rest = λ z e s key x left eq.
          let to : c.next-at.result ≡ next z.stripes c.loop.at = c.next-at.ensures ∙ ap (λ y. next y c.loop.at) (sym s) in
          c.loop.invariant.rest z e s key x (suc left) (omega (arith, eq)) ∙ no_room z key x k left c.loop.at items c.in-Some.room c.in-Some.ensures b
          ∙ (λ i. plan_of (room_walk z key x left (sym to i) (sym made i)) k);
    }

pub returns-clause-comes : goal.returns-clause-comes
returns-clause-comes c z e s key x = c.loop.invariant.rest z e s key x 0 (omega (arith, c.loop-test.false, c.loop.auto.counter-end))
