use Rattle.std.proofs.Common.{◌≡◌, ◌<◌, ◌++◌, ◌∷◌, [], ℕ, ℤ, List, suc, length, drop, ap, sym, ◌∙◌, subst, arith, rules, FitsSigned, length-append}
use Rattle.std.specs.Int.{w64}
use Rattle.std.proofs.lemmas.Int.{to_z-of_z}
use Rattle.sto_container.specs.Places.{next_below}
use Rattle.sto_ring.specs.Ringed.{along}
use Rattle.sto_ring.proofs.Among.{step_along, append_none}
use Rattle.sto_ring.proofs.rows.values_along.Goals as goal

pub loop-preserved : goal.loop-preserved
loop-preserved c =
    let n = c.args.places in
    let own = drop c.args.first c.args.contents.now.items in
    let g : FitsSigned w64 c.value_in.result = search rules in
    let made : c.push.new.self.items ≡ c.loop.values.items ++ c.value_in.result ∷ [] = simp to_z-of_z at c.in_ok-push.ensures.ok in
    record {
      below = subst (λ (x : ℕ). x < n) (sym c.next-place.ensures) (next_below n c.loop.place c.loop.invariant.below);
      many = omega (arith, ap length made, length-append c.loop.values.items (c.value_in.result ∷ []), c.loop.invariant.many);
      rest = λ r s.
          ap (λ (l : List ℤ). l ++ along n own c.next-place.result r) made ∙ ap (λ q. (c.loop.values.items ++ c.value_in.result ∷ []) ++ along n own q r) c.next-place.ensures
          ∙ step_along n own c.loop.values.items c.loop.place c.value_in.result r (along n own c.args.head c.args.size) c.value_in.ensures (c.loop.invariant.rest (suc r) (omega (arith, s)));
    }

pub returns : goal.returns
returns c = sym (append_none c.loop.values.items) ∙ c.loop.invariant.rest 0 (omega (arith, c.loop-test.false, c.loop.auto.counter-end))
