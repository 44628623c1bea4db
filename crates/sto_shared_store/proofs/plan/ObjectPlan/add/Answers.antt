use Rattle.std.specs.Prelude.{sum_by}
use Rattle.std.proofs.Common.{rules, true, ◌≡◌, ◌≤◌, ◌<◌, ◌+◌, ◌^◌, List, [], ◌∷◌, ◌++◌, length, sym, ap, ◌∙◌, subst, arith}
use Rattle.sto_model.specs.declared.shape.Shape.{Shape}
use Rattle.sto_model.specs.Sizes.{part_count, rank}
use Rattle.sto_shared_store.specs.Plans.{IsPlan, CanStand, last_rank, has_room}
use Rattle.sto_shared_store.proofs.Ordered.{plan_more, parts_more, last_more}
use Rattle.sto_shared_store.proofs.Roomy.{room_fits}
use Rattle.sto_shared_store.proofs.plan.ObjectPlan.add.Goals as goal

pub invariant_of-self : goal.invariant_of-self
invariant_of-self c =
    let before : List Shape = c.self.inside.shapes.items in
    let s : Shape = c.args.shape in
    let all : c.push.new.self.items ≡ before ++ s ∷ [] = c.in-Ok.ensures.ok in
    let last : last_rank before ≤ rank s = omega (arith, c.if-kind-self.false, c.rank-kind.ensures, c.self.invariant.2) in
    let roomy : has_room s ≡ true = search rules in
    let few : sum_by part_count before + part_count s < 2 ^ 32 = omega (arith, c.if-from-count.false, c.from.ensures, c.part_count-count.ensures.parts, c.self.invariant.1, c.self.ranges) in (
      subst IsPlan (sym all) (plan_more before s c.self.invariant.0 last (room_fits s roomy) few),
      omega (arith, c.self.invariant.1, c.part_count-count.ensures.parts, parts_more before s, ap (sum_by part_count) all),
      c.rank-kind.ensures ∙ sym (last_more before s last) ∙ ap last_rank (sym all),
    )

pub returns-in-Ok-clause-stands : goal.returns-in-Ok-clause-stands
returns-in-Ok-clause-stands c =
    let before : List Shape = c.self.inside.shapes.items in
    let s : Shape = c.args.shape in
    let last : last_rank before ≤ rank s = omega (arith, c.if-kind-self.false, c.rank-kind.ensures, c.self.invariant.2) in
    let roomy : has_room s ≡ true = search rules in
    let few : sum_by part_count before + part_count s < 2 ^ 32 = omega (arith, c.if-from-count.false, c.from.ensures, c.part_count-count.ensures.parts, c.self.invariant.1, c.self.ranges) in
    let many : length before + 1 < 2 ^ 32 = omega (arith, c.if-from-count.false, c.len-number.ensures) in
    subst (λ (l : List Shape). CanStand l s) c.self.view_is (record { order = last; room = roomy; parts = few; few = many })
