use Rattle.std.proofs.Common.{◌≡◌, ◌<◌, ◌≤◌, ◌+◌, ◌-◌, ◌++◌, ◌∷◌, [], ℕ, List, All, length, sym, refl, ap, ◌∙◌, subst, arith}
use Rattle.sto_table.specs.Taken.{taken, left_after}
use Rattle.sto_table.specs.declared.numbers.Claimer.{Claimer}
use Rattle.sto_table.proofs.Below.{all_snoc, one_longer}
use Rattle.sto_table.proofs.numbers.share.Goals as goal

pub loop-number-init : goal.loop-number-init
loop-number-init c =
    let none : c.new-claimers.result.items ≡ [] = ap (λ l. l.items) c.new-claimers.ensures in (
      c.requires.of,
      c.requires.seat,
      subst (λ (l : List Claimer). All (λ k. (k.seat.table_id ≡ c.args.claims.now.table.shared.table_id) × (k.seat.me.0 ≡ taken [] 1)) l)
          (sym none) (λ k d lt. absurd (omega arith)),
      (let z = ap length none in omega arith),
      c.requires.some,
    )

pub cut-cut-requires : goal.cut-cut-requires
cut-cut-requires c =
    let inv = c.loop-number.invariant in
    let seats = ap (λ m. m.0.seats) inv.1 in
    let test = c.loop-number-test.true in
    record { of = inv.0; several = ((omega arith), ap (λ m. m.0.numbers) inv.1) }

pub invariant_of-push : goal.invariant_of-push
invariant_of-push c =
    let is = c.cut-cut.ensures.claimer.1 in
    let seats = ap (λ m. m.0.seats) is in
    record { bare = ap (λ m. m.1) is; live = (omega arith) }

pub push-requires : goal.push-requires
push-requires c =
    let many = c.loop-number.invariant.3 in
    let test = c.loop-number-test.true in
    let small = c.ranges.seats.fits in
    omega arith

pub loop-number-preserved : goal.loop-number-preserved
loop-number-preserved c =
    let l = c.loop-number in
    let inv = l.invariant in
    let test = c.loop-number-test.true in
    let many = inv.3 in
    let longer = one_longer l.claimers.items c.push.new.self.items _ c.in-Ok.ensures.ok in (
      c.cut-cut.ensures.rest.0 ∙ inv.0,
      c.cut-cut.ensures.rest.1 ∙ ap (λ m. (left_after m.0, m.1)) inv.1,
      subst (λ (r : List Claimer). All (λ k. (k.seat.table_id ≡ c.args.claims.now.table.shared.table_id) × (k.seat.me.0 ≡ taken [] 1)) r)
          (sym c.in-Ok.ensures.ok)
          (all_snoc (λ k. (k.seat.table_id ≡ c.args.claims.now.table.shared.table_id) × (k.seat.me.0 ≡ taken [] 1))
          l.claimers.items _ inv.2 (c.cut-cut.ensures.claimer.0 ∙ inv.0, ap (λ m. m.0) c.cut-cut.ensures.claimer.1)),
      (omega arith),
      (omega arith),
    )

pub invariant_of-push-2 : goal.invariant_of-push-2
invariant_of-push-2 c =
    let inv = c.loop-number.invariant in
    let seats = ap (λ m. m.0.seats) inv.1 in
    let some = inv.4 in
    record { bare = ap (λ m. m.1) inv.1; live = (omega arith) }

pub push-requires-2 : goal.push-requires-2
push-requires-2 c =
    let many = c.loop-number.invariant.3 in
    let some = c.loop-number.invariant.4 in
    let small = c.ranges.seats.fits in
    omega arith

pub returns-in-Ok-push : goal.returns-in-Ok-push
returns-in-Ok-push c =
    let l = c.loop-number in
    let inv = l.invariant in
    let some = inv.4 in
    let stop = c.loop-number-test.false in
    let one : l.number ≡ 1 = omega arith in
    let many = inv.3 in
    let longer = one_longer l.claimers.items c.push-2.new.self.items _ c.in-Ok-push.ensures.ok in
    record {
      many = (omega arith);
      fresh =
          subst (λ (r : List Claimer). All (λ k. (k.seat.table_id ≡ c.args.claims.now.table.shared.table_id) × (k.seat.me.0 ≡ taken [] 1)) r)
          (sym c.in-Ok-push.ensures.ok)
          (all_snoc (λ k. (k.seat.table_id ≡ c.args.claims.now.table.shared.table_id) × (k.seat.me.0 ≡ taken [] 1))
          l.claimers.items _ inv.2 (inv.0, ap (λ m. m.0) inv.1 ∙ ap (taken []) one));
    }
