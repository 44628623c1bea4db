use Rattle.std.proofs.Common.{rules, ◌≡◌, ◌<◌, ◌≤◌, ◌+◌, ◌-◌, ◌++◌, ◌∷◌, [], ℕ, List, All, map, length, sym, refl, ap, ◌∙◌, subst, arith}
use Rattle.std.proofs.lemmas.List.{append-nil}
use Rattle.sto_core.specs.Opened.{opening_draws, opened_view}
use Rattle.sto_core.specs.History.{Contents}
use Rattle.sto_core.specs.Allowed.{is_idle}
use Rattle.sto_table.specs.Openings.{opened_down}
use Rattle.sto_table.specs.Rests.{IsOf}
use Rattle.sto_table.specs.declared.shared.Rest.{Rest}
use Rattle.sto_table.proofs.Sharing.{all_snoc, one_longer, next_is, left_is, last_is, views_more}
use Rattle.sto_table.proofs.opening.share.Goals as goal

pub loop-number-init : goal.loop-number-init
loop-number-init g c =
    let none : c.new-rests.result.items ≡ [] = ap (λ l. l.items) c.new-rests.ensures in (
      c.requires.table,
      c.requires.seat,
      subst (λ (l : List (Rest g.row.T.Denot g.T.Naming)). All (λ p. IsOf c.args.shared.now p.seat) l) (sym none)
          (λ k d lt. absurd (omega arith)),
      ap (λ (l : List (Rest g.row.T.Denot g.T.Naming)). map (λ p. p.seat.me.0.view) l
          ++ opened_down c.args.seat.me.0.view.sizes c.args.shared.now.table.shared.key.opening.value.items c.args.passes) none,
      (let z = ap length none in omega arith),
      c.requires.passes.0,
    )

pub cut-cut-requires : goal.cut-cut-requires
cut-cut-requires g c =
    let inv = c.loop-number.invariant in
    let uncut = ap (λ m. m.0.uncut) inv.1 in
    let gathered = ap (λ m. m.0.view.gathered) inv.1 in
    let draws = ap (λ m. m.0.view.draws) inv.1 in
    let test = c.loop-number-test.true in
    let most = c.loop-number.auto.number in
    let passes = c.requires.passes.1 in
    record {
      own = inv.0;
      uncut = ((omega arith), (omega arith));
      view = ((omega arith), (omega arith), ap (λ m. m.0.view.number) inv.1);
    }

pub invariant_of-push : goal.invariant_of-push
invariant_of-push g c =
    let inv = c.loop-number.invariant in
    let is = next_is c.args.seat.me.0.view.sizes c.args.shared.now.table.shared.key.opening.value.items c.loop-number.number
    c.loop-number.seat.me inv.1 c.cut-cut.result.me c.cut-cut.ensures.pass.1 in
    let gathered = ap (λ m. m.0.view.gathered) is in
    record {
      bare = ap (λ m. m.1) is;
      live = (omega arith);
      idle = ap (λ m. is_idle m.0.view.phase) is;
      numbered = ap (λ m. m.0.view.number) is;
    }

pub push-requires : goal.push-requires
push-requires g c =
    let many = c.loop-number.invariant.4 in
    let test = c.loop-number-test.true in
    let small = c.ranges.passes.fits in
    omega arith

pub loop-number-preserved : goal.loop-number-preserved
loop-number-preserved g c =
    let l = c.loop-number in
    let inv = l.invariant in
    let sizes = c.args.seat.me.0.view.sizes in
    let opening : Contents = c.args.shared.now.table.shared.key.opening.value.items in
    let is = next_is sizes opening l.number l.seat.me inv.1 c.cut-cut.result.me c.cut-cut.ensures.pass.1 in
    let number = ap (λ m. m.0.view.number) is in
    let test = c.loop-number-test.true in
    let most = l.auto.number in
    let passes = c.requires.passes.1 in
    let many = inv.4 in
    let longer = one_longer l.rests.items c.push.new.self.items _ c.in-Ok.ensures.ok in (
      c.cut-cut.ensures.rest.0 ∙ inv.0,
      left_is sizes opening l.number l.seat.me inv.1 (omega arith) c.cut-cut.new.seat.me c.cut-cut.ensures.rest.1,
      subst (λ (r : List (Rest g.row.T.Denot g.T.Naming)). All (λ p. IsOf c.args.shared.now p.seat) r) (sym c.in-Ok.ensures.ok)
          (all_snoc (λ p. IsOf c.args.shared.now p.seat) l.rests.items _ inv.2
          (c.cut-cut.ensures.pass.0 ∙ inv.0, ap (λ m. m.0.view.opening) is, (omega arith))),
      views_more (λ p. p.seat.me.0.view) sizes opening l.number c.args.passes l.rests.items c.push.new.self.items _
          (omega arith) inv.3 c.in-Ok.ensures.ok (ap (λ m. m.0.view) is),
      (omega arith),
      (omega arith),
    )

pub invariant_of-push-2 : goal.invariant_of-push-2
invariant_of-push-2 g c =
    let inv = c.loop-number.invariant in
    let gathered = ap (λ m. m.0.view.gathered) inv.1 in
    let some_pass = inv.5 in
    record {
      bare = ap (λ m. m.1) inv.1;
      live = (omega arith);
      idle = ap (λ m. is_idle m.0.view.phase) inv.1;
      numbered = ap (λ m. m.0.view.number) inv.1;
    }

pub push-requires-2 : goal.push-requires-2
push-requires-2 g c =
    let many = c.loop-number.invariant.4 in
    let some_pass = c.loop-number.invariant.5 in
    let small = c.ranges.passes.fits in
    omega arith

pub returns-in-Ok-push : goal.returns-in-Ok-push
returns-in-Ok-push g c =
    let l = c.loop-number in
    let inv = l.invariant in
    let sizes = c.args.seat.me.0.view.sizes in
    let opening : Contents = c.args.shared.now.table.shared.key.opening.value.items in
    let number = ap (λ m. m.0.view.number) inv.1 in
    let passes = c.requires.passes in
    let some_pass = inv.5 in
    let stop = c.loop-number-test.false in
    let one : l.number ≡ 1 = omega arith in
    let none : l.number - 1 ≡ 0 = omega arith in
    let all = views_more (λ p. p.seat.me.0.view) sizes opening l.number c.args.passes l.rests.items c.push-2.new.self.items _
    (omega arith) inv.3 c.in-Ok-push.ensures.ok
    (last_is sizes opening l.number l.seat.me inv.1 one ∙ ap (opened_view sizes opening) (sym none)) in
    record {
      of =
          subst (λ (r : List (Rest g.row.T.Denot g.T.Naming)). All (λ p. IsOf c.args.shared.now p.seat) r) (sym c.in-Ok-push.ensures.ok)
          (all_snoc (λ p. IsOf c.args.shared.now p.seat) l.rests.items _ inv.2
          (inv.0, ap (λ m. m.0.view.opening) inv.1, (omega arith)));
      views =
          sym (append-nil (map (λ p. p.seat.me.0.view) c.push-2.new.self.items))
          ∙ (ap (λ (k : ℕ). map (λ p. p.seat.me.0.view) c.push-2.new.self.items ++ opened_down sizes opening k) (sym none) ∙ all);
    }
