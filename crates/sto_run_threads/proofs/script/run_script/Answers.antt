use Rattle.std.proofs.Common.{rules, ◌≡◌, ◌+◌, ◌-◌, true, refl, inr, arith}
use Rattle.sto_run_threads.proofs.Scripts.{transaction_there, adds_through, aborts_none_through, script_step, script_left}
use Rattle.sto_run_threads.proofs.Accounts.{adds_up_through, run_adds_up}
use Rattle.sto_run_threads.proofs.Ordered.{ordered_on, ordered_run, ordered_wider}
use Rattle.sto_run_threads.proofs.Claiming.{less_one, more_one, times_le}
use Rattle.sto_run_threads.specs.Told.{told_in}
use Rattle.sto_run_threads.proofs.script.run_script.Goals as goal

pub run_one-requires-clause-there : goal.run_one-requires-clause-there
run_one-requires-clause-there g c =
    transaction_there (g.W.Work.plan c.args.work.now).file c.args.thread c.loop-position.position (omega (arith, c.loop-position-test.true, c.requires.count.0))

pub run_one-requires-clause-free : goal.run_one-requires-clause-free
run_one-requires-clause-free g c =
    let plan = g.W.Work.plan c.args.work.now in record {
      rests = c.loop-position.invariant.rests;
      draws = (let a = less_one plan.tries c.args.count c.loop-position.position c.loop-position-test.true in let b = c.loop-position.invariant.draws in omega (arith, a, b));
    }

pub returns-then-not-branch-clause-ran : goal.returns-then-not-branch-clause-ran
returns-then-not-branch-clause-ran g c =
    script_left (g.W.Work.plan c.args.work.now) (g.C.Cells.passes c.args.cells.now)
    (g.C.Cells.passes c.loop-position.cells) (g.C.Cells.view c.loop-position.cells) (g.C.Cells.view c.run_one.new.cells) c.args.thread c.loop-position.position
    (told_in c.args.records.now) (told_in c.loop-position.records) (told_in c.run_one.new.records) c.in_ok-run_one.field-0
    (g.met.C.Cells.same_passes c.args.cells.now c.loop-position.cells c.loop-position.invariant.same)
    c.loop-position.invariant.ended (omega (arith, c.loop-position-test.true, c.requires.count.0)) c.loop-position.invariant.fresh c.loop-position.invariant.worked
    c.in_ok-run_one.ensures.ran (search rules) c.loop-position.invariant.adds

pub loop-position-preserved : goal.loop-position-preserved
loop-position-preserved g c =
    let on : c.in_ok-run_one.field-0 ≡ true = search rules in
    let ran = c.in_ok-run_one.ensures.ran in
    let k = script_step (g.W.Work.plan c.args.work.now) (g.C.Cells.passes c.args.cells.now)
    (g.C.Cells.passes c.loop-position.cells) (g.C.Cells.view c.loop-position.cells) (g.C.Cells.view c.run_one.new.cells) c.args.thread c.loop-position.position
    (told_in c.loop-position.records) (told_in c.run_one.new.records) c.in_ok-run_one.field-0
    (g.met.C.Cells.same_passes c.args.cells.now c.loop-position.cells c.loop-position.invariant.same)
    c.loop-position.invariant.ended (omega (arith, c.loop-position-test.true, c.requires.count.0)) c.loop-position.invariant.fresh c.loop-position.invariant.worked ran in
    let tries = (g.W.Work.plan c.args.work.now).tries in
    record {
      ended = (let a = (k.next.more on).0 in let b = c.loop-position.invariant.ended in omega (arith, a, b));
      fresh = k.fresh on;
      rests = ran.ran.rests;
      draws = (let a = less_one tries c.args.count c.loop-position.position c.loop-position-test.true in let b = c.loop-position.invariant.draws in let d = ran.ran.draws in omega (arith, a, b, d));
      spent = (let a = more_one tries c.args.ended c.loop-position.position c.loop-position.auto.position in let b = c.loop-position.invariant.spent in let d = ran.ran.draws in omega (arith, a, b, d));
      worked = k.next.worked;
      adds = adds_through c.args.thread (told_in c.args.records.now) (told_in c.loop-position.records) (told_in c.run_one.new.records) c.loop-position.invariant.adds k.next.adds;
      alone = λ one. aborts_none_through (told_in c.args.records.now) (told_in c.loop-position.records) (told_in c.run_one.new.records) (c.loop-position.invariant.alone one) (k.alone one).1;
      adds_up = adds_up_through (g.C.Cells.view c.args.cells.now) (g.C.Cells.view c.loop-position.cells) (g.C.Cells.view c.run_one.new.cells)
          (told_in c.args.records.now) (told_in c.loop-position.records) (told_in c.run_one.new.records) c.loop-position.invariant.adds_up
          (run_adds_up _ _ _ _ _ _ _ _ _ _ _ ran.ran);
      in_order = ordered_on (c.args.thread, c.args.ended + 1) (c.args.thread, c.loop-position.position + 1) (c.args.thread, c.loop-position.position + 1 + 1)
          (told_in c.args.records.now) (told_in c.loop-position.records) (told_in c.run_one.new.records)
          (inr (refl, omega (arith, c.loop-position.auto.position))) (inr (refl, omega arith)) c.loop-position.invariant.in_order (ordered_run _ _ _ _ _ _ _ _ c.in_ok-run_one.field-0 c.loop-position.invariant.worked ran);
      same = g.met.C.Cells.same_through c.args.cells.now c.loop-position.cells c.run_one.new.cells c.loop-position.invariant.same c.run_one.ensures.same;
    }

pub returns-then-not-branch-clause-leads : goal.returns-then-not-branch-clause-leads
returns-then-not-branch-clause-leads g c =
    let plan = g.W.Work.plan c.args.work.now in let inv = c.loop-position.invariant in let ran = c.in_ok-run_one.ensures.ran.ran in record {
      rests = ran.rests;
      draws =
          (let a = more_one plan.tries c.args.ended c.loop-position.position c.loop-position.auto.position in let b = inv.spent in let d = ran.draws in
          let e = times_le plan.tries (c.loop-position.position + 1 - c.args.ended) (c.args.count - c.args.ended) 0 (omega (arith, c.loop-position-test.true)) in omega (arith, a, b, d, e));
      adds_up = adds_up_through (g.C.Cells.view c.args.cells.now) (g.C.Cells.view c.loop-position.cells) (g.C.Cells.view c.run_one.new.cells)
          (told_in c.args.records.now) (told_in c.loop-position.records) (told_in c.run_one.new.records) inv.adds_up
          (run_adds_up _ _ _ _ _ _ _ _ _ _ _ c.in_ok-run_one.ensures.ran.ran);
    }

pub returns-clause-leads : goal.returns-clause-leads
returns-clause-leads g c =
    let inv = c.loop-position.invariant in record {
      rests = inv.rests;
      draws = search rules;
      adds_up = inv.adds_up;
    }

pub returns-then-not-branch-clause-in_order : goal.returns-then-not-branch-clause-in_order
returns-then-not-branch-clause-in_order g c =
    let thread = c.args.thread in let position = c.loop-position.position in
    let olds = told_in c.args.records.now in let news = told_in c.run_one.new.records in
    ordered_wider (thread, c.args.ended + 1) (thread, c.args.ended + 1) (thread, position + 1 + 1) (thread, c.args.count + 1) olds news
    (inr (refl, omega arith)) (inr (refl, omega (arith, c.loop-position-test.true)))
    (ordered_on (thread, c.args.ended + 1) (thread, position + 1) (thread, position + 1 + 1) olds (told_in c.loop-position.records) news
    (inr (refl, omega (arith, c.loop-position.auto.position))) (inr (refl, omega arith)) c.loop-position.invariant.in_order
    (ordered_run _ _ _ _ _ _ _ _ c.in_ok-run_one.field-0 c.loop-position.invariant.worked c.in_ok-run_one.ensures.ran))

pub returns-clause-in_order : goal.returns-clause-in_order
returns-clause-in_order g c =
    let thread = c.args.thread in let high = c.loop-position.auto.position-end c.requires.count.1 in
    ordered_wider (thread, c.args.ended + 1) (thread, c.args.ended + 1) (thread, c.loop-position.position + 1) (thread, c.args.count + 1)
    (told_in c.args.records.now) (told_in c.loop-position.records) (inr (refl, omega arith)) (inr (refl, omega (arith, high))) c.loop-position.invariant.in_order
