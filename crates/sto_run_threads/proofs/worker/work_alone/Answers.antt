use Rattle.std.proofs.Common.{◌≡◌, length, ℕ, suc, ◌+◌, ◌-◌, ◌*◌, ◌<◌, ◌≤◌, List, [], ◌∷◌, ◌++◌, sym, ap, ◌∙◌, subst, arith, inl}
use Rattle.atomic_table.specs.declared.shared.Seat.{Seat}
use Rattle.sto_table.specs.declared.stance.Stance.{Stance}
use Rattle.sto_table.specs.declared.taken.Taken.{Taken}
use Rattle.sto_table.specs.Taken.{times, past}
use Rattle.sto_run_threads.specs.Counts.{scripts_from, next_after}
use Rattle.sto_run_threads.specs.Worked.{AreOf, AreDone}
use Rattle.sto_run_threads.proofs.Joined.{times_append, once_self, above_all, none_has_ended, none_is_fresh, claimed_more}
use Rattle.sto_run_threads.specs.Accounts.{HasGathered}
use Rattle.sto_run_threads.proofs.Scripts.{aborts_none_through}
use Rattle.sto_run_threads.proofs.Gathered.{made_at}
use Rattle.sto_run_threads.proofs.Accounts.{adds_up_through, one_gathered}
use Rattle.sto_run_threads.proofs.Claiming.{thread_within, next_is, next_more, spent_left, past_more, done_more, of_past, done_past}
use Rattle.sto_run_threads.specs.Ordered.{RunsInOrder}
use Rattle.sto_run_threads.proofs.Ordered.{from_first, before_thread, up_to_thread, ordered_on, ordered_wider}
use Rattle.sto_run_threads.specs.Plans.{draws_of, thread_count}
use Rattle.sto_run_threads.specs.Told.{told_in}
use Rattle.sto_run_threads.specs.Teams.{view_at}
use Rattle.sto_run_threads.proofs.worker.work_alone.Goals as goal

pub run_script-requires-clause-ended : goal.run_script-requires-clause-ended
run_script-requires-clause-ended g c =
    let numbers = c.loop-thread.claimer.seat.me.0.numbers in
    none_has_ended c.in-Some.thread (told_in c.loop-thread.records) (c.loop-thread.invariant.own c.in-Some.thread (above_all c.in-Some.thread numbers c.in-Some.ensures.some.1.above))

pub run_script-requires-clause-fresh : goal.run_script-requires-clause-fresh
run_script-requires-clause-fresh g c =
    let numbers = c.loop-thread.claimer.seat.me.0.numbers in
    none_is_fresh (g.W.Work.plan c.args.work.now).tries c.loop-thread.pass.shared.now.table.shared.key.passes c.in-Some.thread (told_in c.loop-thread.records) (c.loop-thread.invariant.own c.in-Some.thread (above_all c.in-Some.thread numbers c.in-Some.ensures.some.1.above))

pub run_script-requires-clause-free : goal.run_script-requires-clause-free
run_script-requires-clause-free g c =
    let numbers = c.loop-thread.claimer.seat.me.0.numbers in
    let plan = g.W.Work.plan c.args.work.now in let threads = plan.file.threads in
    let w = thread_within threads c.in-Some.thread (next_after numbers) (next_is numbers c.in-Some.thread c.in-Some.ensures.some.1.above) in
    let is : c.count-count.result - 0 ≡ c.count-count.result = omega arith in
    let e = c.count-count.ensures in record {
      rests = c.loop-thread.invariant.rests;
      draws = subst (λ (n : ℕ). plan.tries * n ≤ c.loop-thread.pass.seat.me.0.view.draws) (sym (is ∙ e))
          (spent_left plan.tries _ _ (scripts_from threads (suc c.in-Some.thread)) (view_at c.args.worker.rest).draws (draws_of plan)
          c.loop-thread.pass.seat.me.0.view.draws 0 w c.requires.hired.ready.free.draws c.loop-thread.invariant.draws).0;
    }

pub loop-thread-smaller : goal.loop-thread-smaller
loop-thread-smaller g c =
    let numbers = c.loop-thread.claimer.seat.me.0.numbers in
    let low = next_is numbers c.in-Some.thread c.in-Some.ensures.some.1.above in
    let new : c.claim.new.claimer.seat.me.0.numbers ≡ numbers ++ c.in-Some.thread ∷ [] = ap (λ (t : Taken). t.numbers) c.in-Some.ensures.some.1.view in
    let now = ap next_after new ∙ next_more numbers c.in-Some.thread c.in-Some.ensures.some.1.above in
    let below = c.in-Some.ensures.some.0 in let count = c.requires.count in
    let less : length (g.W.Work.plan c.args.work.now).file.threads - next_after c.claim.new.claimer.seat.me.0.numbers < length (g.W.Work.plan c.args.work.now).file.threads - next_after numbers = omega (arith, low, now, below, count) in less

pub loop-thread-preserved : goal.loop-thread-preserved
loop-thread-preserved g c =
    let numbers = c.loop-thread.claimer.seat.me.0.numbers in
    let inv = c.loop-thread.invariant in
    let claims = c.in-Some.ensures.some.1 in
    let same = c.run_script.ensures.same in
    let ran = c.in_ok-run_script.ensures.ran in let leads = c.in_ok-run_script.ensures.leads in
    let plan = g.W.Work.plan c.args.work.now in let threads = plan.file.threads in
    let new : c.claim.new.claimer.seat.me.0.numbers ≡ numbers ++ c.in-Some.thread ∷ [] = ap (λ (t : Taken). t.numbers) claims.view in
    let now = ap next_after new ∙ next_more numbers c.in-Some.thread claims.above in
    let below = c.in-Some.ensures.some.0 in let count = c.requires.count in
    let low = next_is numbers c.in-Some.thread claims.above in
    let w = thread_within threads c.in-Some.thread (next_after numbers) low in
    let is : c.count-count.result - 0 ≡ c.count-count.result = omega arith in
    let spent = subst (λ (n : ℕ). c.loop-thread.pass.seat.me.0.view.draws ≤ c.run_script.new.cells.seat.me.0.view.draws + plan.tries * n) (is ∙ c.count-count.ensures) leads.draws in
    record {
      of = (same.1 ∙ inv.of.0, same.2 ∙ inv.of.1, (let n = same.3 in let k = inv.of.2 in omega (arith, n, k)));
      passes = same.0 ∙ inv.passes;
      gathered = same.5 ∙ inv.gathered;
      claimer = c.claim.ensures.of ∙ inv.claimer;
      seats = ap (λ (t : Taken). t.seats) claims.view ∙ inv.seats;
      open_still = ap (λ (l : List ℕ). past c.args.claims.now.table.shared.key.count l) new ∙ past_more c.args.claims.now.table.shared.key.count numbers c.in-Some.thread inv.open_still below;
      rests = leads.rests;
      draws = subst (λ (n : ℕ). (view_at c.args.worker.rest).draws + plan.tries * scripts_from threads n ≤ c.run_script.new.cells.seat.me.0.view.draws + draws_of plan) (sym now)
          ((spent_left plan.tries _ _ (scripts_from threads (suc c.in-Some.thread)) (view_at c.args.worker.rest).draws (draws_of plan)
          c.loop-thread.pass.seat.me.0.view.draws c.run_script.new.cells.seat.me.0.view.draws w c.requires.hired.ready.free.draws inv.draws).1 spent);
      within = omega (arith, now, below, count);
      worked = ran.worked;
      adds_up = adds_up_through (view_at c.args.worker.rest) c.loop-thread.pass.seat.me.0.view c.run_script.new.cells.seat.me.0.view [] (told_in c.loop-thread.records) (told_in c.run_script.new.records)
          inv.adds_up leads.adds_up;
      alone = λ one. aborts_none_through [] (told_in c.loop-thread.records) (told_in c.run_script.new.records) (inv.alone one) (ran.alone (inv.passes ∙ one)).1;
      in_order = subst (λ (n : ℕ). RunsInOrder (0, 0) (n, 0) [] (told_in c.run_script.new.records)) (sym now)
          (ordered_on (0, 0) (next_after numbers, 0) (suc c.in-Some.thread, 0) [] (told_in c.loop-thread.records) (told_in c.run_script.new.records)
          (from_first (next_after numbers, 0)) (inl (omega (arith, low))) inv.in_order
          (ordered_wider (next_after numbers, 0) (c.in-Some.thread, 0 + 1) (c.in-Some.thread, c.count-count.result + 1) (suc c.in-Some.thread, 0)
          (told_in c.loop-thread.records) (told_in c.run_script.new.records) (before_thread (next_after numbers) c.in-Some.thread 0 low) (inl (omega arith)) c.in_ok-run_script.ensures.in_order));
      own = subst (λ (l : List ℕ). AreOf l (told_in c.run_script.new.records)) (sym new)
          (claimed_more numbers c.in-Some.thread (told_in c.loop-thread.records) (told_in c.run_script.new.records) inv.own ran.adds);
      done = subst (λ (l : List ℕ). AreDone plan l (told_in c.run_script.new.records)) (sym new)
          (done_more plan _ c.run_script.new.cells.seat.me.0.view numbers c.in-Some.thread
          (told_in c.loop-thread.records) (told_in c.run_script.new.records) c.in_ok-run_script.field-0 ran inv.done);
    }

pub returns : goal.returns
returns g c =
    let plan = g.W.Work.plan c.args.work.now in
    let numbers = c.loop-thread.claimer.seat.me.0.numbers in
    let inv = c.loop-thread.invariant in
    let found = c.in_default.ensures.none in
    let count = c.requires.count in let far = found.1 in
    let rs = told_in c.loop-thread.records in
    let new : c.claim.new.claimer.seat.me.0.numbers ≡ numbers ++ found.0 ∷ [] = ap (λ (t : Taken). t.numbers) found.2.view in
    record {
      team = record {
        finished = record {
          made = made_at c.args.shared.now plan c.rest.result c.loop-thread.pass.seat rs c.rest.ensures inv.of inv.rests inv.worked;
          claimer = c.claim.ensures.of ∙ inv.claimer;
          own = subst (λ (l : List ℕ). AreOf l rs) (sym new) (of_past numbers found.0 rs inv.own);
          done = subst (λ (l : List ℕ). AreDone plan l rs) (sym new) (done_past plan numbers found.0 rs (omega (arith, far, count)) inv.done);
          alone = inv.alone;
          last = found.0;
          past = omega (arith, far, count);
          found = subst (λ (l : List ℕ). 1 ≤ times found.0 l) (sym new) (let a = times_append found.0 numbers (found.0 ∷ []) in let o = once_self found.0 in omega (arith, a, o));
        };
        gathered = subst (λ (s : Seat (Unit {0}) Stance). HasGathered (draws_of plan) (view_at c.args.worker.rest ∷ []) s.me.0.view rs) (sym c.rest.ensures)
            (one_gathered (draws_of plan) (view_at c.args.worker.rest) c.loop-thread.pass.seat.me.0.view rs inv.adds_up inv.gathered (let d = inv.draws in omega (arith, d)));
        seats = (let a = ap (λ (t : Taken). t.seats) found.2.view in let b = inv.seats in omega (arith, a, b));
        in_turn = λ one. ordered_wider (0, 0) (0, 0) (next_after numbers, 0) (thread_count plan, 0) [] rs (from_first (0, 0)) (up_to_thread (next_after numbers) (thread_count plan) inv.within) inv.in_order;
      };
    }
