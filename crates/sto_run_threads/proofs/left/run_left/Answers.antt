use Rattle.std.proofs.Common.{◌≡◌, ◌≤◌, ◌+◌, ◌-◌, ◌*◌, ℕ, suc, true, refl, sym, ◌∙◌, subst, arith, inl, inr}
use Rattle.std.proofs.lemmas.Bool.{cases_eq}
use Rattle.sto_report_spec.specs.Orders.{count_in}
use Rattle.sto_serializability.proofs.Gathering.{finished_run}
use Rattle.sto_run_threads.specs.Counts.{scripts_from}
use Rattle.sto_run_threads.specs.Running.{ended_of}
use Rattle.sto_run_threads.proofs.Joined.{all_have_ended}
use Rattle.sto_run_threads.proofs.Scripts.{aborts_none_through}
use Rattle.sto_run_threads.proofs.Accounts.{adds_up_through, all_counted}
use Rattle.sto_run_threads.proofs.Ordered.{from_first, ordered_on, ordered_wider}
use Rattle.sto_run_threads.proofs.Claiming.{thread_within, draws_left, counts_of_all}
use Rattle.sto_run_threads.specs.Plans.{thread_count}
use Rattle.sto_run_threads.specs.Told.{told_in}
use Rattle.sto_run_threads.proofs.left.run_left.Goals as goal

pub run_script-requires-clause-free : goal.run_script-requires-clause-free
run_script-requires-clause-free g c =
    let plan = g.W.Work.plan c.args.work.now in let threads = plan.file.threads in
    let w = thread_within threads c.loop-thread.thread c.loop-thread.thread (omega arith) in
    let is = c.count-count.ensures in let d = c.loop-thread.invariant.draws in record {
      rests = c.loop-thread.invariant.rests;
      draws = (draws_left plan.tries (c.count-count.result - c.count_ended-ended.result) (scripts_from threads c.loop-thread.thread) (scripts_from threads (suc c.loop-thread.thread)) 0
          (g.C.Cells.view c.loop-thread.cells).draws 0 (omega (arith, w, is)) (omega (arith, d))).0;
    }

pub loop-thread-preserved : goal.loop-thread-preserved
loop-thread-preserved g c =
    let plan = g.W.Work.plan c.args.work.now in let threads = plan.file.threads in
    let inv = c.loop-thread.invariant in
    let w = thread_within threads c.loop-thread.thread c.loop-thread.thread (omega arith) in
    let is = c.count-count.ensures in let d = inv.draws in
    let ran = c.in_ok-run_script.ensures.ran in let leads = c.in_ok-run_script.ensures.leads in
    let alone = ran.alone (g.met.C.Cells.same_passes c.args.cells.now c.loop-thread.cells inv.same ∙ c.requires.alone) in
    let on : c.in_ok-run_script.field-0 ≡ true = alone.0 in
    let next : c.loop-thread.thread + 1 ≡ suc c.loop-thread.thread = omega arith in
    let left = (draws_left plan.tries (c.count-count.result - c.count_ended-ended.result) (scripts_from threads c.loop-thread.thread) (scripts_from threads (suc c.loop-thread.thread)) 0
    (g.C.Cells.view c.loop-thread.cells).draws (g.C.Cells.view c.run_script.new.cells).draws (omega (arith, w, is)) (omega (arith, d))).1 leads.draws in
    record {
      rests = leads.rests;
      draws = subst (λ (n : ℕ). plan.tries * scripts_from threads n ≤ (g.C.Cells.view c.run_script.new.cells).draws) (sym next) (omega (arith, left));
      worked = ran.worked;
      none = aborts_none_through (told_in c.args.records.now) (told_in c.loop-thread.records) (told_in c.run_script.new.records) inv.none alone.1;
      adds_up = adds_up_through (g.C.Cells.view c.args.cells.now) (g.C.Cells.view c.loop-thread.cells) (g.C.Cells.view c.run_script.new.cells)
          (told_in c.args.records.now) (told_in c.loop-thread.records) (told_in c.run_script.new.records) inv.adds_up leads.adds_up;
      in_order = ordered_on (0, 0) (c.loop-thread.thread, 0) (c.loop-thread.thread + 1, 0)
          (told_in c.args.records.now) (told_in c.loop-thread.records) (told_in c.run_script.new.records)
          (from_first (c.loop-thread.thread, 0)) (inl (omega arith)) inv.in_order
          (ordered_wider (c.loop-thread.thread, 0) (c.loop-thread.thread, c.count_ended-ended.result + 1) (c.loop-thread.thread, c.count-count.result + 1) (c.loop-thread.thread + 1, 0)
          (told_in c.loop-thread.records) (told_in c.run_script.new.records) (inr (refl, omega arith)) (inl (omega arith)) c.in_ok-run_script.ensures.in_order);
      all = λ u low. elim (cases_eq c.loop-thread.thread u) [
        | inl same ↦ subst (λ (n : ℕ). ended_of n (told_in c.run_script.new.records) ≡ count_in threads n) same (ran.all on)
        | inr other ↦ ran.adds.others u other ∙ inv.all u (omega (arith, low, other))
      ];
      same = g.met.C.Cells.same_through c.args.cells.now c.loop-thread.cells c.run_script.new.cells inv.same c.run_script.ensures.same;
    }

pub returns-in_err-run_script-clause-same : goal.returns-in_err-run_script-clause-same
returns-in_err-run_script-clause-same g c =
    g.met.C.Cells.same_through c.args.cells.now c.loop-thread.cells c.run_script.new.cells c.loop-thread.invariant.same c.run_script.ensures.same

pub returns-clause-finished : goal.returns-clause-finished
returns-clause-finished g c =
    let plan = g.W.Work.plan c.args.work.now in
    let inv = c.loop-thread.invariant in
    let end = c.threads-thread-end.ensures in let far = c.loop-thread-test.false in
    finished_run plan.meaning plan.file plan.tries (g.C.Cells.view c.loop-thread.cells) (told_in c.loop-thread.records) inv.worked.so_far
    (all_have_ended plan.file (told_in c.loop-thread.records) inv.worked.under_way
    (counts_of_all plan.file (told_in c.loop-thread.records) inv.worked.under_way (λ u low. inv.all u (omega (arith, low, far, end)))))
    (all_counted (g.C.Cells.view c.args.cells.now) (g.C.Cells.view c.loop-thread.cells) (told_in c.args.records.now) (told_in c.loop-thread.records) inv.adds_up c.requires.tickets)

pub returns-clause-in_order : goal.returns-clause-in_order
returns-clause-in_order g c =
    let threads = thread_count (g.W.Work.plan c.args.work.now) in
    let high = c.loop-thread.auto.thread-end in let far = c.loop-thread-test.false in let end = c.threads-thread-end.ensures in
    ordered_wider (0, 0) (0, 0) (c.loop-thread.thread, 0) (threads, 0) (told_in c.args.records.now) (told_in c.loop-thread.records)
    (inr (refl, omega arith)) (inr (omega (arith, high, far, end), omega arith)) c.loop-thread.invariant.in_order
