use Rattle.std.proofs.Common.{Bool, false, sym, subst, arith}
use Rattle.std.proofs.lemmas.Result.{IfOk-weaker}
use Rattle.sto_run_threads.specs.Orders.{TransactionPlace}
use Rattle.sto_run_threads.proofs.Accounts.{adds_up_none, run_adds_up}
use Rattle.sto_run_feed.specs.Served.{IsJobRun}
use Rattle.sto_run_feed.proofs.Serving.{job_run, job_left}
use Rattle.sto_run_threads.specs.Told.{told_in}
use Rattle.sto_run_feed.proofs.server.serve_one.Goals as goal

pub returns-then-runs-clause-leads : goal.returns-then-runs-clause-leads
returns-then-runs-clause-leads g c =
    IfOk-weaker c.run_one.result _ _
    (λ on h. record { rests = h.ran.rests; draws = h.ran.draws; adds_up = run_adds_up _ _ _ _ _ _ _ _ _ _ _ h.ran })
    c.run_one.ensures.ran

pub returns-then-runs-clause-ran : goal.returns-then-runs-clause-ran
returns-then-runs-clause-ran g c =
    let plan = g.W.Work.plan c.args.work.now in
    let place : TransactionPlace = (c.args.thread, c.args.position) in
    let rs = told_in c.args.records.now in let later = told_in c.run_one.new.records in
    let next = c.requires.next c.if-runs.true in
    IfOk-weaker c.run_one.result _ _
    (λ on h. subst (λ (b : Bool). IsJobRun plan (g.C.Cells.passes c.args.cells.now) (g.C.Cells.view c.run_one.new.cells) place rs later b on) (sym c.if-runs.true)
    (job_run plan (g.C.Cells.passes c.args.cells.now) (g.C.Cells.view c.args.cells.now) (g.C.Cells.view c.run_one.new.cells) c.args.thread c.args.position rs later on c.requires.worked next h))
    c.run_one.ensures.ran

pub returns-else-runs-clause-leads : goal.returns-else-runs-clause-leads
returns-else-runs-clause-leads g c = record {
  rests = c.requires.free.rests;
  draws = omega arith;
  adds_up = adds_up_none (g.C.Cells.view c.args.cells.now) (told_in c.args.records.now);
}

pub returns-else-runs-clause-ran : goal.returns-else-runs-clause-ran
returns-else-runs-clause-ran g c =
    let plan = g.W.Work.plan c.args.work.now in
    let place : TransactionPlace = (c.args.thread, c.args.position) in
    let rs = told_in c.args.records.now in
    subst (λ (b : Bool). IsJobRun plan (g.C.Cells.passes c.args.cells.now) (g.C.Cells.view c.args.cells.now) place rs rs b false) (sym c.if-runs.false)
    (job_left plan (g.C.Cells.passes c.args.cells.now) (g.C.Cells.view c.args.cells.now) place rs c.requires.worked)
