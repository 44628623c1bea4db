use Rattle.std.proofs.Common.{subst, arith}
use Rattle.sto_model.specs.Run.{Behaviour}
use Rattle.sto_script.specs.Meaning.{meaning_of}
use Rattle.sto_report_spec.specs.Orders.{TransactionPlace}
use Rattle.sto_attempt_log.proofs.Reading.{always_err}
use Rattle.sto_transaction.specs.Ran.{HasRun, HasBroken}
use Rattle.sto_type.specs.Traits.{of_type}
use Rattle.sto_run_threads.specs.Plans.{plan_of}
use Rattle.sto_run_threads.specs.Ran.{HasBrokenAt}
use Rattle.sto_run_threads.proofs.Pace.{paced_by}
use Rattle.sto_run_threads.proofs.Results.{at_ok, at_err}
use Rattle.sto_run_threads.proofs.Scripts.{not_begun}
use Rattle.sto_run_threads.specs.Told.{told_in}
use Rattle.sto_run_threads.proofs.work.FileWorkWork.run_one.Goals as goal

pub transaction-body-requires-clause-weighed : goal.transaction-body-requires-clause-weighed
transaction-body-requires-clause-weighed g c = λ script there. c.requires.ready.0.weighed (c.args.thread, c.args.position) script there

pub run-ran-requires-clause-takes : goal.run-ran-requires-clause-takes
run-ran-requires-clause-takes g c = λ call may.
    let made = at_ok _ c.in_ok-body.was c.transaction-body.ensures.made in
    c.requires.ready.0.takes (c.args.thread, c.args.position) made.script made.there call (made.asks call may)

pub run-ran-requires-clause-rests : goal.run-ran-requires-clause-rests
run-ran-requires-clause-rests g c = c.requires.free.rests

pub run-ran-requires-clause-draws : goal.run-ran-requires-clause-draws
run-ran-requires-clause-draws g c = c.requires.free.draws

-- none was begun
pub returns-then-is_stopped-clause-err : goal.returns-then-is_stopped-clause-err
returns-then-is_stopped-clause-err g c =
    let m = g.T.TxType.meaning c.args.self.now.ty.now in let sizes = g.T.Naming.sizes c.args.self.now.ty.now in
    let place : TransactionPlace = (c.args.thread, c.args.position) in
    record {
      script = c.requires.there.script;
      there = c.requires.there.there;
      broken = not_begun m sizes c.args.self.now.tries (g.C.Cells.view c.args.cells.now) (meaning_of c.requires.there.script) place (told_in c.args.records.now) c.requires.free.rests;
    }

-- before the first attempt
pub returns-in_err-body-clause-err : goal.returns-in_err-body-clause-err
returns-in_err-body-clause-err g c =
    let m = g.T.TxType.meaning c.args.self.now.ty.now in let sizes = g.T.Naming.sizes c.args.self.now.ty.now in let v = g.C.Cells.view c.args.cells.now in
    let place : TransactionPlace = (c.args.thread, c.args.position) in
    let text = c.requires.there.script in let rs = told_in c.args.records.now in
    always_err c.from_residual.result (HasBrokenAt (plan_of (of_type g.T.Naming g.T.TxType) c.args.self.now.ty.now (g.F.Workload.file c.args.self.now.workload) c.args.self.now.tries) v v place rs rs)
    (record { script = text; there = c.requires.there.there; broken = not_begun m sizes c.args.self.now.tries v (meaning_of text) place rs c.requires.free.rests })

pub returns-in_err-ended-clause-err : goal.returns-in_err-ended-clause-err
returns-in_err-ended-clause-err g c =
    let m = g.T.TxType.meaning c.args.self.now.ty.now in let sizes = g.T.Naming.sizes c.args.self.now.ty.now in
    let v = g.C.Cells.view c.args.cells.now in let w = g.C.Cells.view c.run-ran.new.cells in
    let place : TransactionPlace = (c.args.thread, c.args.position) in
    let made = at_ok _ c.in_ok-body.was c.transaction-body.ensures.made in
    let rs = told_in c.args.records.now in let later = told_in c.run-ran.new.records in
    always_err c.from_residual-in_err-ended.result (HasBrokenAt (plan_of (of_type g.T.Naming g.T.TxType) c.args.self.now.ty.now (g.F.Workload.file c.args.self.now.workload) c.args.self.now.tries) v w place rs later)
    (record { script = made.script; there = made.there; broken = subst (λ (f : Behaviour). HasBroken m sizes c.args.self.now.tries v w f place rs later) made.does (at_err c.in_err-ended.was c.run-ran.ensures.err) })

pub returns-then-ended-clause-ran : goal.returns-then-ended-clause-ran
returns-then-ended-clause-ran g c =
    let m = g.T.TxType.meaning c.args.self.now.ty.now in let sizes = g.T.Naming.sizes c.args.self.now.ty.now in
    let v = g.C.Cells.view c.args.cells.now in let w = g.C.Cells.view c.run-ran.new.cells in
    let place : TransactionPlace = (c.args.thread, c.args.position) in
    let made = at_ok _ c.in_ok-body.was c.transaction-body.ensures.made in
    let rs = told_in c.args.records.now in let later = told_in c.run-ran.new.records in
    let ran = at_ok _ c.in_ok-ended.was c.run-ran.ensures.ran in
    record {
      script = made.script;
      there = made.there;
      ran = subst (λ (f : Behaviour). HasRun m sizes c.args.self.now.tries (g.C.Cells.passes c.args.cells.now) v w f place rs later c.in_ok-ended.field-0.ended) made.does ran;
      pace = paced_by m (g.F.Workload.file c.args.self.now.workload) place made.script made.there _ v w made.few (omega (arith, ran.starts)) c.run-ran.ensures.steps;
    }

pub returns-else-ended-clause-ran : goal.returns-else-ended-clause-ran
returns-else-ended-clause-ran g c =
    let m = g.T.TxType.meaning c.args.self.now.ty.now in let sizes = g.T.Naming.sizes c.args.self.now.ty.now in
    let v = g.C.Cells.view c.args.cells.now in let w = g.C.Cells.view c.run-ran.new.cells in
    let place : TransactionPlace = (c.args.thread, c.args.position) in
    let made = at_ok _ c.in_ok-body.was c.transaction-body.ensures.made in
    let rs = told_in c.args.records.now in let later = told_in c.run-ran.new.records in
    let ran = at_ok _ c.in_ok-ended.was c.run-ran.ensures.ran in
    record {
      script = made.script;
      there = made.there;
      ran = subst (λ (f : Behaviour). HasRun m sizes c.args.self.now.tries (g.C.Cells.passes c.args.cells.now) v w f place rs later c.in_ok-ended.field-0.ended) made.does ran;
      pace = paced_by m (g.F.Workload.file c.args.self.now.workload) place made.script made.there _ v w made.few (omega (arith, ran.starts)) c.run-ran.ensures.steps;
    }
