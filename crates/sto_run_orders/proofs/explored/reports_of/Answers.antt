use Rattle.std.specs.List.{All, AllZip}
use Rattle.std.proofs.Common.{ap, sym, subst}
use Rattle.std.proofs.lemmas.Result.{IfOk-weaker}
use Rattle.sto_store.specs.declared.objects.Objects.{Objects}
use Rattle.sto_store.specs.ObjectShapes.{AreOf}
use Rattle.sto_lang.specs.Objects.{shapes_of}
use Rattle.sto_lang.specs.Scripts.{File}
use Rattle.sto_lang.specs.Views.{file as view}
use Rattle.sto_run.specs.Forms.{form_for}
use Rattle.sto_run_threads.specs.declared.workload.BorrowedFile.{BorrowedFile}
use Rattle.sto_run.proofs.TracedRuns.{moved}
use Rattle.sto_orders.specs.Outcomes.{IsOrderOutcome}
use Rattle.sto_run_orders.specs.Reports.{IsOutcomeReport}
use Rattle.sto_run_orders.proofs.explored.reports_of.Goals as goal

pub reports_of-requires-clause-ready : goal.reports_of-requires-clause-ready
reports_of-requires-clause-ready c =
    let same = c.in_ok-opened.ensures.of in
    let work = c.in_ok-opened.opened.work in
    record {
      runnable = c.in_ok-opened.ensures.runnable;
      kinds =
          subst (λ (o : Objects). AreOf o (shapes_of (view work.workload.file.now).declarations)) (sym same.1)
          (subst (λ (f : File). AreOf c.in_ok-objects.objects (shapes_of f.declarations)) (sym (ap (λ (f : BorrowedFile). view f.file.now) same.0)) c.in_ok-objects.ensures.kinds);
    }

pub reports_of-requires-clause-outcomes : goal.reports_of-requires-clause-outcomes
reports_of-requires-clause-outcomes c =
    subst (λ (f : File). All (IsOrderOutcome f) c.args.outcomes.items) (sym (ap (λ (f : BorrowedFile). view f.file.now) c.in_ok-opened.ensures.of.0)) c.requires.outcomes

pub returns : goal.returns
returns c =
    let same = c.in_ok-opened.ensures.of in
    let work = c.in_ok-opened.opened.work in
    IfOk-weaker c.reports_of.result _ _
    (λ reports h. moved (λ (ty : Objects) file tries. AllZip (IsOutcomeReport c.args.by (form_for c.args.json) file tries) c.args.outcomes.items reports.items) work.ty.now c.in_ok-objects.objects
    (view work.workload.file.now) (view c.args.file.now) work.tries 64 (ap (λ (f : BorrowedFile). view f.file.now) same.0) same.1 same.2 h)
    c.reports_of.ensures
