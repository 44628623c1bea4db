use Rattle.std.proofs.Common.{ap, sym, subst}
use Rattle.std.proofs.lemmas.Result.{IfOk-weaker, IfErr-weaker}
use Rattle.sto_store.specs.declared.objects.Objects.{Objects}
use Rattle.sto_store.specs.ObjectShapes.{AreOf}
use Rattle.sto_lang.specs.Objects.{shapes_of}
use Rattle.sto_lang.specs.Scripts.{File}
use Rattle.sto_lang.specs.Views.{file as view}
use Rattle.sto_run.specs.Forms.{form_for}
use Rattle.sto_run_threads.specs.declared.workload.BorrowedFile.{BorrowedFile}
use Rattle.sto_run.proofs.TracedRuns.{moved}
use Rattle.sto_run_schedules.specs.Explored.{AreOutcomesOf, HasTooMany}
use Rattle.sto_run_schedules.specs.Leading.{HasSomeLongRun}
use Rattle.sto_run_schedules.proofs.Telling.{reports_of}
use Rattle.sto_run_schedules.proofs.explored.explore_file.Goals as goal

pub explore_opened-requires-clause-runnable : goal.explore_opened-requires-clause-runnable
explore_opened-requires-clause-runnable g c = c.in-Ok-new.ensures.runnable

pub explore_opened-requires-clause-kinds : goal.explore_opened-requires-clause-kinds
explore_opened-requires-clause-kinds g c =
    let same = c.in-Ok-new.ensures.of in
    let work = c.in-Ok-new.run'.work in
    subst (λ (o : Objects). AreOf o (shapes_of (view work.workload.file.now).declarations)) (sym same.1)
    (subst (λ (f : File). AreOf c.in-Ok.objects (shapes_of f.declarations)) (sym (ap (λ (f : BorrowedFile). view f.file.now) same.0)) c.in-Ok.ensures.kinds)

pub returns-clause-outcomes : goal.returns-clause-outcomes
returns-clause-outcomes g c =
    let same = c.in-Ok-new.ensures.of in
    let work = c.in-Ok-new.run'.work in
    IfOk-weaker c.explore_opened.result _ _
    (λ outcomes h. moved (λ (ty : Objects) file tries. AreOutcomesOf (form_for c.args.json) file tries c.args.switches outcomes) work.ty.now c.in-Ok.objects (view work.workload.file.now)
    (view c.args.file.now) work.tries c.args.tries (ap (λ (f : BorrowedFile). view f.file.now) same.0) same.1 same.2 h)
    c.explore_opened.ensures.outcomes

pub returns-clause-reports : goal.returns-clause-reports
returns-clause-reports g c =
    let same = c.in-Ok-new.ensures.of in
    let work = c.in-Ok-new.run'.work in
    IfOk-weaker c.explore_opened.result _ _
    (λ outcomes h. reports_of (form_for c.args.json) (view c.args.file.now) c.args.tries c.args.switches outcomes
    (moved (λ (ty : Objects) file tries. AreOutcomesOf (form_for c.args.json) file tries c.args.switches outcomes) work.ty.now c.in-Ok.objects (view work.workload.file.now)
    (view c.args.file.now) work.tries c.args.tries (ap (λ (f : BorrowedFile). view f.file.now) same.0) same.1 same.2 h))
    c.explore_opened.ensures.outcomes

pub returns-clause-too_many : goal.returns-clause-too_many
returns-clause-too_many g c =
    let same = c.in-Ok-new.ensures.of in
    let work = c.in-Ok-new.run'.work in
    IfErr-weaker c.explore_opened.result _ _
    (λ why h is. moved (λ (ty : Objects) file tries. HasTooMany (form_for c.args.json) file tries c.args.switches c.args.limit) work.ty.now c.in-Ok.objects (view work.workload.file.now)
    (view c.args.file.now) work.tries c.args.tries (ap (λ (f : BorrowedFile). view f.file.now) same.0) same.1 same.2 (h is))
    c.explore_opened.ensures.too_many

pub returns-clause-too_long : goal.returns-clause-too_long
returns-clause-too_long g c =
    let same = c.in-Ok-new.ensures.of in
    let work = c.in-Ok-new.run'.work in
    IfErr-weaker c.explore_opened.result _ _
    (λ why h is. moved (λ (ty : Objects) file tries. HasSomeLongRun tries file) work.ty.now c.in-Ok.objects (view work.workload.file.now)
    (view c.args.file.now) work.tries c.args.tries (ap (λ (f : BorrowedFile). view f.file.now) same.0) same.1 same.2 (h is))
    c.explore_opened.ensures.too_long
