use Rattle.std.proofs.Common.{◌≡◌, ap, subst, IfOk}
use Rattle.std.proofs.lemmas.Result.{IfOk-weaker}
use Rattle.sto_lang.specs.Objects.{shapes_of}
use Rattle.sto_lang.specs.Scripts.{File}
use Rattle.sto_store.proofs.ObjectMeanings.{objects_mean}
use Rattle.sto_run.specs.Alone.{RanAlone}
use Rattle.sto_run.proofs.RunJournals.{lawful_run}
use Rattle.sto_run.proofs.file.run_workload.Goals as goal

pub returns-clause-lawful : goal.returns-clause-lawful
returns-clause-lawful g c =
    let same = c.in_ok-run.ensures.of in
    IfOk-weaker c.run_opened.result _ _
    (λ j h. lawful_run c.in_ok-objects.objects c.in_ok-run.run'.work.ty.now (g.F.Workload.file c.in_ok-run.run'.work.workload) (g.F.Workload.file c.args.file) _ c.args.tries j
    (objects_mean c.in_ok-objects.objects (shapes_of (g.F.Workload.file c.args.file).declarations) c.in_ok-objects.ensures.kinds) (ap g.F.Workload.file same.0, same.1, same.2) h)
    c.run_opened.ensures.lawful

pub returns-clause-alone : goal.returns-clause-alone
returns-clause-alone g c = λ one. subst (λ (file : File). IfOk c.run_opened.result (RanAlone file)) (ap g.F.Workload.file c.in_ok-run.ensures.of.0) (c.run_opened.ensures.alone one)
