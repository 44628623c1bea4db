use Rattle.std.proofs.Common.{◌≡◌, ap}
use Rattle.sto_lang.specs.Views.{file as view}
use Rattle.sto_run_threads.specs.declared.workload.BorrowedFile.{BorrowedFile}
use Rattle.std.proofs.lemmas.Result.{IfOk-weaker}
use Rattle.sto_lang.specs.Objects.{shapes_of}
use Rattle.sto_store.proofs.ObjectMeanings.{objects_mean}
use Rattle.sto_run.proofs.RunJournals.{lawful_run}
use Rattle.sto_run_feed.proofs.run.feed_file.Goals as goal

pub returns-clause-lawful : goal.returns-clause-lawful
returns-clause-lawful g c =
    let same = c.in_ok-run.ensures.of in
    IfOk-weaker c.feed_opened.result _ _
    (λ j h. lawful_run c.in_ok-objects.objects c.in_ok-run.run'.work.ty.now (view c.in_ok-run.run'.work.workload.file.now) (view c.args.file.now) _ c.args.tries j
    (objects_mean c.in_ok-objects.objects (shapes_of (view c.args.file.now).declarations) c.in_ok-objects.ensures.kinds) (ap (λ (f : BorrowedFile). view f.file.now) same.0, same.1, same.2) h)
    c.feed_opened.ensures.lawful
