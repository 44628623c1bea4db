use Rattle.std.proofs.Common.{refl}
use Rattle.sto_lang.specs.Objects.{shapes_of}
use Rattle.sto_lang.specs.Views.{file as view}
use Rattle.sto_store.proofs.ObjectMeanings.{objects_mean}
use Rattle.sto_run.proofs.RunJournals.{lawful_run}
use Rattle.sto_run.proofs.traced.trace_file.Goals as goal

pub returns-clause-lawful : goal.returns-clause-lawful
returns-clause-lawful c =
    let file = view c.args.file.now in
    let objects = c.in_ok-objects.objects in
    lawful_run objects objects file file c.args.tries c.args.tries c.in_ok-journal.journal
    (objects_mean objects (shapes_of file.declarations) c.in_ok-objects.ensures.kinds) (refl, refl, refl) c.in_ok-journal.ensures.lawful

pub returns-clause-traced : goal.returns-clause-traced
returns-clause-traced c = record {
  objects = c.in_ok-objects.objects;
  kinds = c.in_ok-objects.ensures.kinds;
  same_homes = c.in_ok-homes.ensures;
  traced = c.in_ok-journal.ensures.traced;
}
