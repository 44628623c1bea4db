use Rattle.std.specs.Prelude.{sum_by}
use Rattle.std.proofs.Common.{◌<◌, ◌^◌, List, subst, sym}
use Rattle.sto_model.specs.declared.shape.Shape.{Shape}
use Rattle.sto_model.specs.Sizes.{part_count}
use Rattle.sto_lang.specs.Objects.{shapes_of}
use Rattle.sto_store.specs.Stores.{AreFit, means}
use Rattle.sto_type.specs.Meaning.{IsLawful}
use Rattle.sto_serializability.specs.Meanings.{IsTypeOf}
use Rattle.sto_store.specs.ObjectShapes.{AreOf}
use Rattle.sto_run.proofs.Fitting.{sound_fit, parts_fit}
use Rattle.sto_store.proofs.ObjectMeanings.{objects_mean}
use Rattle.sto_run.proofs.ObjectCalls.{objects_take}
use Rattle.sto_run.proofs.Sound.{sound_in_order, sound_runnable, is_type_of}
use Rattle.sto_run.proofs.stored.objects_of.Goals as goal

pub build-requires-clause-fit : goal.build-requires-clause-fit
build-requires-clause-fit g c = subst AreFit (sym c.in_ok-shapes.ensures) (sound_fit (g.F.Workload.file c.args.file.now) c.requires)

pub build-requires-clause-parts : goal.build-requires-clause-parts
build-requires-clause-parts g c = subst (λ (ss : List Shape). sum_by part_count ss < 2 ^ 32) (sym c.in_ok-shapes.ensures) (parts_fit (g.F.Workload.file c.args.file.now) c.requires)

pub returns-clause-kinds : goal.returns-clause-kinds
returns-clause-kinds g c = subst (AreOf c.in_ok-objects.objects) c.in_ok-shapes.ensures c.in_ok-objects.ensures.kinds

pub returns-clause-type_of : goal.returns-clause-type_of
returns-clause-type_of g c =
    let x = c.in_ok-objects.objects in
    let file = g.F.Workload.file c.args.file.now in
    let shapes = shapes_of file.declarations in
    let kinds = subst (AreOf x) c.in_ok-shapes.ensures c.in_ok-objects.ensures.kinds in
    let law : IsLawful (means shapes) = subst (λ (ss : List Shape). IsLawful (means ss)) c.in_ok-shapes.ensures c.in_ok-objects.ensures.lawful in
    subst (IsTypeOf shapes) (sym (objects_mean x shapes kinds)) (is_type_of shapes (sound_in_order file) law)

pub returns-clause-taken : goal.returns-clause-taken
returns-clause-taken g c =
    let x = c.in_ok-objects.objects in
    let file = g.F.Workload.file c.args.file.now in
    objects_take x file (subst (AreOf x) c.in_ok-shapes.ensures c.in_ok-objects.ensures.kinds) (sound_runnable file c.requires)
