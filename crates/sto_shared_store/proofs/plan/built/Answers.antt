use Rattle.std.proofs.Common.{ap, ◌∙◌}
use Rattle.std.proofs.lemmas.Result.{IfOk-weaker}
use Rattle.sto_type.specs.Meaning.{Meaning}
use Rattle.sto_store.specs.StoresLaw.{machines_are}
use Rattle.sto_store.proofs.ObjectMeanings.{objects_mean}
use Rattle.sto_shared_store.proofs.plan.built.Goals as goal

pub returns-clause-machines : goal.returns-clause-machines
returns-clause-machines c = IfOk-weaker c.build.result _ _
    (λ x kinds. ap (λ (m : Meaning). m.machines) (objects_mean x c.args.shapes.now.items kinds) ∙ machines_are c.args.shapes.now.items c.requires.order)
    c.build.ensures.kinds

pub returns-clause-takes : goal.returns-clause-takes
returns-clause-takes c = IfOk-weaker c.build.result _ _ (λ x takes. takes c.requires.order) c.build.ensures.takes
