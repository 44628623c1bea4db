use Rattle.sto_lang.specs.Objects.{shapes_in}
use Rattle.sto_lang.specs.Shapes.{in_order}
use Rattle.sto_lang.proofs.draft.Draft.begin.Goals as goal

pub invariant_of-self-clause-begun_weighed : goal.invariant_of-self-clause-begun_weighed
invariant_of-self-clause-begun_weighed c = c.new-2.ensures.weighed (in_order (shapes_in c.args.self.now.objects))
