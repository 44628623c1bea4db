use Rattle.std.proofs.Common.{ap, ◌∙◌, ◌++◌, [], ◌∷◌, List, arith}
use Rattle.sto_type.specs.Traits.{of_type}
use Rattle.sto_library.proofs.SideBySide.{first_of, one_worked}
use Rattle.sto_library.proofs.together.work_one.Goals as goal

pub returns : goal.returns
returns g c =
    let each = c.requires.each in let few = c.requires.few in let len = c.args.workers.ok.0 in let one = c.in-Some.ensures.cases in
    one_worked (of_type g.T.Naming g.T.TxType) c.args.words.now c.args.shapes.now.items g.K.Task.gives c.args.tasks.now c.args.workers.items c.pop.new.self.items
    _ c.in-Some.worker c.work_alone-worker.result _ (omega (arith, each, len)) (omega (arith, few, len)) c.in-Some.ensures.items
    (first_of c.args.tasks.now _ (omega (arith, each, one)) c.index-tasks-0.is) c.work_alone-worker.ensures c.in-Ok.ensures.items
    (c.in-Ok-push.ensures.items ∙ ap (λ (outs : List g.row.K-Out.Denot). outs ++ c.work_alone-worker.result.out ∷ []) c.new-outs.ensures.items)
