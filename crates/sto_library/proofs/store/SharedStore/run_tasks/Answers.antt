-- The workers were hired, did the tasks, and are back.
use Rattle.std.proofs.Common.{◌∙◌}
use Rattle.sto_type.specs.Traits.{of_type}
use Rattle.sto_library.proofs.SideBySide.{all_done}
use Rattle.sto_library.proofs.store.SharedStore.run_tasks.Goals as goal

pub returns-in-Ok-back_all-clause-done : goal.returns-in-Ok-back_all-clause-done
returns-in-Ok-back_all-clause-done g c =
    all_done (of_type g.T.Naming g.T.TxType) c.parts.result.0.now c.parts.result.1.now.items g.K.Task.gives c.args.self.now c.hire_all.new.store c.back_all.new.store
    c.args.tasks.now c.in_ok-workers.workers.items c.in-Ok.done _ c.in_ok-workers.ensures.hired (c.parts.ensures.words ∙ c.in_ok-workers.ensures.same.0)
    (c.parts.ensures.shapes ∙ c.in_ok-workers.ensures.same.1) c.in-Ok.ensures c.in-Ok-back_all.ensures.more
