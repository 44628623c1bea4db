use Rattle.sto_run_feed.specs.Passes.{known}
use Rattle.sto_run_feed.proofs.Steps.{takes_as, is_next_as}
use Rattle.sto_run_feed.proofs.pass.JobQueue.take.Goals as goal

pub pop_as-requires-clause-rule : goal.pop_as-requires-clause-rule
pop_as-requires-clause-rule g c =
    (takes_as _ (known c.args.worker.now) c.requires.of.known, is_next_as _ (known c.args.worker.now) c.requires.of.known)
