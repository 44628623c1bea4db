use Rattle.std.proofs.Common.{◌≡◌, ◌<◌, ◌≤◌, length, arith}
use Rattle.std.proofs.lemmas.Option.{slice_get_within}
use Rattle.sto_run_feed.specs.Passes.{known}
use Rattle.sto_run_feed.proofs.Steps.{sends_as, is_few_as}
use Rattle.sto_run_feed.proofs.pass.JobQueue.send.Goals as goal

pub push_as-requires-clause-rule : goal.push_as-requires-clause-rule
push_as-requires-clause-rule g c =
    (sends_as _ _ (known c.args.feeder.now) c.args.job c.requires.of.known c.requires.next, is_few_as _ (known c.args.feeder.now) c.requires.of.known)

-- the queue has room for all jobs, and fewer were sent
pub unreachable-requires : goal.unreachable-requires
unreachable-requires g c =
    let full = c.in-Err.ensures.rule.2 in
    let many = full.1 in let few = full.2 in let room = c.requires.of.room in
    let less = slice_get_within (known c.args.feeder.now).jobs (known c.args.feeder.now).sent c.args.job c.requires.next in
    omega (arith, many, few, room, less)
