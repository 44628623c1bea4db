use Rattle.std.proofs.Common.{slice_index_or}
use Rattle.std.proofs.lemmas.Option.{slice_get-get_or}
use Rattle.sto_run_feed.specs.declared.job.Job.TheVariants.{Run}
use Rattle.sto_test_layers.proofs.Passes.{may_send, comes, has_sent}
use Rattle.sto_test_layers.proofs.waking.feeder.send_all.Goals as goal

pub send-requires-clause-of : goal.send-requires-clause-of
send-requires-clause-of g c = may_send c.args.queue.now c.loop-number.feeder c.args.jobs.now c.loop-number.number c.loop-number.invariant.pass

pub send-requires-clause-next : goal.send-requires-clause-next
send-requires-clause-next g c =
    comes c.args.queue.now c.loop-number.feeder c.args.jobs.now c.loop-number.number (slice_index_or c.args.jobs.now c.loop-number.number (Run 0 0)) c.loop-number.invariant.pass
    (slice_get-get_or c.args.jobs.now c.loop-number.number (Run 0 0) c.loop-number-test.true)

pub loop-number-preserved : goal.loop-number-preserved
loop-number-preserved g c = record { pass = has_sent c.args.queue.now c.loop-number.feeder c.send.new.feeder c.args.jobs.now c.loop-number.number c.loop-number.invariant.pass c.send.ensures }
