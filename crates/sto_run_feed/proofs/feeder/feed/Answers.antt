use Rattle.std.proofs.Common.{◌≡◌, ℕ, length, map}
use Rattle.sto_run_feed.specs.declared.job.Job.TheVariants.{Last}
use Rattle.sto_run_feed.specs.Orders.{place_of}
use Rattle.sto_run_feed.specs.Jobs.{going_to, jobs_for}
use Rattle.sto_run_feed.proofs.Feeding.{may_send, comes, next_last, no_end_sent, all_ends_sent, end_comes, end_sent}
use Rattle.sto_run_feed.proofs.feeder.feed.Goals as goal

pub loop-number-init : goal.loop-number-init
loop-number-init g c = record { at = no_end_sent c.args.queues.now c.send_runs.new.feeders.items c.args.order.now c.send_runs.ensures }

pub send-requires-clause-of : goal.send-requires-clause-of
send-requires-clause-of g c =
    let queues = c.args.queues.now in let ps = c.args.order.now in let number = c.loop-number.number in
    let q = c.index-queues-number.result in let p = c.index_mut.result.now in
    let know = end_comes queues c.loop-number.feeders.items ps number q p c.loop-number.invariant.at c.loop-number-test.true c.index-queues-number.is c.index_mut.ensures.value in
    let jobs = jobs_for (length queues) number (map place_of ps) in let sent : ℕ = length (going_to (length queues) number (map place_of ps)) in
    may_send q p jobs sent know

pub send-requires-clause-next : goal.send-requires-clause-next
send-requires-clause-next g c =
    let queues = c.args.queues.now in let ps = c.args.order.now in let number = c.loop-number.number in
    let q = c.index-queues-number.result in let p = c.index_mut.result.now in
    let know = end_comes queues c.loop-number.feeders.items ps number q p c.loop-number.invariant.at c.loop-number-test.true c.index-queues-number.is c.index_mut.ensures.value in
    let jobs = jobs_for (length queues) number (map place_of ps) in let sent : ℕ = length (going_to (length queues) number (map place_of ps)) in
    comes q p jobs sent Last know (next_last (length queues) number (map place_of ps))

pub loop-number-preserved : goal.loop-number-preserved
loop-number-preserved g c =
    let queues = c.args.queues.now in let ps = c.args.order.now in let number = c.loop-number.number in
    let q = c.index-queues-number.result in let p = c.index_mut.result.now in
    record { at = end_sent queues c.loop-number.feeders.items ps number q p c.send.new.feeder c.loop-number.invariant.at c.loop-number-test.true c.index-queues-number.is c.index_mut.ensures.value c.send.ensures }

pub returns : goal.returns
returns g c = all_ends_sent c.args.queues.now c.loop-number.feeders.items c.args.order.now c.loop-number.number c.loop-number-test.false c.loop-number.invariant.at
