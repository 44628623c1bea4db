use Rattle.std.proofs.Common.{◌≡◌, ℕ, length, map, take, slice_index_or, sym}
use Rattle.std.proofs.lemmas.List.{get_or_default}
use Rattle.sto_run_feed.specs.declared.job.Job.TheVariants.{Run}
use Rattle.sto_run_feed.specs.declared.order.TransactionPlace as code
use Rattle.sto_run_feed.specs.Orders.{place_of}
use Rattle.sto_run_feed.specs.Jobs.{going_to, jobs_for}
use Rattle.sto_run_feed.proofs.Passes.{pass_at}
use Rattle.sto_run_feed.proofs.Feeding.{runs_sent, may_send, comes, next_run, run_sent, all_runs_sent}
use Rattle.sto_run_feed.proofs.feeder.send_runs.Goals as goal

pub loop-place-init : goal.loop-place-init
loop-place-init g c = record { at = c.requires.none }

pub send-requires-clause-of : goal.send-requires-clause-of
send-requires-clause-of g c =
    let queues = c.args.queues.now in let ps = c.args.order.now in let i : ℕ = c.loop-place.place-index in let low = c.loop-place-test.true in
    let place : code.TransactionPlace = slice_index_or ps i (record { thread = 0; position = 0 }) in
    let is = get_or_default ps i (record { thread = 0; position = 0 }) place low in
    let number = c.queue_of-number.result in let goes = c.queue_of-number.ensures.is in let within = c.queue_of-number.ensures.within in
    let q = c.index-queues-number.result in let p = c.index_mut.result.now in
    let know = pass_at queues c.loop-place.feeders.items number p q (runs_sent (length queues) ps i) c.loop-place.invariant.at within c.index-queues-number.is c.index_mut.ensures.value in
    let jobs = jobs_for (length queues) number (map place_of ps) in let sent : ℕ = length (going_to (length queues) number (map place_of (take i ps))) in
    may_send q p jobs sent know

pub send-requires-clause-next : goal.send-requires-clause-next
send-requires-clause-next g c =
    let queues = c.args.queues.now in let ps = c.args.order.now in let i : ℕ = c.loop-place.place-index in let low = c.loop-place-test.true in
    let place : code.TransactionPlace = slice_index_or ps i (record { thread = 0; position = 0 }) in
    let is = get_or_default ps i (record { thread = 0; position = 0 }) place low in
    let number = c.queue_of-number.result in let goes = c.queue_of-number.ensures.is in let within = c.queue_of-number.ensures.within in
    let q = c.index-queues-number.result in let p = c.index_mut.result.now in
    let know = pass_at queues c.loop-place.feeders.items number p q (runs_sent (length queues) ps i) c.loop-place.invariant.at within c.index-queues-number.is c.index_mut.ensures.value in
    let jobs = jobs_for (length queues) number (map place_of ps) in let sent : ℕ = length (going_to (length queues) number (map place_of (take i ps))) in
    comes q p jobs sent (Run place.thread place.position) know (next_run (length queues) number ps i place low is (sym goes))

pub loop-place-preserved : goal.loop-place-preserved
loop-place-preserved g c =
    let queues = c.args.queues.now in let ps = c.args.order.now in let i : ℕ = c.loop-place.place-index in let low = c.loop-place-test.true in
    let place : code.TransactionPlace = slice_index_or ps i (record { thread = 0; position = 0 }) in
    let is = get_or_default ps i (record { thread = 0; position = 0 }) place low in
    let number = c.queue_of-number.result in let goes = c.queue_of-number.ensures.is in let within = c.queue_of-number.ensures.within in
    let q = c.index-queues-number.result in let p = c.index_mut.result.now in
    record { at = run_sent queues c.loop-place.feeders.items ps i number place q p c.send.new.feeder c.loop-place.invariant.at low is goes within c.index-queues-number.is c.index_mut.ensures.value c.send.ensures }

pub returns : goal.returns
returns g c = all_runs_sent c.args.queues.now c.loop-place.feeders.items c.args.order.now c.loop-place.place-index c.loop-place-test.false c.loop-place.invariant.at
