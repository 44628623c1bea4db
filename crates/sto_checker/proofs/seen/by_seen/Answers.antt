use Rattle.std.proofs.Common.{arith}
use Rattle.sto_checker.proofs.AbortWalk.{few_seen, seen_pushed}
use Rattle.sto_checker.proofs.seen.by_seen.Goals as goal

pub push-requires-in-loop-place : goal.push-requires-in-loop-place
push-requires-in-loop-place c =
    let few = few_seen c.args.aborts.now c.loop-place.place c.args.writers c.loop-place.made.items c.loop-place.invariant _ c.get_mut.result.now c.get_mut.ensures.value in
    omega (arith, few, c.requires.few, c.loop-place-test.true)

pub loop-place-preserved : goal.loop-place-preserved
loop-place-preserved c =
    seen_pushed c.args.aborts.now c.loop-place.place c.args.writers c.loop-place.made.items c.loop-place.invariant _ c.get_mut.result.now c.push-in-loop-place.new.self
    c.loop-place-test.true c.get_mut.ensures.value c.in_ok-push-2.ensures.ok c.requires.seen
