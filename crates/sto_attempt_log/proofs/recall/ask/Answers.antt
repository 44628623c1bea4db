use Rattle.std.proofs.Common.{arith, sym, subst, length, ◌<◌, ◌+◌, ◌^◌, Some, None}
use Rattle.sto_type.specs.Known.{Known, IsPartOf, known, unknown}
use Rattle.sto_type.specs.Plans.{IsPlan}
use Rattle.sto_type.specs.Saying.{said_plan}
use Rattle.sto_type.proofs.Over.{need_unknown, need_in_range}
use Rattle.sto_type.proofs.Learning.{unknown-learnt}
use Rattle.sto_attempt_log.specs.ReadSet.{words_in}
use Rattle.sto_attempt_log.specs.Log.{IsCache}
use Rattle.sto_attempt_log.proofs.Recalling.{cache_part, cache_learnt}
use Rattle.sto_attempt_log.proofs.Saying.{beyond_none, said_planned}
use Rattle.sto_attempt_log.proofs.recall.ask.Goals as goal

pub say-requires : goal.say-requires
say-requires g c =
    let m = g.T.TxType.meaning c.args.ty.now in
    let k = known c.loop-part.cache in
    let some = cache_part m (words_in c.args.base.now.items) c.args.set.now.updates k c.requires.pending c.loop-part.invariant in
    record {
      takes = c.requires.takes;
      part = rw c.all.ensures (some.0, some.1, subst (λ (x : Known). IsPartOf x some.0) (sym (beyond_none k)) some.2);
      few = omega (arith, c.parts-parts.ensures);
    }

pub recall-requires-clause-range : goal.recall-requires-clause-range
recall-requires-clause-range g c =
    let m = g.T.TxType.meaning c.args.ty.now in
    let k = known c.loop-part.cache in
    let some = cache_part m (words_in c.args.base.now.items) c.args.set.now.updates k c.requires.pending c.loop-part.invariant in
    let e = said_planned m c.args.call.now k (said_plan (Some c.in-Some.part) c.say.new.said) (rw (c.in-Some.is, c.all.ensures) at c.in_ok-part.ensures) in
    need_in_range m (g.met.T.TxType.lawful c.args.ty.now) c.args.call.now k some.0 c.in-Some.part c.requires.takes some.1 some.2 e

pub loop-part-smaller : goal.loop-part-smaller
loop-part-smaller g c =
    let m = g.T.TxType.meaning c.args.ty.now in
    let law = g.met.T.TxType.lawful c.args.ty.now in
    let k = known c.loop-part.cache in
    let some = cache_part m (words_in c.args.base.now.items) c.args.set.now.updates k c.requires.pending c.loop-part.invariant in
    let e = said_planned m c.args.call.now k (said_plan (Some c.in-Some.part) c.say.new.said) (rw (c.in-Some.is, c.all.ensures) at c.in_ok-part.ensures) in
    let it = c.in_ok-recall-in-Some.ensures.known c.if-not-branch.false in
    let range = need_in_range m law c.args.call.now k some.0 c.in-Some.part c.requires.takes some.1 some.2 e in
    let u = unknown-learnt (length m.widths) c.in-Some.part it.0 k range (need_unknown m law c.args.call.now k some.0 c.in-Some.part c.requires.takes some.1 some.2 e) in
    let less : unknown (length m.widths) (known c.recall.new.cache) < unknown (length m.widths) k = rw it.2 (omega (arith, u)) in
    less

pub loop-part-preserved : goal.loop-part-preserved
loop-part-preserved g c =
    let m = g.T.TxType.meaning c.args.ty.now in
    let base = words_in c.args.base.now.items in
    let es = c.args.set.now.updates in
    let it = c.in_ok-recall-in-Some.ensures.known c.if-not-branch.false in
    subst (λ (q : Known). IsCache m base es q) (sym it.2) (cache_learnt m base es (known c.loop-part.cache) c.in-Some.part it.0 c.loop-part.invariant it.1)

pub returns-then-not-branch-clause-plan : goal.returns-then-not-branch-clause-plan
returns-then-not-branch-clause-plan g c =
    let m = g.T.TxType.meaning c.args.ty.now in
    let k = known c.loop-part.cache in
    let same = (c.in_ok-recall-in-Some.ensures.other c.if-not-branch.true).0 in
    rw same (said_planned m c.args.call.now k (said_plan (Some c.in-Some.part) c.say.new.said) (rw (c.in-Some.is, c.all.ensures) at c.in_ok-part.ensures))

pub returns-then-not-branch-clause-cache : goal.returns-then-not-branch-clause-cache
returns-then-not-branch-clause-cache g c =
    let same = (c.in_ok-recall-in-Some.ensures.other c.if-not-branch.true).0 in
    rw same c.loop-part.invariant

pub returns-in-None-clause-plan : goal.returns-in-None-clause-plan
returns-in-None-clause-plan g c =
    said_planned (g.T.TxType.meaning c.args.ty.now) c.args.call.now (known c.loop-part.cache) (said_plan None c.say.new.said) (rw (c.in-None.is, c.all.ensures) at c.in_ok-part.ensures)
