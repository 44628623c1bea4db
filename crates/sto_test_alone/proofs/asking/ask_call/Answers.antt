use Rattle.std.proofs.Common.{arith, sym, subst, ◌∙◌, length, ◌<◌}
use Rattle.sto_item.specs.Pending.{applied_updates}
use Rattle.sto_item.proofs.Widths.{length-applied_updates}
use Rattle.sto_type.specs.Known.{Known, known, unknown, IsPartOf}
use Rattle.sto_type.proofs.Over.{need_unknown, need_in_range, need_there}
use Rattle.sto_type.proofs.Learning.{unknown-learnt, IsPartOf-learnt}
use Rattle.sto_test_alone.proofs.asking.ask_call.Goals as goal

pub updated_part-requires-clause-range : goal.updated_part-requires-clause-range
updated_part-requires-clause-range g c =
    let m = g.T.TxType.meaning c.args.ty.now in
    let d = applied_updates c.args.pending.now.updates c.args.contents.now.items in
    let e = rw (c.in-Need.is, c.all.ensures) at c.in_ok-reply.ensures in
    omega (arith, need_there m (g.met.T.TxType.lawful c.args.ty.now) c.args.call.now (known c.loop-pool.cache) d c.in-Need.part c.requires.takes c.requires.valid c.loop-pool.invariant e, length-applied_updates c.args.pending.now.updates c.args.contents.now.items)

pub loop-pool-smaller : goal.loop-pool-smaller
loop-pool-smaller g c =
    let m = g.T.TxType.meaning c.args.ty.now in
    let law = g.met.T.TxType.lawful c.args.ty.now in
    let d = applied_updates c.args.pending.now.updates c.args.contents.now.items in
    let k = known c.loop-pool.cache in
    let e = rw (c.in-Need.is, c.all.ensures) at c.in_ok-reply.ensures in
    let u = unknown-learnt (length m.widths) c.in-Need.part c.as_slice.result.now k (need_in_range m law c.args.call.now k d c.in-Need.part c.requires.takes c.requires.valid c.loop-pool.invariant e) (need_unknown m law c.args.call.now k d c.in-Need.part c.requires.takes c.requires.valid c.loop-pool.invariant e) in
    let less : unknown (length m.widths) (known c.learn.new.self) < unknown (length m.widths) k = rw c.in_ok-learn-in-Need.ensures.ok (omega (arith, u)) in
    less

pub loop-pool-preserved : goal.loop-pool-preserved
loop-pool-preserved g c =
    let d = applied_updates c.args.pending.now.updates c.args.contents.now.items in
    let words = sym (c.as_slice.ensures.items ∙ c.in_ok-words-in-Need.ensures) in
    subst (λ (k : Known). IsPartOf k d) (sym c.in_ok-learn-in-Need.ensures.ok) (IsPartOf-learnt c.in-Need.part c.as_slice.result.now (known c.loop-pool.cache) d words c.loop-pool.invariant)
