use Rattle.std.proofs.Common.{arith, ap, subst, ◌≡◌, ◌+◌, ◌∷◌, [], length, drop, suc, List}
use Rattle.std.proofs.lemmas.List.{length-map, drop_all}
use Rattle.sto_item.specs.Pending.{Entry, plain}
use Rattle.sto_type.specs.Known.{known}
use Rattle.sto_attempt_log.specs.ReadSet.{words_in}
use Rattle.sto_attempt_log.specs.Log.{IsCache}
use Rattle.sto_attempt_log.specs.Refreshed.{outside}
use Rattle.sto_attempt_log.proofs.Listing.{fits, rest}
use Rattle.sto_attempt_log.proofs.Refreshing.{outside_less}
use Rattle.sto_attempt_log.proofs.recall.refresh.Goals as goal

pub learn_anew-requires-clause-range : goal.learn_anew-requires-clause-range
learn_anew-requires-clause-range g c =
    let d = c.requires.widths in
    let law = g.met.T.TxType.lawful c.args.ty.now in
    let f = fits c.as_slice-entry-items.result.now c.args.updates.now.items c.loop-entry.entry-index c.entry-item.result c.as_slice-entry-items.ensures.items c.loop-entry-test.true c.entry-item.is d.0 d.2 in
    omega (arith, f.0, ap length (law.widths d.0 d.1), length-map d.0 length)

pub loop-entry-preserved : goal.loop-entry-preserved
loop-entry-preserved g c =
    let m = g.T.TxType.meaning c.args.ty.now in
    let base = words_in c.args.base.now.items in
    let es = c.args.set.now.updates in
    let us = c.args.updates.now.items in
    let x = c.entry-item.result in
    let i = c.loop-entry.entry-index in
    let k = known c.loop-entry.cache in
    let next : drop i us ≡ plain x ∷ drop (suc i) us = rest c.as_slice-entry-items.result.now us i x c.as_slice-entry-items.ensures.items c.loop-entry-test.true c.entry-item.is in
    let was : IsCache m base es (outside (plain x ∷ drop (suc i) us) k) = subst (λ (l : List Entry). IsCache m base es (outside l k)) next c.loop-entry.invariant in
    let same : suc i ≡ i + 1 = omega arith in
    subst (λ j. IsCache m base es (outside (drop j us) (known c.learn_anew.new.cache))) same
    (outside_less m base es (plain x) (drop (suc i) us) k (known c.learn_anew.new.cache) was c.in_ok-learn_anew.ensures)

pub returns : goal.returns
returns g c =
    let us = c.args.updates.now.items in
    let all : drop c.loop-entry.entry-index us ≡ [] = drop_all c.loop-entry.entry-index us (omega (arith, c.loop-entry-test.false, ap length c.as_slice-entry-items.ensures.items, length-map c.as_slice-entry-items.result.now plain)) in
    subst (λ (l : List Entry). IsCache (g.T.TxType.meaning c.args.ty.now) (words_in c.args.base.now.items) c.args.set.now.updates (outside l (known c.loop-entry.cache))) all c.loop-entry.invariant
