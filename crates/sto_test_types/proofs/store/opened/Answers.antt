use Rattle.std.proofs.Common.{◌≡◌, [], ap, sym, subst, ◌∙◌}
use Rattle.std.proofs.lemmas.Option.{get_or_from_slice_get}
use Rattle.sto_part.specs.Parts.{part_of}
use Rattle.sto_type.specs.Known.{Parts, Known, known, learnt, IsPartOf}
use Rattle.sto_type.proofs.Learning.{IsPartOf-learnt, IsPartOf-none}
use Rattle.sto_test_types.proofs.store.opened.Goals as goal

pub loop-part-init : goal.loop-part-init
loop-part-init g c =
    let opened = (g.T.TxType.meaning c.args.ty.now).opened in
    subst (λ ks. IsPartOf (known ks) opened) (sym c.new-cache.ensures) (IsPartOf-none opened)

pub loop-part-preserved : goal.loop-part-preserved
loop-part-preserved g c =
    let opened = (g.T.TxType.meaning c.args.ty.now).opened in
    let words : part_of opened c.loop-part.part ≡ c.as_slice.result.now =
    ap (λ (ps : Parts). part_of ps c.loop-part.part) (sym c.in_ok-opening.ensures)
    ∙ get_or_from_slice_get c.in_ok-opening.opening.items c.loop-part.part c.get.result.now.items [] c.get.ensures
    ∙ sym c.as_slice.ensures.items in
    subst (λ (k : Known). IsPartOf k (g.T.TxType.meaning c.args.ty.now).opened) {x = learnt (known c.loop-part.cache) c.loop-part.part c.as_slice.result.now} (sym c.in_ok-learn.ensures.ok) (IsPartOf-learnt c.loop-part.part c.as_slice.result.now (known c.loop-part.cache) opened words c.loop-part.invariant)
