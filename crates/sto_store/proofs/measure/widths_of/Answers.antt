use Rattle.std.proofs.Common.{◌≡◌, ◌+◌, ℕ, suc, List, Some, ◌++◌, ◌∷◌, [], length, take, slice_get, ap, sym, ◌∙◌, arith}
use Rattle.std.proofs.lemmas.List.{length_push}
use Rattle.sto_type.proofs.Answering.{take_get}
use Rattle.sto_store.proofs.measure.widths_of.Goals as goal

-- one width more
one_more : (all before after : List ℕ) (part width : ℕ) → before ≡ take part all → after ≡ before ++ width ∷ [] → slice_get all part ≡ Some width → after ≡ take (part + 1) all
one_more all before after part width so_far added there =
    let next : suc part ≡ part + 1 = omega arith in
    added ∙ ap (λ ws. ws ++ width ∷ []) so_far ∙ sym (take_get all part width there) ∙ ap (λ n. take n all) next

pub loop-part-preserved : goal.loop-part-preserved
loop-part-preserved g c =
    let all = (g.T.TxType.meaning c.args.ty.now).widths in
    let before = c.loop-part.widths.items in
    let width = c.width.result in
    let pushed = c.in_ok-push.ensures.ok in
    record {
      items = one_more all before c.push.new.self.items c.loop-part.part width c.loop-part.invariant.items pushed c.width.ensures;
      count = ap length pushed ∙ length_push before width ∙ ap (λ n. n + 1) c.loop-part.invariant.count;
    }
