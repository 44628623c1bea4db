use Rattle.std.proofs.Common.{◌≡◌, ◌<◌, ℕ, pos, List, [], ◌∷◌, ◌++◌, map, take, length, ap, sym, ◌∙◌, arith, rules, w64}
use Rattle.std.specs.Int.RustNames.{FitsSigned}
use Rattle.std.proofs.lemmas.Int.{to_z-of_z}
use Rattle.std.proofs.lemmas.List.{take_more, map-append}
use Rattle.sto_model.specs.Rows.{Row}
use Rattle.sto_tree.specs.Between.{value_part_of}
use Rattle.sto_tree.specs.RowLists.{row_at}
use Rattle.sto_tree.proofs.Adding.{row_there}
use Rattle.sto_tree.proofs.walk.value_parts.Goals as goal

pub loop-place-preserved : goal.loop-place-preserved
loop-place-preserved c =
    let n : ℕ = c.loop-place.place in
    let pairs : List Row = c.args.pairs.now.items in
    let g : Row → ℕ = λ r. value_part_of c.args.leaf c.args.keys.now r.0 in
    let there : n < length pairs = omega (arith, c.loop-place-test.true, c.len-place-end.ensures) in
    let row : row_at pairs n ≡ c.get.result.now = row_there pairs n c.get.result.now c.get.ensures there in
    let f : FitsSigned w64 c.get.result.now.0 = search rules in
    let part : c.value_part_at.result ≡ g c.get.result.now = c.value_part_at.ensures ∙ ap (value_part_of c.args.leaf c.args.keys.now) (to_z-of_z w64 c.get.result.now.0 f) in
    c.in_ok-push.ensures.ok ∙ ap (λ (ps : List ℕ). ps ++ c.value_part_at.result ∷ []) c.loop-place.invariant
    ∙ ap (λ (p : ℕ). map g (take n pairs) ++ p ∷ []) (part ∙ ap g (sym row))
    ∙ sym (ap (map g) (take_more pairs n (pos 0, pos 0) there) ∙ map-append g (take n pairs) (row_at pairs n ∷ []))
