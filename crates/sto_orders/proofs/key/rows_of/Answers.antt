use Rattle.std.proofs.Common.{◌≡◌, ℕ, ℤ, List, [], ◌∷◌, ◌++◌, length, map, take, take_all, Vec, Global, sym, ap, ◌∙◌, rules, arith}
use Rattle.std.proofs.lemmas.List.{map-append}
use Rattle.sto_orders.proofs.Filling.{take_one}
use Rattle.sto_orders.proofs.key.rows_of.Goals as goal

pub loop-object-preserved : goal.loop-object-preserved
loop-object-preserved c =
    let items : Vec (ℤ × ℤ) Global → List (ℤ × ℤ) = λ v. v.items in
    let old : List (Vec (ℤ × ℤ) Global) = c.loop-object.all.items in
    let added : c.push.new.self.items ≡ old ++ c.in-Ok.rows ∷ [] = search rules in
    ap (map items) added
    ∙ map-append items old (c.in-Ok.rows ∷ [])
    ∙ ap (λ (rs : List (ℤ × ℤ)). map items old ++ rs ∷ []) (c.in-Ok.ensures.items ∙ c.as_slice.ensures.items)
    ∙ ap (λ (rs : List (List (ℤ × ℤ))). rs ++ c.get.result.now.items ∷ []) c.loop-object.invariant
    ∙ sym (take_one c.args.state.now.items c.loop-object.object c.get.result.now.items c.get.ensures.item)

pub returns : goal.returns
returns c =
    c.loop-object.invariant ∙ take_all c.loop-object.object c.args.state.now.items (omega (arith, c.loop-object-test.false, c.len-object-end.ensures))
