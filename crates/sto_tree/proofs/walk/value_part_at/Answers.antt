use Rattle.std.proofs.Common.{◌<◌, ap, sym, ◌∙◌, arith, w64}
use Rattle.std.specs.Prelude.{unwrap_or}
use Rattle.std.specs.Int.RustNames.{FitsSigned}
use Rattle.std.proofs.lemmas.Int.{to_z-of_z}
use Rattle.sto_tree.specs.Layout.{value_part}
use Rattle.sto_tree.proofs.Leaves.{place_below}
use Rattle.sto_tree.proofs.walk.value_part_at.Goals as goal

pub value_part-requires : goal.value_part-requires
value_part-requires c =
    let i : c.in-Some.place < 8 = place_below c.args.keys.now _ c.in-Some.place (sym c.place_of.ensures ∙ c.in-Some.is) in
    omega (arith, i, c.requires.part)

pub returns-in-Some : goal.returns-in-Some
returns-in-Some c =
    let f : FitsSigned w64 c.args.key = c.ranges.key in
    let some = simp to_z-of_z at (sym c.place_of.ensures ∙ c.in-Some.is) in
    c.value_part.ensures ∙ sym (ap (λ o. value_part c.args.leaf (unwrap_or o 0)) some)

pub returns-in-None : goal.returns-in-None
returns-in-None c =
    let f : FitsSigned w64 c.args.key = c.ranges.key in
    let none = simp to_z-of_z at (sym c.place_of.ensures ∙ c.in-None.is) in
    c.value_part-in-None.ensures ∙ sym (ap (λ o. value_part c.args.leaf (unwrap_or o 0)) none)
