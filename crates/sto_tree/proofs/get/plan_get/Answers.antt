use Rattle.std.proofs.Common.{◌≡◌, ◌<◌, ℕ, ℤ, Some, sym, ◌∙◌, subst, arith, rules, w64, to_z, of_z}
use Rattle.std.specs.Int.RustNames.{FitsSigned}
use Rattle.std.proofs.lemmas.Int.{to_z-of_z}
use Rattle.sto_type.specs.Known.{known}
use Rattle.sto_tree.specs.Layout.{value_part}
use Rattle.sto_tree.specs.Found.{NeedsFirst}
use Rattle.sto_tree.proofs.Leaves.{place_below, value_wide}
use Rattle.sto_tree.proofs.GetPlan.{get_first, says_absent, says_value}
use Rattle.sto_tree.proofs.get.plan_get.Goals as goal

pub returns-in-Err : goal.returns-in-Err
returns-in-Err c =
    let f : FitsSigned w64 c.args.call.now.a = c.requires.takes.fits in
    let first : NeedsFirst c.args.leaves (known c.args.cache.now) c.args.call.now.a c.in-Err.part = subst (λ (x : ℤ). NeedsFirst c.args.leaves (known c.args.cache.now) x c.in-Err.part) (to_z-of_z w64 c.args.call.now.a f) c.in-Err.ensures.needs in
    get_first c.args.leaves (known c.args.cache.now) c.args.call.now c.requires.takes.object c.requires.takes.third c.requires.get c.in-Err.part first

pub returns-in_default : goal.returns-in_default
returns-in_default c =
    let f : FitsSigned w64 c.args.call.now.a = c.requires.takes.fits in
    let at = simp to_z-of_z at c.in-Ok.ensures.at in
    let none = simp to_z-of_z at (sym c.place_of.ensures ∙ c.in_default.is) in
    let items = simp to_z-of_z at c.in_ok-leaf_items.ensures in
    says_absent c.args.leaves (known c.args.cache.now) c.args.call.now c.requires.takes.object c.requires.takes.third c.requires.get c.in-Ok.found.directory.now c.in-Ok.found.number c.in-Ok.found.keys.now at
    c.in_ok-leaf_items.field-0.items c.updates.result.items none items c.updates.ensures

pub value_part-part-requires : goal.value_part-part-requires
value_part-part-requires c =
    let i : c.in-Some.place < 8 = place_below c.in-Ok.found.keys.now _ c.in-Some.place (sym c.place_of.ensures ∙ c.in-Some.is) in
    omega (arith, c.in-Ok.ensures.below, i, c.requires.few)

pub only_word-requires : goal.only_word-requires
only_word-requires c =
    let i : c.in-Some.place < 8 = place_below c.in-Ok.found.keys.now _ c.in-Some.place (sym c.place_of.ensures ∙ c.in-Some.is) in
    value_wide c.args.leaves (known c.args.cache.now) c.in-Ok.found.number c.in-Some.place c.in-Some-get.value.now c.in-Ok.ensures.below i c.requires.part
    (subst (λ (p : ℕ). known c.args.cache.now p ≡ Some c.in-Some-get.value.now) c.value_part-part.ensures c.in-Some-get.ensures)

pub value_items-requires-clause-place : goal.value_items-requires-clause-place
value_items-requires-clause-place c = place_below c.in-Ok.found.keys.now _ c.in-Some.place (sym c.place_of.ensures ∙ c.in-Some.is)

pub returns : goal.returns
returns c =
    let f : FitsSigned w64 c.args.call.now.a = c.requires.takes.fits in
    let at = simp to_z-of_z at c.in-Ok.ensures.at in
    let some = simp to_z-of_z at (sym c.place_of.ensures ∙ c.in-Some.is) in
    let items = simp to_z-of_z at c.in_ok-value_items.ensures in
    let g : FitsSigned w64 c.only_word.result = search rules in
    let value : known c.args.cache.now (value_part c.in-Ok.found.number c.in-Some.place) ≡ Some c.in-Some-get.value.now = subst (λ (p : ℕ). known c.args.cache.now p ≡ Some c.in-Some-get.value.now) c.value_part-part.ensures c.in-Some-get.ensures in
    says_value c.args.leaves (known c.args.cache.now) c.args.call.now c.requires.takes.object c.requires.takes.third c.requires.get c.in-Ok.found.directory.now c.in-Ok.found.number c.in-Ok.found.keys.now at
    c.in_ok-value_items.field-0.items c.updates-2.result.items c.in-Some.place c.in-Some-get.value.now (to_z w64 (of_z w64 c.only_word.result)) (to_z-of_z w64 c.only_word.result g ∙ c.only_word.ensures)
    some value items c.updates-2.ensures
