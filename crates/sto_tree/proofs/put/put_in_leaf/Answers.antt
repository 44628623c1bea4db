use Rattle.std.proofs.Common.{◌≡◌, ◌<◌, ◌*◌, ℕ, pos, int_le, true, false, List, [], ◌∷◌, ap, sym, ◌∙◌, arith, w64}
use Rattle.std.specs.Int.RustNames.{FitsSigned}
use Rattle.std.proofs.lemmas.Int.{to_z-of_z}
use Rattle.sto_part.specs.declared.change.Change.TheVariants.{Put}
use Rattle.sto_item.specs.Pending.{Entry}
use Rattle.sto_type.specs.Known.{known}
use Rattle.sto_tree.specs.Layout.{word}
use Rattle.sto_tree.specs.Said.{value_is}
use Rattle.sto_tree.proofs.Leaves.{place_below, size_wide}
use Rattle.sto_tree.proofs.PutPlan.{says_over, needs_size, says_full, says_new}
use Rattle.sto_tree.proofs.put.put_in_leaf.Goals as goal

pub here_items-requires-clause-place : goal.here_items-requires-clause-place
here_items-requires-clause-place c = place_below c.args.found.keys.now _ c.in-Some.place (sym c.place_of.ensures ∙ c.in-Some.is)

pub value_part-requires : goal.value_part-requires
value_part-requires c =
    let i : c.in-Some.place < 8 = place_below c.args.found.keys.now _ c.in-Some.place (sym c.place_of.ensures ∙ c.in-Some.is) in
    omega (arith, c.requires.below, i, c.requires.few)

pub returns-in-Some : goal.returns-in-Some
returns-in-Some c =
    let f : FitsSigned w64 c.args.call.now.a = c.requires.takes.fits in
    let g : FitsSigned w64 c.args.call.now.b = c.requires.takes.fits_too in
    let at = c.requires.at in
    let some = simp to_z-of_z at (sym c.place_of.ensures ∙ c.in-Some.is) in
    let items = simp to_z-of_z at c.in_ok-here_items.ensures in
    let put = simp to_z-of_z at c.in_ok-one_update.ensures in
    let updates : c.in_ok-one_update.field-0.items ≡ value_is c.args.found.number c.in-Some.place c.args.call.now.b ∷ [] = put ∙ ap {B = List Entry} (λ (p : ℕ). (p, Put c.args.call.now.b ∷ []) ∷ []) c.value_part.ensures in
    says_over c.args.leaves (known c.args.cache.now) c.args.call.now c.requires.takes.object c.requires.takes.third c.requires.put c.args.found.directory.now c.args.found.number c.args.found.keys.now at
    c.in_ok-here_items.field-0.items c.in_ok-one_update.field-0.items c.in-Some.place some items updates

pub is_full-requires-clause-width : goal.is_full-requires-clause-width
is_full-requires-clause-width c = size_wide c.args.leaves (known c.args.cache.now) c.in-Some-get.size.now c.requires.part c.in-Some-get.ensures

pub returns-then-is_full : goal.returns-then-is_full
returns-then-is_full c =
    let f : FitsSigned w64 c.args.call.now.a = c.requires.takes.fits in
    let at = c.requires.at in
    let none = simp to_z-of_z at (sym c.place_of.ensures ∙ c.in_default.is) in
    let full : int_le (pos (4 * c.args.leaves)) (word c.in-Some-get.size.now 0) ≡ true = sym c.is_full.ensures ∙ c.if-is_full.true in
    let items = simp to_z-of_z at c.in_ok-room_items.ensures in
    says_full c.args.leaves (known c.args.cache.now) c.args.call.now c.requires.takes.object c.requires.takes.third c.requires.put c.args.found.directory.now c.args.found.number c.args.found.keys.now at none c.in-Some-get.size.now c.in-Some-get.ensures
    c.in_ok-room_items.field-0.items c.updates.result.items full items c.updates.ensures

pub returns-in_default-free_place : goal.returns-in_default-free_place
returns-in_default-free_place c =
    let f : FitsSigned w64 c.args.call.now.a = c.requires.takes.fits in
    let none = simp to_z-of_z at (sym c.place_of.ensures ∙ c.in_default.is) in
    record {
      size = c.in-Some-get.size.now;
      new = none;
      size_known = c.in-Some-get.ensures;
      room = sym c.is_full.ensures ∙ c.if-is_full.false;
      filled = sym c.free_place.ensures ∙ c.in_default-free_place.is;
    }

pub returns : goal.returns
returns c =
    let f : FitsSigned w64 c.args.call.now.a = c.requires.takes.fits in
    let g : FitsSigned w64 c.args.call.now.b = c.requires.takes.fits_too in
    let at = c.requires.at in
    let none = simp to_z-of_z at (sym c.place_of.ensures ∙ c.in_default.is) in
    let room : int_le (pos (4 * c.args.leaves)) (word c.in-Some-get.size.now 0) ≡ false = sym c.is_full.ensures ∙ c.if-is_full.false in
    let items = simp to_z-of_z at c.in_ok-room_items-2.ensures in
    let updates = simp to_z-of_z at c.in_ok-new_row.ensures in
    says_new c.args.leaves (known c.args.cache.now) c.args.call.now c.requires.takes.object c.requires.takes.third c.requires.put c.args.found.directory.now c.args.found.number c.args.found.keys.now at none c.in-Some-get.size.now c.in-Some-get.ensures
    c.in_ok-room_items-2.field-0.items c.in_ok-new_row.field-0.items c.in-Some-free_place.place room (sym c.free_place.ensures ∙ c.in-Some-free_place.is) items updates

pub returns-in_default-get : goal.returns-in_default-get
returns-in_default-get c =
    let f : FitsSigned w64 c.args.call.now.a = c.requires.takes.fits in
    let none = simp to_z-of_z at (sym c.place_of.ensures ∙ c.in_default.is) in
    needs_size c.args.leaves (known c.args.cache.now) c.args.call.now c.requires.takes.object c.requires.takes.third c.requires.put c.args.found.directory.now c.args.found.number c.args.found.keys.now c.requires.at none c.in_default-get.ensures
