use Rattle.std.proofs.Common.{◌≡◌, ◌<◌, ◌+◌, ◌-◌, ◌*◌, ◌^◌, ℕ, pos, None, List, [], ◌∷◌, ◌++◌, length, ap, sym, ◌∙◌, subst, arith, w64}
use Rattle.std.specs.Int.RustNames.{FitsSigned}
use Rattle.std.proofs.lemmas.Int.{to_z-of_z, to_z_pos}
use Rattle.sto_part.specs.declared.pred.Test.TheVariants.{Eq, Le, Lt}
use Rattle.sto_item.specs.declared.item.Item.{Item}
use Rattle.sto_item.specs.declared.item.Item.TheVariants.{Seen}
use Rattle.sto_item.specs.Agreement.{HasWidths}
use Rattle.sto_item.specs.Pending.{Entry, AreUpdates, with_updates}
use Rattle.sto_model.specs.Rows.{Row}
use Rattle.sto_type.specs.Known.{Parts, known}
use Rattle.sto_tree.specs.Layout.{key_part, high}
use Rattle.sto_tree.specs.Said.{compared, new_row}
use Rattle.sto_tree.specs.Between.{all_seen}
use Rattle.sto_tree.specs.Repack.{rows_of_leaf}
use Rattle.sto_tree.specs.Split.{moved_values, move_updates}
use Rattle.sto_tree.specs.Walked.{first_unknown}
use Rattle.sto_tree.proofs.SplitPlan.{leaf_rows, other_in, above, below_fits, target_in, target_below, eight_rows, moving_ordered, moving_widths, row_widths, split_asks, split_says}
use Rattle.sto_tree.proofs.split.plan_split.Goals as goal

pub leaf_items-requires-clause-other : goal.leaf_items-requires-clause-other
leaf_items-requires-clause-other c = omega (arith, other_in c.args.leaves c.requires.few (known c.args.cache.now) c.args.call.now c.requires.takes.object c.requires.takes.third c.requires.put c.requires.takes.fits c.requires.takes.fits_too c.args.found.directory.now c.args.found.number c.args.found.keys.now c.requires.at c.requires.crowded c.args.free c.requires.free c.requires.part.0 c.requires.part.1 c.requires.part.2, c.requires.few)

pub leaf_items-requires-clause-above : goal.leaf_items-requires-clause-above
leaf_items-requires-clause-above c = omega (arith, above c.args.leaves c.requires.few (known c.args.cache.now) c.args.call.now c.requires.takes.object c.requires.takes.third c.requires.put c.requires.takes.fits c.requires.takes.fits_too c.args.found.directory.now c.args.found.number c.args.found.keys.now c.requires.at c.requires.crowded c.args.free c.requires.free c.requires.part.0 c.requires.part.1 c.requires.part.2)

pub returns-in-Some : goal.returns-in-Some
returns-in-Some c =
    split_asks c.args.leaves c.requires.few (known c.args.cache.now) c.args.call.now c.requires.takes.object c.requires.takes.third c.requires.put c.requires.takes.fits c.requires.takes.fits_too c.args.found.directory.now c.args.found.number c.args.found.keys.now c.requires.at c.requires.crowded c.args.free c.requires.free c.in-Some.part
    (sym c.in-Some.is ∙ c.in_ok-part.ensures.need ∙ ap (first_unknown (known c.args.cache.now)) (c.as_slice.ensures.items ∙ c.in_ok-moved.ensures))

pub move_updates-requires-clause-other : goal.move_updates-requires-clause-other
move_updates-requires-clause-other c = other_in c.args.leaves c.requires.few (known c.args.cache.now) c.args.call.now c.requires.takes.object c.requires.takes.third c.requires.put c.requires.takes.fits c.requires.takes.fits_too c.args.found.directory.now c.args.found.number c.args.found.keys.now c.requires.at c.requires.crowded c.args.free c.requires.free c.requires.part.0 c.requires.part.1 c.requires.part.2

pub move_updates-requires-clause-fits : goal.move_updates-requires-clause-fits
move_updates-requires-clause-fits c = below_fits c.args.leaves c.requires.few (known c.args.cache.now) c.args.call.now c.requires.takes.object c.requires.takes.third c.requires.put c.requires.takes.fits c.requires.takes.fits_too c.args.found.directory.now c.args.found.number c.args.found.keys.now c.requires.at c.requires.crowded c.args.free c.requires.free c.requires.part.0 c.requires.part.1 c.requires.part.2

pub move_updates-requires-clause-eight : goal.move_updates-requires-clause-eight
move_updates-requires-clause-eight c =
    let moved : c.as_slice.result.now ≡ moved_values c.args.found.number c.args.found.keys.now 8 = c.as_slice.ensures.items ∙ c.in_ok-moved.ensures in
    let all : None ≡ first_unknown (known c.args.cache.now) (moved_values c.args.found.number c.args.found.keys.now 8) = sym c.in_default.is ∙ c.in_ok-part.ensures.need ∙ ap (first_unknown (known c.args.cache.now)) moved in
    ap length c.in_ok-rows.ensures ∙ eight_rows c.args.leaves c.requires.few (known c.args.cache.now) c.args.call.now c.requires.takes.object c.requires.takes.third c.requires.put c.requires.takes.fits c.requires.takes.fits_too c.args.found.directory.now c.args.found.number c.args.found.keys.now c.requires.at c.requires.crowded c.args.free c.requires.free c.requires.part.0 c.requires.part.1 c.requires.part.2 all

pub move_updates-requires-clause-ordered : goal.move_updates-requires-clause-ordered
move_updates-requires-clause-ordered c =
    let moved : c.as_slice.result.now ≡ moved_values c.args.found.number c.args.found.keys.now 8 = c.as_slice.ensures.items ∙ c.in_ok-moved.ensures in
    let all : None ≡ first_unknown (known c.args.cache.now) (moved_values c.args.found.number c.args.found.keys.now 8) = sym c.in_default.is ∙ c.in_ok-part.ensures.need ∙ ap (first_unknown (known c.args.cache.now)) moved in
    subst (λ (rows : List Row). AreUpdates (move_updates c.args.leaves c.args.found.directory.now c.args.found.number c.args.found.keys.now c.args.free (rows_of_leaf rows 1))) (sym c.in_ok-rows.ensures)
    (moving_ordered c.args.leaves c.requires.few (known c.args.cache.now) c.args.call.now c.requires.takes.object c.requires.takes.third c.requires.put c.requires.takes.fits c.requires.takes.fits_too c.args.found.directory.now c.args.found.number c.args.found.keys.now c.requires.at c.requires.crowded c.args.free c.requires.free c.requires.part.0 c.requires.part.1 c.requires.part.2 all)

pub compose_row-requires-clause-part : goal.compose_row-requires-clause-part
compose_row-requires-clause-part c =
    let fa : FitsSigned w64 c.args.call.now.a = c.requires.takes.fits in
    let where_to = simp to_z-of_z at c.place_after-leaf.ensures in
    let below : c.place_after-leaf.result.0 < c.args.leaves = subst (λ (q : ℕ × ℕ). q.0 < c.args.leaves) (sym where_to) (target_below c.args.leaves c.requires.few (known c.args.cache.now) c.args.call.now c.requires.takes.object c.requires.takes.third c.requires.put c.requires.takes.fits c.requires.takes.fits_too c.args.found.directory.now c.args.found.number c.args.found.keys.now c.requires.at c.requires.crowded c.args.free c.requires.free c.requires.part.0 c.requires.part.1 c.requires.part.2) in
    omega (arith, below, c.requires.few)

pub compose_row-requires-clause-place : goal.compose_row-requires-clause-place
compose_row-requires-clause-place c =
    let fa : FitsSigned w64 c.args.call.now.a = c.requires.takes.fits in
    let where_to = simp to_z-of_z at c.place_after-leaf.ensures in
    subst (λ (q : ℕ × ℕ). q.1 < 8) (sym where_to) (target_in c.args.leaves c.requires.few (known c.args.cache.now) c.args.call.now c.requires.takes.object c.requires.takes.third c.requires.put c.requires.takes.fits c.requires.takes.fits_too c.args.found.directory.now c.args.found.number c.args.found.keys.now c.requires.at c.requires.crowded c.args.free c.requires.free c.requires.part.0 c.requires.part.1 c.requires.part.2)

pub compose_row-requires-clause-widths : goal.compose_row-requires-clause-widths
compose_row-requires-clause-widths c =
    let fa : FitsSigned w64 c.args.call.now.a = c.requires.takes.fits in
    let where_to = simp to_z-of_z at c.place_after-leaf.ensures in
    let d : Parts = c.requires.part.0 in
    let moved : c.as_slice.result.now ≡ moved_values c.args.found.number c.args.found.keys.now 8 = c.as_slice.ensures.items ∙ c.in_ok-moved.ensures in
    let all : None ≡ first_unknown (known c.args.cache.now) (moved_values c.args.found.number c.args.found.keys.now 8) = sym c.in_default.is ∙ c.in_ok-part.ensures.need ∙ ap (first_unknown (known c.args.cache.now)) moved in
    let made : c.in_ok-updates.updates.items ≡ move_updates c.args.leaves c.args.found.directory.now c.args.found.number c.args.found.keys.now c.args.free (rows_of_leaf (leaf_rows c.args.leaves c.requires.few (known c.args.cache.now) c.args.call.now c.requires.takes.object c.requires.takes.third c.requires.put c.requires.takes.fits c.requires.takes.fits_too c.args.found.directory.now c.args.found.number c.args.found.keys.now c.requires.at c.requires.crowded c.args.free c.requires.free) 1) =
    c.in_ok-updates.ensures ∙ ap (λ (rows : List Row). move_updates c.args.leaves c.args.found.directory.now c.args.found.number c.args.found.keys.now c.args.free (rows_of_leaf rows 1)) c.in_ok-rows.ensures in (
      d,
      subst (λ (es : List Entry). HasWidths es d) (sym made) (moving_widths c.args.leaves c.requires.few (known c.args.cache.now) c.args.call.now c.requires.takes.object c.requires.takes.third c.requires.put c.requires.takes.fits c.requires.takes.fits_too c.args.found.directory.now c.args.found.number c.args.found.keys.now c.requires.at c.requires.crowded c.args.free c.requires.free c.requires.part.0 c.requires.part.1 c.requires.part.2 all),
      subst (λ (q : ℕ × ℕ). HasWidths (new_row q.0 q.1 c.args.call.now.a c.args.call.now.b) d) (sym where_to) (row_widths c.args.leaves c.requires.few (known c.args.cache.now) c.args.call.now c.requires.takes.object c.requires.takes.third c.requires.put c.requires.takes.fits c.requires.takes.fits_too c.args.found.directory.now c.args.found.number c.args.found.keys.now c.requires.at c.requires.crowded c.args.free c.requires.free c.requires.part.0 c.requires.part.1 c.requires.part.2 all),
    )

pub returns : goal.returns
returns c =
    let fa : FitsSigned w64 c.args.call.now.a = c.requires.takes.fits in
    let fb : FitsSigned w64 c.args.call.now.b = c.requires.takes.fits_too in
    let where_to = simp to_z-of_z at c.place_after-leaf.ensures in
    let head = simp to_z-of_z at c.in_ok-items.ensures in
    let composed = simp to_z-of_z at c.in_ok-compose_row.ensures in
    let moved : c.as_slice.result.now ≡ moved_values c.args.found.number c.args.found.keys.now 8 = c.as_slice.ensures.items ∙ c.in_ok-moved.ensures in
    let all : None ≡ first_unknown (known c.args.cache.now) (moved_values c.args.found.number c.args.found.keys.now 8) = sym c.in_default.is ∙ c.in_ok-part.ensures.need ∙ ap (first_unknown (known c.args.cache.now)) moved in
    let made : c.in_ok-updates.updates.items ≡ move_updates c.args.leaves c.args.found.directory.now c.args.found.number c.args.found.keys.now c.args.free (rows_of_leaf (leaf_rows c.args.leaves c.requires.few (known c.args.cache.now) c.args.call.now c.requires.takes.object c.requires.takes.third c.requires.put c.requires.takes.fits c.requires.takes.fits_too c.args.found.directory.now c.args.found.number c.args.found.keys.now c.requires.at c.requires.crowded c.args.free c.requires.free) 1) =
    c.in_ok-updates.ensures ∙ ap (λ (rows : List Row). move_updates c.args.leaves c.args.found.directory.now c.args.found.number c.args.found.keys.now c.args.free (rows_of_leaf rows 1)) c.in_ok-rows.ensures in
    let seen : c.see_parts.new.items.items ≡ c.in_ok-items.items.items ++ all_seen c.as_slice.result.now = c.in_ok-part.ensures.items c.in_default.is in
    let l : ℕ = c.args.found.number in
    let m : ℕ = c.args.free in
    let six : List Item =
    compared 1 (3 * l) Eq (pos 1) ∷ compared 1 (3 * l + 1) Le c.args.call.now.a ∷ compared 1 (3 * l + 2) Eq (high c.args.found.directory.now l) ∷ compared 1 (3 * (m - 1)) Eq (pos 1) ∷ compared 1 (3 * m) Eq (pos 0) ∷ Seen (key_part l) ∷ [] in
    let small : 4 * c.args.leaves < 2 ^ 63 = omega (arith, c.requires.few) in
    let room : c.compares.result ≡ compared 0 0 Lt (pos (4 * c.args.leaves)) = c.compares.ensures ∙ ap (compared 0 0 Lt) (to_z_pos w64 (4 * c.args.leaves) small) in
    split_says c.args.leaves c.requires.few (known c.args.cache.now) c.args.call.now c.requires.takes.object c.requires.takes.third c.requires.put c.requires.takes.fits c.requires.takes.fits_too c.args.found.directory.now c.args.found.number c.args.found.keys.now c.requires.at c.requires.crowded c.args.free c.requires.free c.add_item.new.items.items c.compose_row.new.updates.items all
    (c.in_ok-add_item.ensures
    ∙ ap (λ (is : List Item). is ++ c.compares.result ∷ []) (seen ∙ ap (λ (is : List Item). is ++ all_seen c.as_slice.result.now) head)
    ∙ ap (λ (x : Item). (six ++ all_seen c.as_slice.result.now) ++ x ∷ []) room ∙ ap (λ (ps : List ℕ). (six ++ all_seen ps) ++ compared 0 0 Lt (pos (4 * c.args.leaves)) ∷ []) moved)
    (composed ∙ ap (λ (es : List Entry). with_updates es (new_row c.place_after-leaf.result.0 c.place_after-leaf.result.1 c.args.call.now.a c.args.call.now.b)) made
    ∙ ap (λ (q : ℕ × ℕ). with_updates (move_updates c.args.leaves c.args.found.directory.now c.args.found.number c.args.found.keys.now c.args.free (rows_of_leaf (leaf_rows c.args.leaves c.requires.few (known c.args.cache.now) c.args.call.now c.requires.takes.object c.requires.takes.third c.requires.put c.requires.takes.fits c.requires.takes.fits_too c.args.found.directory.now c.args.found.number c.args.found.keys.now c.requires.at c.requires.crowded c.args.free c.requires.free) 1)) (new_row q.0 q.1 c.args.call.now.a c.args.call.now.b)) where_to)
