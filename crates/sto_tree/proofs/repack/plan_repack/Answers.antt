use Rattle.std.proofs.Common.{◌≡◌, ◌<◌, ◌*◌, ◌^◌, ℕ, pos, None, List, [], ◌∷◌, ◌++◌, length, ap, sym, ◌∙◌, subst, append_assoc, arith, w64}
use Rattle.std.specs.Int.RustNames.{FitsSigned}
use Rattle.std.proofs.lemmas.Int.{to_z-of_z, to_z_pos}
use Rattle.sto_part.specs.declared.pred.Test.TheVariants.{Lt}
use Rattle.sto_item.specs.declared.item.Item.{Item}
use Rattle.sto_item.specs.declared.item.Item.TheVariants.{Seen}
use Rattle.sto_item.specs.Pending.{AreUpdates}
use Rattle.sto_model.specs.Rows.{Row, with_row}
use Rattle.sto_type.specs.Known.{known}
use Rattle.sto_tree.specs.Said.{compared}
use Rattle.sto_tree.specs.Between.{all_seen}
use Rattle.sto_tree.specs.Repack.{key_parts, present_values, leaves_for, ends, packed_updates}
use Rattle.sto_tree.specs.Walked.{first_unknown, known_words}
use Rattle.sto_tree.proofs.RepackPlan.{all_rows, asks_keys, asks_values, rows_ordered, rows_end, says_packed}
use Rattle.sto_tree.proofs.repack.plan_repack.Goals as goal

pub returns-in-Some : goal.returns-in-Some
returns-in-Some c =
    asks_keys c.args.leaves c.requires.few (known c.args.cache.now) c.args.call.now c.requires.takes.object c.requires.takes.third c.requires.put c.requires.takes.fits c.requires.takes.fits_too c.args.found.directory.now c.args.found.number c.args.found.keys.now c.requires.at c.requires.crowded c.requires.free c.in-Some.part
    (sym c.in-Some.is ∙ c.in_ok-part.ensures.need ∙ ap (first_unknown (known c.args.cache.now)) (c.as_slice.ensures.items ∙ c.in_ok-keys.ensures))

pub returns-in-Some-2 : goal.returns-in-Some-2
returns-in-Some-2 c =
    let keys : c.as_slice.result.now ≡ key_parts c.args.leaves = c.as_slice.ensures.items ∙ c.in_ok-keys.ensures in
    let keys_known : None ≡ first_unknown (known c.args.cache.now) (key_parts c.args.leaves) = sym c.in_default.is ∙ c.in_ok-part.ensures.need ∙ ap (first_unknown (known c.args.cache.now)) keys in
    asks_values c.args.leaves c.requires.few (known c.args.cache.now) c.args.call.now c.requires.takes.object c.requires.takes.third c.requires.put c.requires.takes.fits c.requires.takes.fits_too c.args.found.directory.now c.args.found.number c.args.found.keys.now c.requires.at c.requires.crowded c.requires.free keys_known c.requires.part c.in-Some-2.part
    (sym c.in-Some-2.is ∙ c.in_ok-part-2.ensures.need ∙ ap (first_unknown (known c.args.cache.now)) (c.as_slice-2.ensures.items ∙ c.in_ok-values.ensures))

pub packed-requires-clause-ends : goal.packed-requires-clause-ends
packed-requires-clause-ends c =
    let keys : c.as_slice.result.now ≡ key_parts c.args.leaves = c.as_slice.ensures.items ∙ c.in_ok-keys.ensures in
    let keys_known : None ≡ first_unknown (known c.args.cache.now) (key_parts c.args.leaves) = sym c.in_default.is ∙ c.in_ok-part.ensures.need ∙ ap (first_unknown (known c.args.cache.now)) keys in
    let values : c.as_slice-2.result.now ≡ present_values (known_words (known c.args.cache.now)) c.args.leaves = c.as_slice-2.ensures.items ∙ c.in_ok-values.ensures in
    let values_known : None ≡ first_unknown (known c.args.cache.now) (present_values (known_words (known c.args.cache.now)) c.args.leaves) =
    sym c.in_default-2.is ∙ c.in_ok-part-2.ensures.need ∙ ap (first_unknown (known c.args.cache.now)) values in
    let fa : FitsSigned w64 c.args.call.now.a = c.requires.takes.fits in
    let fb : FitsSigned w64 c.args.call.now.b = c.requires.takes.fits_too in
    let put = simp to_z-of_z at c.in_ok-put.ensures.ok in
    let rows : c.put.new.self.items ≡ all_rows c.args.leaves c.requires.few (known c.args.cache.now) c.args.call.now c.requires.takes.object c.requires.takes.third c.requires.put c.requires.takes.fits c.requires.takes.fits_too c.args.found.directory.now c.args.found.number c.args.found.keys.now c.requires.at c.requires.crowded c.requires.free = put ∙ ap (λ (xs : List Row). with_row xs c.args.call.now.a c.args.call.now.b) c.in_ok-rows.ensures in
    subst (λ (xs : List Row). (j : ℕ) → j < leaves_for (length xs) → FitsSigned w64 (ends xs j)) (sym rows) (rows_end c.args.leaves c.requires.few (known c.args.cache.now) c.args.call.now c.requires.takes.object c.requires.takes.third c.requires.put c.requires.takes.fits c.requires.takes.fits_too c.args.found.directory.now c.args.found.number c.args.found.keys.now c.requires.at c.requires.crowded c.requires.free keys_known c.requires.part.0 c.requires.part.1 c.requires.part.2 values_known)

pub packed-requires-clause-ordered : goal.packed-requires-clause-ordered
packed-requires-clause-ordered c =
    let keys : c.as_slice.result.now ≡ key_parts c.args.leaves = c.as_slice.ensures.items ∙ c.in_ok-keys.ensures in
    let keys_known : None ≡ first_unknown (known c.args.cache.now) (key_parts c.args.leaves) = sym c.in_default.is ∙ c.in_ok-part.ensures.need ∙ ap (first_unknown (known c.args.cache.now)) keys in
    let values : c.as_slice-2.result.now ≡ present_values (known_words (known c.args.cache.now)) c.args.leaves = c.as_slice-2.ensures.items ∙ c.in_ok-values.ensures in
    let values_known : None ≡ first_unknown (known c.args.cache.now) (present_values (known_words (known c.args.cache.now)) c.args.leaves) =
    sym c.in_default-2.is ∙ c.in_ok-part-2.ensures.need ∙ ap (first_unknown (known c.args.cache.now)) values in
    let fa : FitsSigned w64 c.args.call.now.a = c.requires.takes.fits in
    let fb : FitsSigned w64 c.args.call.now.b = c.requires.takes.fits_too in
    let put = simp to_z-of_z at c.in_ok-put.ensures.ok in
    let rows : c.put.new.self.items ≡ all_rows c.args.leaves c.requires.few (known c.args.cache.now) c.args.call.now c.requires.takes.object c.requires.takes.third c.requires.put c.requires.takes.fits c.requires.takes.fits_too c.args.found.directory.now c.args.found.number c.args.found.keys.now c.requires.at c.requires.crowded c.requires.free = put ∙ ap (λ (xs : List Row). with_row xs c.args.call.now.a c.args.call.now.b) c.in_ok-rows.ensures in
    subst (λ (xs : List Row). AreUpdates (packed_updates c.args.leaves xs)) (sym rows) (rows_ordered c.args.leaves c.requires.few (known c.args.cache.now) c.args.call.now c.requires.takes.object c.requires.takes.third c.requires.put c.requires.takes.fits c.requires.takes.fits_too c.args.found.directory.now c.args.found.number c.args.found.keys.now c.requires.at c.requires.crowded c.requires.free keys_known c.requires.part.0 c.requires.part.1 c.requires.part.2 values_known)

pub returns : goal.returns
returns c =
    let keys : c.as_slice.result.now ≡ key_parts c.args.leaves = c.as_slice.ensures.items ∙ c.in_ok-keys.ensures in
    let keys_known : None ≡ first_unknown (known c.args.cache.now) (key_parts c.args.leaves) = sym c.in_default.is ∙ c.in_ok-part.ensures.need ∙ ap (first_unknown (known c.args.cache.now)) keys in
    let values : c.as_slice-2.result.now ≡ present_values (known_words (known c.args.cache.now)) c.args.leaves = c.as_slice-2.ensures.items ∙ c.in_ok-values.ensures in
    let values_known : None ≡ first_unknown (known c.args.cache.now) (present_values (known_words (known c.args.cache.now)) c.args.leaves) =
    sym c.in_default-2.is ∙ c.in_ok-part-2.ensures.need ∙ ap (first_unknown (known c.args.cache.now)) values in
    let fa : FitsSigned w64 c.args.call.now.a = c.requires.takes.fits in
    let fb : FitsSigned w64 c.args.call.now.b = c.requires.takes.fits_too in
    let put = simp to_z-of_z at c.in_ok-put.ensures.ok in
    let rows : c.put.new.self.items ≡ all_rows c.args.leaves c.requires.few (known c.args.cache.now) c.args.call.now c.requires.takes.object c.requires.takes.third c.requires.put c.requires.takes.fits c.requires.takes.fits_too c.args.found.directory.now c.args.found.number c.args.found.keys.now c.requires.at c.requires.crowded c.requires.free = put ∙ ap (λ (xs : List Row). with_row xs c.args.call.now.a c.args.call.now.b) c.in_ok-rows.ensures in
    let KS : List Item = all_seen (key_parts c.args.leaves) in
    let VS : List Item = all_seen (present_values (known_words (known c.args.cache.now)) c.args.leaves) in
    let first : c.add_item.new.items.items ≡ Seen 1 ∷ [] = c.in_ok-add_item.ensures ∙ ap (λ (is : List Item). is ++ Seen 1 ∷ []) c.items-items.ensures in
    let second : c.see_parts.new.items.items ≡ Seen 1 ∷ KS = c.in_ok-part.ensures.items c.in_default.is ∙ ap (λ (is : List Item). is ++ all_seen c.as_slice.result.now) first ∙ ap (λ (ps : List ℕ). Seen 1 ∷ all_seen ps) keys in
    let third : c.see_parts-2.new.items.items ≡ (Seen 1 ∷ KS) ++ VS = c.in_ok-part-2.ensures.items c.in_default-2.is ∙ ap (λ (is : List Item). is ++ all_seen c.as_slice-2.result.now) second ∙ ap (λ (ps : List ℕ). (Seen 1 ∷ KS) ++ all_seen ps) values in
    let small : 4 * c.args.leaves < 2 ^ 63 = omega (arith, c.requires.few) in
    let room : c.compares.result ≡ compared 0 0 Lt (pos (4 * c.args.leaves)) = c.compares.ensures ∙ ap (compared 0 0 Lt) (to_z_pos w64 (4 * c.args.leaves) small) in
    says_packed c.args.leaves c.requires.few (known c.args.cache.now) c.args.call.now c.requires.takes.object c.requires.takes.third c.requires.put c.requires.takes.fits c.requires.takes.fits_too c.args.found.directory.now c.args.found.number c.args.found.keys.now c.requires.at c.requires.crowded c.requires.free keys_known c.requires.part c.add_item-2.new.items.items c.in_ok-updates.updates.items values_known
    (c.in_ok-add_item-2.ensures ∙ ap (λ (is : List Item). is ++ c.compares.result ∷ []) third ∙ ap (λ (x : Item). ((Seen 1 ∷ KS) ++ VS) ++ x ∷ []) room
    ∙ append_assoc (Seen 1 ∷ KS) VS (compared 0 0 Lt (pos (4 * c.args.leaves)) ∷ []))
    (c.in_ok-updates.ensures ∙ ap (packed_updates c.args.leaves) rows)
