use Rattle.std.proofs.Common.{◌≡◌, ◌<◌, ◌+◌, ◌*◌, ℕ, List, [], ◌∷◌, ◌++◌, length, take, ap, sym, ◌∙◌, subst, arith, append_assoc, rules, w64, to_z, of_z}
use Rattle.std.specs.Int.RustNames.{FitsSigned}
use Rattle.std.proofs.lemmas.Int.{to_z-of_z}
use Rattle.sto_item.specs.Pending.{Entry, AreUpdates}
use Rattle.sto_model.specs.Rows.{Row}
use Rattle.sto_tree.specs.Said.{value_is}
use Rattle.sto_tree.specs.Repack.{rows_of_leaf, row_values}
use Rattle.sto_tree.specs.RowLists.{row_at}
use Rattle.sto_tree.proofs.Adding.{row_there, leaf_row, leaf_has_row, leaf_has_no_row, value_ordered, value_next, values_done, entry_is}
use Rattle.sto_tree.proofs.changes.push_values.Goals.{then-first-place+in_ok-value+in_ok-push_update, else-first-place}
use Rattle.sto_tree.proofs.changes.push_values.Goals as goal

pub push_update-requires : goal.push_update-requires
push_update-requires c =
    let rows : List Row = c.args.rows.now.items in
    let rs : List Row = rows_of_leaf rows c.args.chunk in
    let p : ℕ = c.loop-place.place in
    let old : List Entry = c.args.updates.now.items in
    let four : p < 4 = omega (arith, c.loop-place-test.true) in
    let inside : 4 * c.args.chunk + p < length rows = omega (arith, c.if-first-place.true, c.len.ensures) in
    let there : p < length rs = leaf_has_row rows c.args.chunk p four inside in
    let f : FitsSigned w64 c.get.result.now.1 = search rules in
    let row : row_at rs p ≡ c.get.result.now = leaf_row rows c.args.chunk p four ∙ row_there rows (4 * c.args.chunk + p) c.get.result.now c.get.ensures inside in
    let entry : (c.value_part.result, c.in_ok-value.value.items) ≡ value_is c.args.leaf p (row_at rs p).1 =
    entry_is c.args.leaf p c.value_part.result c.in_ok-value.value.items (to_z w64 (of_z w64 c.get.result.now.1)) c.get.result.now (row_at rs p) c.value_part.ensures c.in_ok-value.ensures (to_z-of_z w64 c.get.result.now.1 f) row in
    subst AreUpdates
    (ap (λ (es : List Entry). es ++ value_is c.args.leaf p (row_at rs p).1 ∷ []) (sym c.loop-place.invariant) ∙ ap (λ (e : Entry). c.loop-place.updates.items ++ e ∷ []) (sym entry))
    (value_ordered old c.args.leaf p rs there c.requires.ordered)

pub loop-place-preserved : goal.loop-place-preserved
loop-place-preserved c =
    let rows : List Row = c.args.rows.now.items in
    let rs : List Row = rows_of_leaf rows c.args.chunk in
    let p : ℕ = c.loop-place.place in
    let old : List Entry = c.args.updates.now.items in
    let four : p < 4 = omega (arith, c.loop-place-test.true) in
    elim c.if-first-place.branch [
      | then-first-place+in_ok-value+in_ok-push_update w ↦
          let inside : 4 * c.args.chunk + p < length rows = omega (arith, w.if-first-place.true, c.len.ensures) in
          let there : p < length rs = leaf_has_row rows c.args.chunk p four inside in
          let f : FitsSigned w64 w.get.result.now.1 = search rules in
          let row : row_at rs p ≡ w.get.result.now = leaf_row rows c.args.chunk p four ∙ row_there rows (4 * c.args.chunk + p) w.get.result.now w.get.ensures inside in
          let entry : (w.value_part.result, w.in_ok-value.value.items) ≡ value_is c.args.leaf p (row_at rs p).1 =
          entry_is c.args.leaf p w.value_part.result w.in_ok-value.value.items (to_z w64 (of_z w64 w.get.result.now.1)) w.get.result.now (row_at rs p) w.value_part.ensures w.in_ok-value.ensures (to_z-of_z w64 w.get.result.now.1 f) row in
          ap (λ u. u.items) w.updates-is ∙ w.in_ok-push_update.ensures ∙ ap (λ (es : List Entry). es ++ (w.value_part.result, w.in_ok-value.value.items) ∷ []) c.loop-place.invariant
          ∙ ap (λ (e : Entry). (old ++ row_values c.args.leaf 0 (take p rs)) ++ e ∷ []) entry
          ∙ append_assoc old (row_values c.args.leaf 0 (take p rs)) (value_is c.args.leaf p (row_at rs p).1 ∷ [])
          ∙ ap (λ (es : List Entry). old ++ es) (sym (value_next c.args.leaf p rs there))
      | else-first-place w ↦
          ap (λ u. u.items) w.updates-is ∙ c.loop-place.invariant
          ∙ ap (λ (es : List Entry). old ++ es) (sym (values_done c.args.leaf p rs (leaf_has_no_row rows c.args.chunk p (omega (arith, w.if-first-place.false, c.len.ensures)))))
    ]
