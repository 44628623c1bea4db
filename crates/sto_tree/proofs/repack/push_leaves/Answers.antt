use Rattle.std.proofs.Common.{◌≡◌, ◌<◌, ℕ, List, [], ◌∷◌, ◌++◌, ap, sym, ◌∙◌, subst, arith, append_assoc}
use Rattle.sto_item.specs.Pending.{Entry, AreUpdates}
use Rattle.sto_model.specs.Rows.{Row}
use Rattle.sto_tree.specs.Repack.{rows_of_leaf, row_values, packed_leaves}
use Rattle.sto_tree.proofs.Adding.{leaf_keys, leaf_updates, keys_entry, leaves_more, keys_ordered, values_ordered}
use Rattle.sto_tree.proofs.repack.push_leaves.Goals as goal

pub push_update-requires : goal.push_update-requires
push_update-requires c =
    let rows : List Row = c.args.rows.now.items in
    let n : ℕ = c.loop-leaf.leaf in
    let old : List Entry = c.args.updates.now.items in
    let h : n < c.args.leaves = omega (arith, c.loop-leaf-test.true) in
    let entry : (c.key_part.result, c.in_ok-keys.keys.items) ≡ leaf_keys rows n = keys_entry rows n c.key_part.result c.in_ok-keys.keys.items c.key_part.ensures c.in_ok-keys.ensures in
    subst AreUpdates
    (ap (λ (es : List Entry). es ++ leaf_keys rows n ∷ []) (sym c.loop-leaf.invariant) ∙ ap (λ (e : Entry). c.loop-leaf.updates.items ++ e ∷ []) (sym entry))
    (keys_ordered old rows n c.args.leaves h c.requires.ordered)

pub push_values-requires-clause-ordered : goal.push_values-requires-clause-ordered
push_values-requires-clause-ordered c =
    let rows : List Row = c.args.rows.now.items in
    let n : ℕ = c.loop-leaf.leaf in
    let old : List Entry = c.args.updates.now.items in
    let h : n < c.args.leaves = omega (arith, c.loop-leaf-test.true) in
    let entry : (c.key_part.result, c.in_ok-keys.keys.items) ≡ leaf_keys rows n = keys_entry rows n c.key_part.result c.in_ok-keys.keys.items c.key_part.ensures c.in_ok-keys.ensures in
    let pushed : c.push_update.new.updates.items ≡ (old ++ packed_leaves rows 0 n) ++ leaf_keys rows n ∷ [] =
    c.in_ok-push_update.ensures ∙ ap (λ (es : List Entry). es ++ (c.key_part.result, c.in_ok-keys.keys.items) ∷ []) c.loop-leaf.invariant ∙ ap (λ (e : Entry). (old ++ packed_leaves rows 0 n) ++ e ∷ []) entry in
    subst (λ (es : List Entry). AreUpdates (es ++ row_values n 0 (rows_of_leaf rows n))) (sym pushed) (values_ordered old rows n c.args.leaves h c.requires.ordered)

pub loop-leaf-preserved : goal.loop-leaf-preserved
loop-leaf-preserved c =
    let rows : List Row = c.args.rows.now.items in
    let n : ℕ = c.loop-leaf.leaf in
    let old : List Entry = c.args.updates.now.items in
    let h : n < c.args.leaves = omega (arith, c.loop-leaf-test.true) in
    let entry : (c.key_part.result, c.in_ok-keys.keys.items) ≡ leaf_keys rows n = keys_entry rows n c.key_part.result c.in_ok-keys.keys.items c.key_part.ensures c.in_ok-keys.ensures in
    let pushed : c.push_update.new.updates.items ≡ (old ++ packed_leaves rows 0 n) ++ leaf_keys rows n ∷ [] =
    c.in_ok-push_update.ensures ∙ ap (λ (es : List Entry). es ++ (c.key_part.result, c.in_ok-keys.keys.items) ∷ []) c.loop-leaf.invariant ∙ ap (λ (e : Entry). (old ++ packed_leaves rows 0 n) ++ e ∷ []) entry in
    let values : List Entry = row_values n 0 (rows_of_leaf rows n) in
    c.in_ok-push_values.ensures ∙ ap (λ (es : List Entry). es ++ values) pushed ∙ append_assoc (old ++ packed_leaves rows 0 n) (leaf_keys rows n ∷ []) values
    ∙ append_assoc old (packed_leaves rows 0 n) (leaf_updates rows n) ∙ ap (λ (es : List Entry). old ++ es) (sym (leaves_more rows n))
