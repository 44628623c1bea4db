use Rattle.std.proofs.Common.{◌≡◌, ℕ, ℤ, List, true, false, ap, sym, ◌∙◌, w64, to_z, of_z}
use Rattle.sto_model.specs.Rows.{Row}
use Rattle.sto_type.specs.Known.{Known, known}
use Rattle.sto_tree.specs.Layout.{key_part}
use Rattle.sto_tree.specs.Between.{meets}
use Rattle.sto_tree.specs.KnownRows.{known_values, with_part}
use Rattle.sto_tree.proofs.LeafRows.{leaf_met, leaf_apart}
use Rattle.sto_tree.proofs.range.known_rows.Goals.{then-meets+in_ok-add_leaf, else-meets}
use Rattle.sto_tree.proofs.range.known_rows.Goals as goal

pub loop-leaf-preserved : goal.loop-leaf-preserved
loop-leaf-preserved c =
    let k : Known = known c.args.cache.now in
    let dir : List ℤ = c.args.directory.now in
    let a : ℤ = to_z w64 (of_z w64 c.args.from) in
    let b : ℤ = to_z w64 (of_z w64 c.args.to) in
    let l : ℕ = c.loop-leaf.leaf in
    elim c.if-meets.branch [
      | then-meets+in_ok-add_leaf w ↦
          let met : meets dir a b l ≡ true = sym c.meets.ensures ∙ w.if-meets.true in
          ap (λ r. r.items) w.rows-is ∙ w.in_ok-add_leaf.ensures ∙ ap (λ (rows : List Row). with_part rows (k (key_part l)) (known_values k l)) c.loop-leaf.invariant ∙ sym (leaf_met k dir a b l met)
      | else-meets w ↦
          let apart : meets dir a b l ≡ false = sym c.meets.ensures ∙ w.if-meets.false in
          ap (λ r. r.items) w.rows-is ∙ c.loop-leaf.invariant ∙ sym (leaf_apart k dir a b l apart)
    ]
