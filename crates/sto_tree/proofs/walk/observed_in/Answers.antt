use Rattle.std.proofs.Common.{◌≡◌, ◌+◌, ◌<◌, ℕ, ℤ, None, List, ◌∷◌, ◌++◌, ◌≤◌, length, drop, get_or, ap, sym, ◌∙◌, arith, w64, to_z, of_z}
use Rattle.std.specs.Int.RustNames.{FitsSigned}
use Rattle.std.proofs.lemmas.Int.{to_z-of_z}
use Rattle.std.proofs.lemmas.List.{at_drop_more, at_drop_all}
use Rattle.sto_item.specs.declared.item.Item.{Item}
use Rattle.sto_type.specs.Known.{Known, known}
use Rattle.sto_type.specs.Reading.{need_of, items_of}
use Rattle.sto_tree.specs.Between.{between_each}
use Rattle.sto_tree.specs.Walked.{leaf_need, leaf_observed}
use Rattle.sto_tree.proofs.Leaves.{keys_wide}
use Rattle.sto_tree.proofs.Walks.{leaf_none, leaf_need_past, leaf_items_past}
use Rattle.sto_tree.proofs.walk.observed_in.Goals as goal

pub see_leaf-requires-clause-keys : goal.see_leaf-requires-clause-keys
see_leaf-requires-clause-keys c ks e =
    keys_wide c.args.leaves (known c.args.cache.now) (get_or c.args.listed.now c.loop-leaf.leaf-index 0) ks (c.requires.below c.loop-leaf.leaf-index (omega (arith, c.loop-leaf-test.true))) c.requires.part e

pub see_leaf-requires-clause-need : goal.see_leaf-requires-clause-need
see_leaf-requires-clause-need c =
    let k : Known = known c.args.cache.now in
    let dir : List ℤ = c.args.directory.now in
    let a : ℤ = to_z w64 (of_z w64 c.args.from) in
    let b : ℤ = to_z w64 (of_z w64 c.args.to) in
    let n : ℕ = c.loop-leaf.leaf-index in
    let ls : List ℕ = c.args.listed.now in
    let is : List Item = c.loop-leaf.items.items in
    let h : n < length ls = omega (arith, c.loop-leaf-test.true) in
    sym (leaf_none k c.args.scans dir a b (get_or ls n 0) (drop (n + 1) ls) is
    (sym (at_drop_more (λ xs. need_of (between_each c.args.scans dir a b xs is) k) ls n 0 h) ∙ c.loop-leaf.invariant.need))

pub loop-leaf-preserved : goal.loop-leaf-preserved
loop-leaf-preserved c =
    let k : Known = known c.args.cache.now in
    let dir : List ℤ = c.args.directory.now in
    let a : ℤ = to_z w64 (of_z w64 c.args.from) in
    let b : ℤ = to_z w64 (of_z w64 c.args.to) in
    let n : ℕ = c.loop-leaf.leaf-index in
    let ls : List ℕ = c.args.listed.now in
    let l : ℕ = get_or ls n 0 in
    let rest : List ℕ = drop (n + 1) ls in
    let is : List Item = c.loop-leaf.items.items in
    let h : n < length ls = omega (arith, c.loop-leaf-test.true) in
    let here : need_of (between_each c.args.scans dir a b (l ∷ rest) is) k ≡ None = sym (at_drop_more (λ xs. need_of (between_each c.args.scans dir a b xs is) k) ls n 0 h) ∙ c.loop-leaf.invariant.need in
    let none : None ≡ leaf_need k c.args.scans dir a b l = leaf_none k c.args.scans dir a b l rest is here in
    let more : c.see_leaf.new.items.items ≡ is ++ leaf_observed k c.args.scans dir a b l = c.in_ok-see_leaf.ensures in
    record {
      need = ap (λ (js : List Item). need_of (between_each c.args.scans dir a b rest js) k) more ∙ sym (leaf_need_past k c.args.scans dir a b l rest is none) ∙ here;
      items =
          c.loop-leaf.invariant.items ∙ at_drop_more (λ xs. items_of (between_each c.args.scans dir a b xs is) k) ls n 0 h
          ∙ leaf_items_past k c.args.scans dir a b l rest is none ∙ ap (λ (js : List Item). items_of (between_each c.args.scans dir a b rest js) k) (sym more);
    }

pub returns : goal.returns
returns c =
    let k : Known = known c.args.cache.now in
    let n : ℕ = c.loop-leaf.leaf-index in
    let ls : List ℕ = c.args.listed.now in
    let ff : FitsSigned w64 c.args.from = c.ranges.from in
    let ft : FitsSigned w64 c.args.to = c.ranges.to in
    let h : length ls ≤ n = omega (arith, c.loop-leaf-test.false) in
    let items = simp to_z-of_z at c.loop-leaf.invariant.items in
    sym (items ∙ at_drop_all (λ xs. items_of (between_each c.args.scans c.args.directory.now c.args.from c.args.to xs c.loop-leaf.items.items) k) ls n h)
