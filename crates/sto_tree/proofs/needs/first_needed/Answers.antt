use Rattle.std.proofs.Common.{◌≡◌, ◌+◌, ◌<◌, ℕ, ℤ, None, List, ◌++◌, ◌≤◌, length, drop, get_or, sym, ◌∙◌, arith, w64, to_z, of_z}
use Rattle.std.specs.Int.RustNames.{FitsSigned}
use Rattle.std.proofs.lemmas.Int.{to_z-of_z}
use Rattle.std.proofs.lemmas.List.{at_drop_more, at_drop_all}
use Rattle.sto_item.specs.declared.item.Item.{Item}
use Rattle.sto_type.specs.Known.{Known, known}
use Rattle.sto_type.specs.Reading.{need_of}
use Rattle.sto_tree.specs.Between.{between_each}
use Rattle.sto_tree.specs.Walked.{leaf_need, leaf_observed}
use Rattle.sto_tree.proofs.Leaves.{keys_wide}
use Rattle.sto_tree.proofs.Walks.{leaf_stops, leaf_need_past}
use Rattle.sto_tree.proofs.needs.first_needed.Goals as goal

pub needed_in-requires-clause-keys : goal.needed_in-requires-clause-keys
needed_in-requires-clause-keys c ks e =
    keys_wide c.args.leaves (known c.args.cache.now) (get_or c.args.listed.now c.loop-leaf.leaf-index 0) ks (c.requires.below c.loop-leaf.leaf-index (omega (arith, c.loop-leaf-test.true))) c.requires.part e

pub returns-in-Some : goal.returns-in-Some
returns-in-Some c =
    let k : Known = known c.args.cache.now in
    let n : ℕ = c.loop-leaf.leaf-index in
    let ls : List ℕ = c.args.listed.now in
    let is : List Item = c.loop-leaf.invariant.0 in
    let ff : FitsSigned w64 c.args.from = c.ranges.from in
    let ft : FitsSigned w64 c.args.to = c.ranges.to in
    let h : n < length ls = omega (arith, c.loop-leaf-test.true) in
    let inv = simp to_z-of_z at c.loop-leaf.invariant.1 in
    let needs = simp to_z-of_z at c.in_ok-part.ensures in
    inv ∙ at_drop_more (λ xs. need_of (between_each c.args.scans c.args.directory.now c.args.from c.args.to xs is) k) ls n 0 h
    ∙ leaf_stops k c.args.scans c.args.directory.now c.args.from c.args.to (get_or ls n 0) (drop (n + 1) ls) is c.in-Some.part (sym (needs ∙ c.in-Some.is))

pub loop-leaf-preserved : goal.loop-leaf-preserved
loop-leaf-preserved c =
    let k : Known = known c.args.cache.now in
    let dir : List ℤ = c.args.directory.now in
    let a : ℤ = to_z w64 (of_z w64 c.args.from) in
    let b : ℤ = to_z w64 (of_z w64 c.args.to) in
    let n : ℕ = c.loop-leaf.leaf-index in
    let ls : List ℕ = c.args.listed.now in
    let l : ℕ = get_or ls n 0 in
    let is : List Item = c.loop-leaf.invariant.0 in
    let h : n < length ls = omega (arith, c.loop-leaf-test.true) in
    let none : None ≡ leaf_need k c.args.scans dir a b l = sym (c.in_ok-part.ensures ∙ c.in_default.is) in (
      is ++ leaf_observed k c.args.scans dir a b l,
      c.loop-leaf.invariant.1 ∙ at_drop_more (λ xs. need_of (between_each c.args.scans dir a b xs is) k) ls n 0 h
          ∙ leaf_need_past k c.args.scans dir a b l (drop (n + 1) ls) is none,
    )

pub returns : goal.returns
returns c =
    let k : Known = known c.args.cache.now in
    let n : ℕ = c.loop-leaf.leaf-index in
    let ls : List ℕ = c.args.listed.now in
    let ff : FitsSigned w64 c.args.from = c.ranges.from in
    let ft : FitsSigned w64 c.args.to = c.ranges.to in
    let h : length ls ≤ n = omega (arith, c.loop-leaf-test.false) in
    let need = simp to_z-of_z at c.loop-leaf.invariant.1 in
    need ∙ at_drop_all (λ xs. need_of (between_each c.args.scans c.args.directory.now c.args.from c.args.to xs c.loop-leaf.invariant.0) k) ls n h
