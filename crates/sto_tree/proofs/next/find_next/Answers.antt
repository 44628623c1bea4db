use Rattle.std.proofs.Common.{◌≡◌, ◌<◌, ◌≤◌, ◌+◌, ℕ, ℤ, Some, None, List, length, drop, get_or, ap, sym, ◌∙◌, subst, arith, rules, w64}
use Rattle.std.specs.Int.RustNames.{FitsSigned}
use Rattle.std.proofs.lemmas.Int.{to_z-of_z}
use Rattle.std.proofs.lemmas.List.{at_drop_more, at_drop_all}
use Rattle.sto_model.specs.Rows.{Row, least_from}
use Rattle.sto_type.specs.Known.{Known, known}
use Rattle.sto_tree.specs.Layout.{key_part}
use Rattle.sto_tree.specs.Between.{key_rows}
use Rattle.sto_tree.specs.Walked.{next_need, next_found}
use Rattle.sto_tree.proofs.Leaves.{keys_wide}
use Rattle.sto_tree.proofs.Walks.{next_stops, next_need_past, next_found_past}
use Rattle.sto_tree.proofs.next.find_next.Goals as goal

pub returns-in_default : goal.returns-in_default
returns-in_default c =
    let k : Known = known c.args.cache.now in
    let n : ℕ = c.loop-leaf.leaf-index in
    let ls : List ℕ = c.args.listed.now in
    let f : FitsSigned w64 c.args.key = c.ranges.key in
    let need = simp to_z-of_z at c.loop-leaf.invariant.need in
    let h : n < length ls = omega (arith, c.loop-leaf-test.true) in
    let none : k (key_part (get_or ls n 0)) ≡ None = subst (λ (p : ℕ). k p ≡ None) c.key_part-part.ensures c.in_default.ensures in
    need ∙ at_drop_more (next_need k c.args.key) ls n 0 h ∙ next_stops k c.args.key (get_or ls n 0) (drop (n + 1) ls) none ∙ ap Some (sym c.key_part-part.ensures)

pub key_rows-requires : goal.key_rows-requires
key_rows-requires c =
    let k : Known = known c.args.cache.now in
    let l : ℕ = get_or c.args.listed.now c.loop-leaf.leaf-index 0 in
    keys_wide c.args.leaves k l c.in-Some.keys.now (c.requires.below c.loop-leaf.leaf-index (omega (arith, c.loop-leaf-test.true))) c.requires.part
    (subst (λ (p : ℕ). k p ≡ Some c.in-Some.keys.now) c.key_part-part.ensures c.in-Some.ensures)

pub returns-in-Some-next_key : goal.returns-in-Some-next_key
returns-in-Some-next_key c =
    let k : Known = known c.args.cache.now in
    let n : ℕ = c.loop-leaf.leaf-index in
    let ls : List ℕ = c.args.listed.now in
    let f : FitsSigned w64 c.args.key = c.ranges.key in
    let need = simp to_z-of_z at c.loop-leaf.invariant.need in
    let found = simp to_z-of_z at c.loop-leaf.invariant.found in
    let h : n < length ls = omega (arith, c.loop-leaf-test.true) in
    let l : ℕ = get_or ls n 0 in
    let rest : List ℕ = drop (n + 1) ls in
    let ks : List ℤ = c.in-Some.keys.now in
    let there : k (key_part l) ≡ Some ks = subst (λ (p : ℕ). k p ≡ Some ks) c.key_part-part.ensures c.in-Some.ensures in
    let next = simp to_z-of_z at c.next_key.ensures in
    let g : FitsSigned w64 c.in-Some-next_key.found = search rules in
    let least : least_from (key_rows ks) c.args.key ≡ Some c.in-Some-next_key.found = sym (next ∙ ap (λ (rows : List Row). least_from rows c.args.key) c.in_ok-rows.ensures) ∙ c.in-Some-next_key.is in (
      need ∙ at_drop_more (next_need k c.args.key) ls n 0 h ∙ next_need_past k c.args.key l rest ks there (Some c.in-Some-next_key.found) least,
      ap Some (to_z-of_z w64 c.in-Some-next_key.found g) ∙ sym (found ∙ at_drop_more (next_found k c.args.key) ls n 0 h ∙ next_found_past k c.args.key l rest ks there (Some c.in-Some-next_key.found) least),
    )

pub returns : goal.returns
returns c =
    let k : Known = known c.args.cache.now in
    let n : ℕ = c.loop-leaf.leaf-index in
    let ls : List ℕ = c.args.listed.now in
    let f : FitsSigned w64 c.args.key = c.ranges.key in
    let need = simp to_z-of_z at c.loop-leaf.invariant.need in
    let found = simp to_z-of_z at c.loop-leaf.invariant.found in
    let h : length ls ≤ n = omega (arith, c.loop-leaf-test.false) in
    (need ∙ at_drop_all (next_need k c.args.key) ls n h, sym (found ∙ at_drop_all (next_found k c.args.key) ls n h))
