use Rattle.std.proofs.Common.{◌≡◌, ℕ, ℤ, Some, sym, ap, ◌∙◌, subst, if◌then◌else◌, w64}
use Rattle.std.specs.Int.RustNames.{FitsSigned}
use Rattle.std.proofs.lemmas.Int.{to_z-of_z}
use Rattle.sto_type.specs.Known.{Known, known}
use Rattle.sto_tree.specs.Layout.{key_part}
use Rattle.sto_tree.specs.KnownCount.{counted_part}
use Rattle.sto_tree.proofs.Leaves.{keys_wide}
use Rattle.sto_tree.proofs.count.count_leaf.Goals as goal

pub count_keys-requires : goal.count_keys-requires
count_keys-requires c =
    let k : Known = known c.args.cache.now in
    keys_wide c.args.leaves k c.args.leaf c.in-Some.keys.now c.requires.below c.requires.part (subst (λ (p : ℕ). k p ≡ Some c.in-Some.keys.now) c.key_part.ensures c.in-Some.ensures)

pub returns-clause-count : goal.returns-clause-count
returns-clause-count c =
    let k : Known = known c.args.cache.now in
    let l : ℕ = c.args.leaf in
    let a : ℤ = c.args.from in
    let b : ℤ = c.args.to in
    let f : FitsSigned w64 c.args.from = c.ranges.from in
    let g : FitsSigned w64 c.args.to = c.ranges.to in
    let met = simp to_z-of_z at (sym c.meets.ensures ∙ c.if-not-meets.false) in
    let there : k (key_part l) ≡ Some c.in-Some.keys.now = subst (λ (p : ℕ). k p ≡ Some c.in-Some.keys.now) c.key_part.ensures c.in-Some.ensures in
    let count = simp to_z-of_z at c.count_keys.ensures.count in
    count ∙ sym (ap (λ u. if u then counted_part (k (key_part l)) a b else 0) met ∙ ap (λ o. counted_part o a b) there)
