use Rattle.std.proofs.Common.{◌≡◌, ◌+◌, ℕ, suc, ℤ, List, ap, sym, ◌∙◌, subst, arith, w64, to_z, of_z}
use Rattle.std.specs.Int.RustNames.{FitsSigned}
use Rattle.std.proofs.lemmas.Int.{to_z-of_z}
use Rattle.sto_type.specs.Known.{Known, known}
use Rattle.sto_tree.specs.KnownCount.{counted_leaf, known_count}
use Rattle.sto_tree.proofs.count.known_count.Goals as goal

pub loop-leaf-preserved : goal.loop-leaf-preserved
loop-leaf-preserved c =
    let k : Known = known c.args.cache.now in
    let dir : List ℤ = c.args.directory.now in
    let a : ℤ = to_z w64 (of_z w64 c.args.from) in
    let b : ℤ = to_z w64 (of_z w64 c.args.to) in
    let n : ℕ = c.loop-leaf.leaf in
    let e : n + 1 ≡ suc n = omega arith in
    let now : c.loop-leaf.found ≡ known_count n k dir a b = c.loop-leaf.invariant.0 in
    let one : c.count_leaf-found.result ≡ counted_leaf k dir a b n = c.count_leaf-found.ensures.count in
    let more : c.loop-leaf.found + c.count_leaf-found.result ≡ counted_leaf k dir a b n + known_count n k dir a b = omega (arith, now, one) in (
      more ∙ ap (λ (x : ℕ). known_count x k dir a b) (sym e),
      omega (arith, c.loop-leaf.invariant.1, c.count_leaf-found.ensures.few),
    )

pub returns : goal.returns
returns c =
    let f : FitsSigned w64 c.args.from = c.ranges.from in
    let g : FitsSigned w64 c.args.to = c.ranges.to in
    let invariant = simp to_z-of_z at c.loop-leaf.invariant.0 in
    let end : c.loop-leaf.leaf ≡ c.args.leaves = omega arith in
    subst (λ (n : ℕ). c.loop-leaf.found ≡ known_count n (known c.args.cache.now) c.args.directory.now c.args.from c.args.to) end invariant
