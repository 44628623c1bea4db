use Rattle.std.proofs.Common.{◌≡◌, ◌+◌, ℕ, [], ◌∷◌, ◌++◌, length, refl, ap, sym, ◌∙◌, arith}
use Rattle.sto_tree.specs.Layout.{listed, key_part}
use Rattle.sto_tree.specs.Sized.{length-listed}
use Rattle.sto_tree.proofs.Adding.{listed_more}
use Rattle.sto_tree.proofs.repack.key_parts.Goals as goal

pub push-requires : goal.push-requires
push-requires c = omega (arith, ap length c.loop-leaf.invariant, length-listed key_part 0 c.loop-leaf.leaf, c.requires, c.loop-leaf-test.true)

pub loop-leaf-preserved : goal.loop-leaf-preserved
loop-leaf-preserved c =
    let n : ℕ = c.loop-leaf.leaf in
    let g : n ≡ 0 + n = omega arith in
    c.in_ok-push.ensures.ok ∙ ap (λ l. l ++ c.key_part.result ∷ []) c.loop-leaf.invariant ∙ ap (λ (p : ℕ). listed key_part 0 n ++ p ∷ []) c.key_part.ensures
    ∙ ap (λ (x : ℕ). listed key_part 0 n ++ key_part x ∷ []) g ∙ sym (listed_more key_part 0 n (n + 1) refl)
