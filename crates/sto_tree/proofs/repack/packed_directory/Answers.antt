use Rattle.std.proofs.Common.{◌≡◌, ◌+◌, ℕ, [], ◌∷◌, ◌++◌, length, refl, ap, sym, ◌∙◌, arith, length-append}
use Rattle.sto_part.specs.declared.change.Change.{Change}
use Rattle.sto_tree.specs.Split.{in_threes}
use Rattle.sto_tree.proofs.Adding.{in_threes_more}
use Rattle.sto_tree.specs.Repack.{packed_ranges}
use Rattle.sto_tree.proofs.repack.packed_directory.Goals as goal

pub loop-leaf-preserved : goal.loop-leaf-preserved
loop-leaf-preserved c =
    let f : ℕ → Change × Change × Change = packed_ranges c.args.rows.now.items in
    let i : ℕ = c.loop-leaf.leaf in
    let three : c.range_of.result ≡ f i = c.range_of.ensures in
    let g : i ≡ 0 + i = omega arith in
    let pushed : c.push_three.new.update.items ≡ c.loop-leaf.update.items ++ (c.range_of.result.0 ∷ c.range_of.result.1 ∷ c.range_of.result.2 ∷ []) = c.in_ok-push_three.ensures in
    record {
      items =
          pushed ∙ ap (λ l. l ++ (c.range_of.result.0 ∷ c.range_of.result.1 ∷ c.range_of.result.2 ∷ [])) c.loop-leaf.invariant.items
          ∙ ap (λ (u : Change × Change × Change). in_threes f 0 i ++ (u.0 ∷ u.1 ∷ u.2 ∷ [])) three
          ∙ ap (λ (x : ℕ). in_threes f 0 i ++ ((f x).0 ∷ (f x).1 ∷ (f x).2 ∷ [])) g
          ∙ sym (in_threes_more f 0 i (i + 1) refl);
      few = omega (arith, ap length pushed, length-append c.loop-leaf.update.items (c.range_of.result.0 ∷ c.range_of.result.1 ∷ c.range_of.result.2 ∷ []), c.loop-leaf.invariant.few);
    }
