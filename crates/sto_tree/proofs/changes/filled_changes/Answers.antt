use Rattle.std.proofs.Common.{◌≡◌, ◌+◌, ℕ, [], ◌∷◌, ◌++◌, length, refl, ap, sym, ◌∙◌, arith, length-append}
use Rattle.sto_part.specs.declared.change.Change.{Change}
use Rattle.sto_tree.specs.Said.{in_pairs}
use Rattle.sto_tree.specs.Sized.{in_pairs_more}
use Rattle.sto_tree.specs.Repack.{filled, rows_of_leaf}
use Rattle.sto_tree.proofs.changes.filled_changes.Goals as goal

pub loop-place-preserved : goal.loop-place-preserved
loop-place-preserved c =
    let f : ℕ → Change × Change = filled (rows_of_leaf c.args.rows.now.items c.args.leaf) in
    let i : ℕ = c.loop-place.place in
    let pair : c.filled_pair.result ≡ f i = c.filled_pair.ensures in
    let g : i ≡ 0 + i = omega arith in
    let pushed : c.push_pair.new.update.items ≡ c.loop-place.update.items ++ (c.filled_pair.result.0 ∷ c.filled_pair.result.1 ∷ []) = c.in_ok-push_pair.ensures in
    record {
      items =
          pushed ∙ ap (λ l. l ++ (c.filled_pair.result.0 ∷ c.filled_pair.result.1 ∷ [])) c.loop-place.invariant.items
          ∙ ap (λ (u : Change × Change). in_pairs f 0 i ++ (u.0 ∷ u.1 ∷ [])) pair
          ∙ ap (λ (x : ℕ). in_pairs f 0 i ++ ((f x).0 ∷ (f x).1 ∷ [])) g
          ∙ sym (in_pairs_more f 0 i (i + 1) refl);
      few = omega (arith, ap length pushed, length-append c.loop-place.update.items (c.filled_pair.result.0 ∷ c.filled_pair.result.1 ∷ []), c.loop-place.invariant.few);
    }
