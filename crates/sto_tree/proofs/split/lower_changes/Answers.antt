use Rattle.std.proofs.Common.{◌≡◌, ◌+◌, ℕ, pos, Bool, [], ◌∷◌, ◌++◌, length, refl, ap, sym, ◌∙◌, subst, arith, length-append}
use Rattle.std.specs.Prelude.{if◌then◌else◌}
use Rattle.sto_part.specs.declared.change.Change.{Change}
use Rattle.sto_part.specs.declared.change.Change.TheVariants.{Put, Keep}
use Rattle.sto_tree.specs.Said.{in_pairs}
use Rattle.sto_tree.specs.Sized.{in_pairs_more}
use Rattle.sto_tree.specs.Split.{moves}
use Rattle.sto_tree.proofs.split.lower_changes.Goals as goal

pub loop-place-preserved : goal.loop-place-preserved
loop-place-preserved c =
    let f : ℕ → Change × Change = λ j. if moves c.args.keys.now j then (Put (pos 0), Keep) else (Keep, Keep) in
    let i : ℕ = c.loop-place.place in
    let pair : c.lower_pair.result ≡ f i = c.lower_pair.ensures ∙ ap {B = Change × Change} (λ (b : Bool). if b then (Put (pos 0), Keep) else (Keep, Keep)) c.moves.ensures in
    let g : i ≡ 0 + i = omega arith in
    let pushed : c.push_pair.new.update.items ≡ c.loop-place.update.items ++ (c.lower_pair.result.0 ∷ c.lower_pair.result.1 ∷ []) = c.in_ok-push_pair.ensures in
    record {
      items =
          pushed ∙ ap (λ l. l ++ (c.lower_pair.result.0 ∷ c.lower_pair.result.1 ∷ [])) c.loop-place.invariant.items
          ∙ ap (λ (u : Change × Change). in_pairs f 0 i ++ (u.0 ∷ u.1 ∷ [])) pair
          ∙ ap (λ (x : ℕ). in_pairs f 0 i ++ ((f x).0 ∷ (f x).1 ∷ [])) g
          ∙ sym (in_pairs_more f 0 i (i + 1) refl);
      few = omega (arith, ap length pushed, length-append c.loop-place.update.items (c.lower_pair.result.0 ∷ c.lower_pair.result.1 ∷ []), c.loop-place.invariant.few);
    }

pub returns : goal.returns
returns c =
    let end : c.loop-place.place ≡ 8 = omega arith in
    subst (λ (n : ℕ). c.loop-place.update.items ≡ in_pairs (λ j. if moves c.args.keys.now j then (Put (pos 0), Keep) else (Keep, Keep)) 0 n) end c.loop-place.invariant.items
