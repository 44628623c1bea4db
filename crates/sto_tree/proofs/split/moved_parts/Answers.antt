use Rattle.std.proofs.Common.{◌≡◌, ◌+◌, ℕ, suc, Bool, true, false, List, [], ◌∷◌, ◌++◌, length, ap, sym, ◌∙◌, subst, arith, length-append}
use Rattle.std.specs.Prelude.{if◌then◌else◌}
use Rattle.std.proofs.lemmas.List.{append-nil}
use Rattle.sto_tree.specs.Layout.{value_part}
use Rattle.sto_tree.specs.Split.{moves, moved_values}
use Rattle.sto_tree.proofs.split.moved_parts.Goals.{then-moves+in_ok-push, else-moves}
use Rattle.sto_tree.proofs.split.moved_parts.Goals as goal

pub loop-place-preserved : goal.loop-place-preserved
loop-place-preserved c =
    let n : ℕ = c.loop-place.place in
    let e : n + 1 ≡ suc n = omega arith in
    let before : List ℕ = moved_values c.args.leaf c.args.keys.now n in
    elim c.if-moves.branch [
      | then-moves+in_ok-push w ↦
          let t : moves c.args.keys.now n ≡ true = sym c.moves.ensures ∙ w.if-moves.true in
          let pushed : c.if-moves.parts.items ≡ c.loop-place.parts.items ++ w.value_part.result ∷ [] = ap (λ p. p.items) w.parts-is ∙ w.in_ok-push.ensures.ok in
          record {
            items =
                pushed ∙ ap (λ (ps : List ℕ). ps ++ w.value_part.result ∷ []) c.loop-place.invariant.items ∙ ap (λ (p : ℕ). before ++ p ∷ []) w.value_part.ensures
                ∙ sym (ap (moved_values c.args.leaf c.args.keys.now) e ∙ ap (λ (b : Bool). before ++ (if b then value_part c.args.leaf n ∷ [] else [])) t);
            few = omega (arith, ap length pushed, length-append c.loop-place.parts.items (w.value_part.result ∷ []), c.loop-place.invariant.few);
          }
      | else-moves w ↦
          let t : moves c.args.keys.now n ≡ false = sym c.moves.ensures ∙ w.if-moves.false in
          let kept : c.if-moves.parts.items ≡ c.loop-place.parts.items = ap (λ p. p.items) w.parts-is in
          record {
            items =
                kept ∙ c.loop-place.invariant.items
                ∙ sym (ap (moved_values c.args.leaf c.args.keys.now) e ∙ ap (λ (b : Bool). before ++ (if b then value_part c.args.leaf n ∷ [] else [])) t ∙ append-nil before);
            few = omega (arith, ap length kept, c.loop-place.invariant.few);
          }
    ]

pub returns : goal.returns
returns c =
    let end : c.loop-place.place ≡ 8 = omega arith in
    subst (λ (n : ℕ). c.loop-place.parts.items ≡ moved_values c.args.leaf c.args.keys.now n) end c.loop-place.invariant.items
