use Rattle.std.proofs.Common.{◌≡◌, ℕ, None, sym, ◌∙◌, subst, arith}
use Rattle.sto_tree.specs.Search.{first_below}
use Rattle.sto_tree.specs.Searches.{first_stop}
use Rattle.sto_tree.specs.Split.{moves}
use Rattle.sto_tree.proofs.split.first_moved.Goals as goal

pub returns-then-moves : goal.returns-then-moves
returns-then-moves c = sym (first_stop (moves c.args.keys.now) 8 c.loop-place.place c.loop-place.invariant (omega (arith, c.loop-place-test.true)) (sym c.moves.ensures ∙ c.if-moves.true))

pub returns : goal.returns
returns c =
    let end : c.loop-place.place ≡ 8 = omega arith in
    sym (subst (λ (n : ℕ). first_below (moves c.args.keys.now) n ≡ None) end c.loop-place.invariant)
