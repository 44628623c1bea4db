use Rattle.std.proofs.Common.{arith, length-drop, ℕ, ◌∙◌, take, drop}
use Rattle.std.proofs.Math.Seq.{take-add}
use Rattle.sto_console.proofs.ToldLemmas.{gains_more, rest_is}
use Rattle.sto_console.proofs.whole.write_all.Goals as goal

pub loop-at-preserved : goal.loop-at-preserved
loop-at-preserved g c =
    let n : ℕ = c.in_ok-at.field-0 in (
      omega (arith, c.in_ok-at.ensures.count, length-drop {A = ℕ}),
      rw take-add (gains_more _ _ _ (take c.loop-at.at c.args.bytes.now) (take n (drop c.loop-at.at c.args.bytes.now)) c.loop-at.invariant.1 (rw rest_is at c.in_ok-at.ensures.gained)),
      c.in_ok-at.ensures.steady ∙ c.loop-at.invariant.2,
    )
