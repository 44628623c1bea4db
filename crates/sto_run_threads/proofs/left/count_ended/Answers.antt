use Rattle.std.proofs.Common.{Bool, ap, ◌∙◌, arith}
use Rattle.std.specs.Prelude.{if◌then◌else◌}
use Rattle.sto_run_threads.proofs.Claiming.{ended_take}
use Rattle.sto_run_threads.proofs.left.count_ended.Goals as goal
use Rattle.sto_run_threads.proofs.left.count_ended.Goals.{then-has_ended, else-has_ended}

pub loop-record-preserved : goal.loop-record-preserved
loop-record-preserved c =
    let e = ended_take c.args.thread c.args.records.now c.loop-record.record-index c.record-item.result c.loop-record-test.true c.record-item.is in
    let was = c.loop-record.invariant.ended in let few = c.loop-record.invariant.few in
    elim c.if-has_ended.branch [
      | then-has_ended w ↦
          (let one = c.has_ended.ensures ∙ ap (λ (b : Bool). if b then 1 else 0) w.if-has_ended.true in let is = w.ended-is in
          record { ended = omega (arith, e, was, one, is); few = omega (arith, few, is) })
      | else-has_ended w ↦
          (let none = c.has_ended.ensures ∙ ap (λ (b : Bool). if b then 1 else 0) w.if-has_ended.false in let is = w.ended-is in
          record { ended = omega (arith, e, was, none, is); few = omega (arith, few, is) })
    ]
