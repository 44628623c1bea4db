use Rattle.std.proofs.Common.{rules, ◌≡◌, ◌+◌, ◌-◌, ℕ, max, subst, arith}
use Rattle.sto_type.specs.Traits.{of_type}
use Rattle.sto_library.specs.Doings.{HasGiven}
use Rattle.sto_library.proofs.Doings.{RanTimes, ran_none, ran_once_more, given_more, given_in_vain}
use Rattle.sto_library.proofs.times.TimesTask.work.Goals as goal

pub loop-turn-init : goal.loop-turn-init
loop-turn-init g c = record { ran = ran_none (of_type g.T.Naming g.T.TxType) _ _ _; within = omega arith }

pub loop-turn-preserved : goal.loop-turn-preserved
loop-turn-preserved g c =
    let low = c.loop-turn.auto._turn in let more = c.loop-turn-test.true in
    let next : c.loop-turn._turn - 1 + 1 ≡ c.loop-turn._turn + 1 - 1 = omega (arith, low) in
    record {
      ran = subst (λ (n : ℕ). RanTimes (of_type g.T.Naming g.T.TxType) c.args.worker.now c.run-told.new.self n (g.K.Action.most c.args.self.now.1) (g.K.Action.does c.args.self.now.1)) next
          (ran_once_more (of_type g.T.Naming g.T.TxType) c.loop-turn.invariant.ran (search rules) c.run-told.ensures.given);
      within = omega (arith, more);
    }

pub returns-then-is_err-clause-gives : goal.returns-then-is_err-clause-gives
returns-then-is_err-clause-gives g c =
    let low = c.loop-turn.auto._turn in let more = c.loop-turn-test.true in
    given_in_vain (of_type g.T.Naming g.T.TxType) (omega (arith, low, more)) (search rules)
    (given_more (of_type g.T.Naming g.T.TxType) c.loop-turn.invariant.ran.0 c.loop-turn.invariant.ran.1 c.run-told.ensures.given)

pub returns-clause-gives : goal.returns-clause-gives
returns-clause-gives g c =
    let low = c.loop-turn.auto._turn in let high = c.loop-turn.invariant.within in
    let all : c.loop-turn._turn - 1 + 1 ≡ max c.args.self.now.0 1 = omega (arith, low, high, c.loop-turn-test.false) in
    subst (λ (n : ℕ). HasGiven (of_type g.T.Naming g.T.TxType) c.args.worker.now c.run.new.self n (g.K.Action.most c.args.self.now.1) (g.K.Action.does c.args.self.now.1) c.run.result) all
    (given_more (of_type g.T.Naming g.T.TxType) c.loop-turn.invariant.ran.0 c.loop-turn.invariant.ran.1 c.run.ensures.given)
