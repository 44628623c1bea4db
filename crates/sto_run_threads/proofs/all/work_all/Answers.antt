use Rattle.std.proofs.Common.{arith, inl, inr}
use Rattle.sto_run_threads.proofs.Claiming.{was_claimed}
use Rattle.sto_run_threads.specs.Plans.{draws_of}
use Rattle.sto_run_threads.proofs.all.work_all.Goals as goal

pub returns-clause-done : goal.returns-clause-done
returns-clause-done g c = λ thread low.
    let f = c.in_ok-rest.ensures.team.finished in
    elim (f.done thread low) [
      | inl none ↦ absurd (was_claimed c.in_ok-rest.field-0.claimer.seat.me.0.numbers c.close_claims.result c.close_claims.ensures f.last thread (let a = f.past in omega (arith, a, low)) f.found none)
      | inr is ↦ is
    ]

pub returns-clause-worked : goal.returns-clause-worked
returns-clause-worked g c =
    let team = c.in_ok-rest.ensures.team in record {
      made = team.finished.made;
      gathered = c.in_ok-workers.ensures.gathered (draws_of (g.W.Work.plan c.args.work.now)) _ _ team.gathered;
      alone = team.finished.alone;
    }

pub returns-clause-in_turn : goal.returns-clause-in_turn
returns-clause-in_turn g c = λ one. c.in_ok-rest.ensures.team.in_turn (let m = c.in_ok-workers.ensures.many in omega (arith, one, m))
