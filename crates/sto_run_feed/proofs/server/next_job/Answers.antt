use Rattle.std.proofs.Common.{◌≡◌, ◌+◌, sym, subst}
use Rattle.std.specs.Prelude.{Some, slice_get}
use Rattle.sto_run_feed.specs.declared.known.Known.{Known}
use Rattle.sto_run_feed.specs.Queues.{working}
use Rattle.sto_run_feed.specs.Passes.{IsPass}
use Rattle.sto_run_feed.proofs.server.next_job.Goals as goal

pub loop-init : goal.loop-init
loop-init g c = record { pass = subst (IsPass c.args.queue.now c.args.worker.now) (sym c.requires.of.known) c.requires.of }

pub take-requires : goal.take-requires
take-requires g c =
    let p = c.loop.invariant.pass in
    record {
      of = subst (λ (v : Known). IsPass c.args.queue.now c.loop.worker (working v.jobs v.taken)) (sym p.known)
          (subst (IsPass c.args.queue.now c.loop.worker) c.requires.of.known p);
    }

pub returns-in-Some-take-clause-next : goal.returns-in-Some-take-clause-next
returns-in-Some-take-clause-next g c = subst (λ (v : Known). slice_get v.jobs v.taken ≡ Some c.in-Some-take.job) c.loop.invariant.pass.known c.in-Some-take.ensures.some.0

pub returns-in-Some-take-clause-taken : goal.returns-in-Some-take-clause-taken
returns-in-Some-take-clause-taken g c =
    subst (λ (v : Known). IsPass c.args.queue.now c.take.new.worker (working v.jobs (v.taken + 1))) c.loop.invariant.pass.known c.in-Some-take.ensures.some.1

pub loop-preserved : goal.loop-preserved
loop-preserved g c = record { pass = subst (IsPass c.args.queue.now c.take.new.worker) c.loop.invariant.pass.known c.in_default.ensures.none.1 }
