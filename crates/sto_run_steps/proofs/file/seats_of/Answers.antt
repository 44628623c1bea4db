use Rattle.std.proofs.Common.{◌≡◌, ℕ, List, [], ◌∷◌, ◌++◌, length, sym, ap, ◌∙◌, subst, arith}
use Rattle.sto_run_threads.proofs.Claiming.{snoc_length}
use Rattle.sto_run_steps.specs.Seated.{IsNew, AreNew}
use Rattle.sto_run_steps.specs.declared.seat.Seat.{Seat}
use Rattle.sto_run_steps.proofs.Opening.{new_more}
use Rattle.sto_run_steps.proofs.file.seats_of.Goals as goal

pub loop-thread-preserved : goal.loop-thread-preserved
loop-thread-preserved g c =
    let plan = g.W.Work.plan c.args.work.now in
    let seats = c.loop-thread.seats.items in
    let pushed : c.push.new.self.items ≡ seats ++ c.new.result ∷ [] = c.in-Ok-push.ensures.items in
    let long = ap length pushed ∙ snoc_length seats c.new.result in
    let many = c.loop-thread.invariant.many in
    let new : IsNew {M = g.row.M.Denot} c.count_of.result plan.tries c.new.result = subst (λ (n : ℕ). IsNew {M = g.row.M.Denot} c.count_of.result n c.new.result) c.most_tries-tries.ensures c.new.ensures in
    record {
      many = omega (arith, long, many);
      begun = subst (λ (l : List (Seat g.row.M.Denot)). AreNew plan l) (sym pushed)
          (new_more plan c.loop-thread.thread c.count_of.result seats c.new.result many c.count_of.ensures c.loop-thread.invariant.begun new);
    }
