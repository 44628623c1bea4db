use Rattle.std.specs.Prelude.{◌⊎◌}
use Rattle.std.proofs.Common.{rules, refl, ◌≡◌, true, false, ◌∙◌, ap, arith, length, inl, inr}
use Rattle.sto_run_steps.specs.Seated.{events_of_all}
use Rattle.sto_run_steps.specs.Logged.{kept}
use Rattle.sto_run_steps.proofs.Seats.{round_more}
use Rattle.sto_run_steps.proofs.Turns.{round_turn}
use Rattle.sto_run_steps.proofs.stage.Stage.round.Goals as goal
use Rattle.sto_run_steps.proofs.stage.Stage.round.Goals.{then-moved, else-moved}

pub loop-thread-preserved : goal.loop-thread-preserved
loop-thread-preserved g c =
    let inv = c.loop-thread.invariant in
    let how : ((c.loop-thread.moved ≡ true) × (c.if-moved.moved ≡ true)) ⊎ ((c.loop-thread.moved ≡ false) × (c.if-moved.moved ≡ c.in_ok-made.made)) =
    elim c.if-moved.branch [
      | then-moved w ↦ inl (w.if-moved.true, w.moved-is ∙ w.if-moved.true)
      | else-moved w ↦ inr (w.if-moved.false, w.moved-is)
    ] in
    let k = round_more (events_of_all (g.W.Attempts.left c.args.work.now) (g.W.Attempts.most c.args.work.now)) c.if-moved.moved c.loop-thread.moved c.in_ok-made.made
    c.args.self.now.seats.items c.loop-thread.self.seats.items c.turn.new.self.seats.items c.loop-thread.thread inv.fewer inv.rest c.in_ok-made.ensures.made c.in_ok-made.ensures.over how in
    record {
      turns = record {
        turns = round_turn g.T.Naming.valid (g.W.Attempts.heard c.args.work.now) c.loop-thread.thread c.args.self.now.pass.cells.plain c.loop-thread.self.pass.cells.plain c.turn.new.self.pass.cells.plain c.args.self.now.seats.items c.loop-thread.self.seats.items c.turn.new.self.seats.items (kept c.args.self.now.log) (kept c.loop-thread.self.log) (kept c.turn.new.self.log)
            inv.turns.turns c.in_ok-made.ensures.turn;
        seated = c.in_ok-made.ensures.seated;
        many = c.in_ok-made.ensures.many ∙ inv.turns.many;
      };
      end = inv.end;
      fewer = k.0;
      rest = k.1;
    }

pub returns-clause-over : goal.returns-clause-over
returns-clause-over g c = λ still thread below s there.
    let inv = c.loop-thread.invariant in
    let rest = inv.rest still in
    let many = ap (λ l. length l) rest.0 in
    rest.1 thread (omega (arith, below, many, inv.end, c.loop-thread-test.false)) s (rw rest.0 at there)

pub loop-thread-init : goal.loop-thread-init
loop-thread-init g c = record {
  turns = record { turns = (refl, refl, refl); seated = c.requires.seated; many = refl };
  end = search rules;
  fewer = search rules;
  rest = search rules;
}

pub returns-clause-turns : goal.returns-clause-turns
returns-clause-turns g c =
    let was = c.loop-thread.invariant.turns in record {
      turns = search rules;
      seated = was.seated;
      many = was.many;
    }
