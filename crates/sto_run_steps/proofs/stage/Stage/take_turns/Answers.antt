use Rattle.std.proofs.Common.{refl, rules, ◌≡◌, ◌+◌, ℕ, List, false, replicate, sym, ◌∙◌, subst, arith}
use Rattle.sto_run_steps.specs.Seated.{IsOverAt}
use Rattle.sto_run_steps.specs.Logged.{kept}
use Rattle.sto_run_steps.specs.Turning.{HaveTurns}
use Rattle.sto_run_steps.specs.declared.seat.Seat.{Seat}
use Rattle.sto_run_steps.proofs.Turns.{entry_more, entry_over}
use Rattle.sto_run_steps.proofs.stage.Stage.take_turns.Goals as goal

pub loop-preserved : goal.loop-preserved
loop-preserved g c =
    let was = c.loop.invariant.turns in let next = c.in_ok-made in
    record {
      turns = record {
        turns = entry_more g.T.Naming.valid (g.W.Attempts.heard c.args.work.now) c.loop.counter c.args.turns.now.thread c.args.self.now.pass.cells.plain c.loop.self.pass.cells.plain c.turn.new.self.pass.cells.plain c.args.self.now.seats.items c.loop.self.seats.items c.turn.new.self.seats.items (kept c.args.self.now.log) (kept c.loop.self.log) (kept c.turn.new.self.log)
            was.turns next.ensures.turn;
        seated = next.ensures.seated;
        many = next.ensures.many ∙ was.many;
      };
    }

pub returns-then-not-made : goal.returns-then-not-made
returns-then-not-made g c =
    let off : c.in_ok-made.made ≡ false = search rules in
    let was = c.loop.invariant.turns in let next = c.in_ok-made in
    let over = next.ensures.over off in
    let thread = c.args.turns.now.thread in
    let within = c.loop-test.true in
    record {
      turns = record {
        turns = entry_over g.T.Naming.valid (g.W.Attempts.heard c.args.work.now) (c.loop.counter + 1) c.args.turns.now.steps thread c.args.self.now.pass.cells.plain c.turn.new.self.pass.cells.plain c.args.self.now.seats.items c.turn.new.self.seats.items (kept c.args.self.now.log) (kept c.turn.new.self.log) (omega (arith, within))
            (entry_more g.T.Naming.valid (g.W.Attempts.heard c.args.work.now) c.loop.counter thread c.args.self.now.pass.cells.plain c.loop.self.pass.cells.plain c.turn.new.self.pass.cells.plain c.args.self.now.seats.items c.loop.self.seats.items c.turn.new.self.seats.items (kept c.args.self.now.log) (kept c.loop.self.log) (kept c.turn.new.self.log) was.turns next.ensures.turn)
            (subst (λ (l : List (Seat g.row.M.Denot)). IsOverAt thread l) (sym over.0) over.1);
        seated = next.ensures.seated;
        many = next.ensures.many ∙ was.many;
      };
    }

pub returns : goal.returns
returns g c =
    let all : c.loop.counter ≡ c.args.turns.now.steps = omega arith in
    let was = c.loop.invariant.turns in record {
      turns = record {
        turns = subst (λ (n : ℕ). HaveTurns g.T.Naming.valid (g.W.Attempts.heard c.args.work.now) (replicate n c.args.turns.now.thread) c.args.self.now.pass.cells.plain c.args.self.now.seats.items (kept c.args.self.now.log) c.loop.self.pass.cells.plain c.loop.self.seats.items (kept c.loop.self.log)) all was.turns;
        seated = was.seated;
        many = was.many;
      };
    }

pub loop-init : goal.loop-init
loop-init g c = record { turns = record { turns = (refl, refl, refl); seated = c.requires.seated; many = refl } }
