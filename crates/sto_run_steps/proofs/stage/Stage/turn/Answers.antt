use Rattle.std.proofs.Common.{ℕ, length, true≢false, refl, sym, ◌∙◌, subst, inl, inr}
use Rattle.std.proofs.lemmas.Option.{slice_get_read, same_Some}
use Rattle.sto_core.specs.Core.{Core}
use Rattle.sto_plain.specs.Passes.{view_of}
use Rattle.sto_run_steps.specs.Seated.{IsSeated, IsOver}
use Rattle.sto_run_steps.specs.Logged.{kept}
use Rattle.sto_run_steps.proofs.Seats.{turned}
use Rattle.sto_run_steps.proofs.Turns.{made_one}
use Rattle.sto_run_steps.proofs.stage.Stage.turn.Goals as goal

pub returns-then-is_over-clause-over : goal.returns-then-is_over-clause-over
returns-then-is_over-clause-over g c =
    let seats = c.args.self.now.seats.items in
    let at = slice_get_read seats (length seats) c.args.thread c.index.result.now refl c.requires.inside c.index.ensures in
    λ off. (refl, λ s there. subst (λ x. IsOver x) (same_Some c.index.result.now s (sym at ∙ there)) (c.is_over.ensures.0 c.if-is_over.true))

pub returns-then-is_over-clause-turn : goal.returns-then-is_over-clause-turn
returns-then-is_over-clause-turn g c =
    let seats = c.args.self.now.seats.items in
    let at = slice_get_read seats (length seats) c.args.thread c.index.result.now refl c.requires.inside c.index.ensures in
    inr (λ s there. subst (λ x. IsOver x) (same_Some c.index.result.now s (sym at ∙ there)) (c.is_over.ensures.0 c.if-is_over.true), refl, refl, refl)

pub logged_step-requires-clause-seated : goal.logged_step-requires-clause-seated
logged_step-requires-clause-seated g c =
    let seats = c.args.self.now.seats.items in
    let at = slice_get_read seats (length seats) c.args.thread c.index_mut.result.now refl c.requires.inside c.index_mut.ensures.value in
    c.requires.seated.each c.args.thread c.index_mut.result.now at

pub logged_step-requires-clause-going : goal.logged_step-requires-clause-going
logged_step-requires-clause-going g c =
    let seats = c.args.self.now.seats.items in
    let at = slice_get_read seats (length seats) c.args.thread c.index_mut.result.now refl c.requires.inside c.index_mut.ensures.value in
    let was = slice_get_read seats (length seats) c.args.thread c.index.result.now refl c.requires.inside c.index.ensures in
    λ over. true≢false (sym (c.is_over.ensures.1 (subst (λ x. IsOver x) (same_Some c.index_mut.result.now c.index.result.now (sym at ∙ was)) over)) ∙ c.if-is_over.false)

pub returns-clause-seated : goal.returns-clause-seated
returns-clause-seated g c =
    turned (g.W.Work.plan c.args.work.now) (g.W.Attempts.fits c.args.work.now)
    c.args.self.now.pass.cells.plain c.logged_step.new.pass.cells.plain c.args.self.now.pass.cells.plain c.logged_step.new.pass.cells.plain c.args.thread c.logged_step.new.pass.cells.pass c.args.self.now.seats.items c.args.thread c.logged_step.new.self
    refl refl refl c.requires.seated c.in_ok-logged_step.ensures.same.0 c.in_ok-logged_step.ensures.seated

pub returns-clause-turn : goal.returns-clause-turn
returns-clause-turn g c =
    let seats = c.args.self.now.seats.items in
    let at = slice_get_read seats (length seats) c.args.thread c.index_mut.result.now refl c.requires.inside c.index_mut.ensures.value in
    let was = slice_get_read seats (length seats) c.args.thread c.index.result.now refl c.requires.inside c.index.ensures in
    inl (made_one g.T.Naming.valid (g.W.Attempts.heard c.args.work.now) c.args.self.now.pass.cells.plain c.logged_step.new.pass.cells.plain c.args.self.now.pass.cells.plain c.logged_step.new.pass.cells.plain c.args.thread c.logged_step.new.pass.cells.pass seats c.args.thread c.index_mut.result.now c.logged_step.new.self (kept c.args.self.now.log) (kept c.logged_step.new.log)
    refl refl refl c.in_ok-logged_step.ensures.same c.in_ok-logged_step.ensures.event c.in_ok-logged_step.ensures.logged at
    (λ over. true≢false (sym (c.is_over.ensures.1 (subst (λ x. IsOver x) (same_Some c.index_mut.result.now c.index.result.now (sym at ∙ was)) over)) ∙ c.if-is_over.false)))
