-- Aborted attempts saw more and took no effect; the last one tells what the transaction led to.
use Rattle.std.proofs.Common.{◌≡◌, ℕ, Result, ◌-◌, refl, sym, ◌∙◌, subst, arith}
use Rattle.std.specs.Prelude.{Ok, Option, MatchOption}
use Rattle.sto_action.specs.declared.cause.AbortCause.{AbortCause}
use Rattle.sto_action.specs.declared.tx.Stop.{Stop}
use Rattle.sto_action.specs.declared.outcome.Attempted.{Attempted}
use Rattle.sto_action.specs.declared.outcome.Done.{Done}
use Rattle.sto_action.specs.declared.outcome.TransactionError.{TransactionError}
use Rattle.sto_action.specs.Atomic.{HasLed, HasTried, HasSaid, HaveAbortedBy}
use Rattle.sto_history.proofs.Events.{grows_on}
use Rattle.sto_action.proofs.Led.{atomic_since, aborted_more, aborted_by, said_led}
use Rattle.sto_action.proofs.atomic.atomically.Goals as goal

pub returns-in-Ok-Said-clause-grows : goal.returns-in-Ok-Said-clause-grows
returns-in-Ok-Said-clause-grows g c = grows_on _ _ _ c.loop-aborted.invariant.grows c.attempt.ensures.grows

pub returns-in-Ok-Said-clause-led : goal.returns-in-Ok-Said-clause-led
returns-in-Ok-Said-clause-led g c =
    let m = g.T.TxType.meaning c.args.ty.now in
    let u = g.C.Cells.view c.args.cells.now in
    let v = g.C.Cells.view c.loop-aborted.cells in
    let w = g.C.Cells.view c.attempt.new.cells in
    let ss = c.args.shapes.now.items in let most = g.K.Action.most c.args.code.now in let p = g.K.Action.does c.args.code.now in
    let tried = subst (λ (o : Attempted (Result g.row.K-Out.Denot (Stop g.row.K-Reason.Denot))). HasTried m v w ss most p (Ok o)) c.in-Ok-Said.field-0-is c.in-Ok-Said.ensures.tried in
    subst (λ (r : Result (Done g.row.K-Out.Denot g.row.K-Reason.Denot) TransactionError). HasLed m u w c.args.tries (c.loop-aborted.left - 1) ss most p r) (sym c.told.ensures)
    (said_led m u w c.args.tries (c.loop-aborted.left - 1) ss most p c.in-Ok-Said.said
    (atomic_since m u v w c.loop-aborted.aborted ss most p _ c.loop-aborted.invariant.grows c.loop-aborted.invariant.made tried))

pub returns-in-Err-clause-grows : goal.returns-in-Err-clause-grows
returns-in-Err-clause-grows g c = grows_on _ _ _ c.loop-aborted.invariant.grows c.attempt.ensures.grows

pub returns-clause-led : goal.returns-clause-led
returns-clause-led g c =
    let m = g.T.TxType.meaning c.args.ty.now in
    let u = g.C.Cells.view c.args.cells.now in
    let v = g.C.Cells.view c.loop-aborted.cells in
    let made = subst (λ (o : Option AbortCause). MatchOption o (c.loop-aborted.aborted ≡ 0) (HaveAbortedBy m u v c.loop-aborted.aborted)) c.in-Some.is c.loop-aborted.invariant.last in
    let all : c.loop-aborted.aborted ≡ c.args.tries = omega (arith, c.loop-aborted.auto.aborted-end, c.loop-aborted-test.false) in
    (refl, subst (λ (n : ℕ). HaveAbortedBy m u v n c.in-Some.last) all made)

pub loop-aborted-preserved : goal.loop-aborted-preserved
loop-aborted-preserved g c =
    let inv = c.loop-aborted.invariant in
    let m = g.T.TxType.meaning c.args.ty.now in
    let u = g.C.Cells.view c.args.cells.now in
    let v = g.C.Cells.view c.loop-aborted.cells in
    let w = g.C.Cells.view c.attempt.new.cells in
    let ss = c.args.shapes.now.items in let most = g.K.Action.most c.args.code.now in let p = g.K.Action.does c.args.code.now in
    let tried = subst (λ (o : Attempted (Result g.row.K-Out.Denot (Stop g.row.K-Reason.Denot))). HasTried m v w ss most p (Ok o)) c.in-Ok-Aborted.field-0-is c.in-Ok-Aborted.ensures.tried in
    record {
      rests = c.attempt.ensures.rests;
      left = (let a = c.attempt.ensures.draws in let b = inv.left in let n = c.if-left-eq0.false in omega (arith, a, b, n));
      grows = grows_on _ _ _ inv.grows c.attempt.ensures.grows;
      made = aborted_more u v w c.loop-aborted.aborted 1 c.attempt.ensures.grows inv.made tried.aborted;
      last = aborted_by m u v w c.loop-aborted.aborted 1 c.in-Ok-Aborted.cause c.attempt.ensures.grows inv.made tried;
      alone = λ one.
          absurd (subst (λ (o : Attempted (Result g.row.K-Out.Denot (Stop g.row.K-Reason.Denot))). HasSaid o) c.in-Ok-Aborted.field-0-is
          (c.in-Ok-Aborted.ensures.alone (g.met.C.Cells.same_passes _ _ inv.same ∙ one)));
      same = g.met.C.Cells.same_through _ _ _ inv.same c.attempt.ensures.same;
    }
