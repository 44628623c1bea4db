-- Aborted attempts saw more and took no effect; the last one tells what the transaction led to.
use Rattle.std.proofs.Common.{◌≡◌, ℕ, Result, ◌-◌, refl, ◌∙◌, subst, arith}
use Rattle.std.specs.Prelude.{Ok, IfOk, Option, MatchOption}
use Rattle.sto_part.specs.declared.NoMemory.{NoMemory}
use Rattle.sto_once.specs.declared.code.Halt.{Halt}
use Rattle.sto_action.specs.declared.outcome.Attempted.{Attempted}
use Rattle.sto_action.specs.declared.cause.AbortCause.{AbortCause}
use Rattle.sto_action.specs.Atomic.{HasSaid, HaveAbortedBy}
use Rattle.sto_history.proofs.Events.{grows_on}
use Rattle.sto_action.proofs.Led.{aborted_more, aborted_by}
use Rattle.sto_once.specs.Attempts.{Says}
use Rattle.sto_once.proofs.Led.{said_end, led_by, undisturbed_by}
use Rattle.sto_once.proofs.atomic.atomically.Goals as goal

pub told-requires : goal.told-requires
told-requires g c =
    let m = g.T.TxType.meaning c.args.ty.now in
    let v = g.C.Cells.view c.loop-aborted.pass in
    let w = g.C.Cells.view c.attempt-back.result.0 in
    let ss = c.args.shapes.now.items in let p = g.K.Code.does c.args.code.now in
    let ok = subst (λ (r : Result (Attempted (Result g.row.K-Out.Denot (Halt g.row.K-Reason.Denot))) NoMemory). Says m v w ss p r) c.in-Ok-Said.is c.attempt-back.ensures.tried.says in
    said_end m v w ss p c.in-Ok-Said.said
    (subst (λ (o : Attempted (Result g.row.K-Out.Denot (Halt g.row.K-Reason.Denot))). Says m v w ss p (Ok o)) c.in-Ok-Said.field-0-is ok)

pub returns-in-Ok-Said-clause-grows : goal.returns-in-Ok-Said-clause-grows
returns-in-Ok-Said-clause-grows g c = grows_on _ _ _ c.loop-aborted.invariant.grows c.attempt-back.ensures.tried.grows

pub returns-in-Ok-Said-clause-led : goal.returns-in-Ok-Said-clause-led
returns-in-Ok-Said-clause-led g c most large =
    let m = g.T.TxType.meaning c.args.ty.now in
    let u = g.C.Cells.view c.args.cells in
    let v = g.C.Cells.view c.loop-aborted.pass in
    let w = g.C.Cells.view c.attempt-back.result.0 in
    let ss = c.args.shapes.now.items in let p = g.K.Code.does c.args.code.now in
    let ok = subst (λ (r : Result (Attempted (Result g.row.K-Out.Denot (Halt g.row.K-Reason.Denot))) NoMemory). Says m v w ss p r) c.in-Ok-Said.is c.attempt-back.ensures.tried.says in
    let said = subst (λ (o : Attempted (Result g.row.K-Out.Denot (Halt g.row.K-Reason.Denot))). Says m v w ss p (Ok o)) c.in-Ok-Said.field-0-is ok in
    led_by m ss p c.told.result u v w c.loop-aborted.aborted c.args.tries (c.loop-aborted.left - 1) c.in-Ok-Said.said c.loop-aborted.invariant.grows c.loop-aborted.invariant.made
    said c.told.ensures most large

pub returns-in-Ok-Said-clause-alone : goal.returns-in-Ok-Said-clause-alone
returns-in-Ok-Said-clause-alone g c one = undisturbed_by c.in-Ok-Said.said c.told.result c.told.ensures

pub returns-in-Err-clause-grows : goal.returns-in-Err-clause-grows
returns-in-Err-clause-grows g c = grows_on _ _ _ c.loop-aborted.invariant.grows c.attempt-back.ensures.tried.grows

pub returns-clause-led : goal.returns-clause-led
returns-clause-led g c most large =
    let m = g.T.TxType.meaning c.args.ty.now in
    let u = g.C.Cells.view c.args.cells in
    let v = g.C.Cells.view c.loop-aborted.pass in
    let made = subst (λ (o : Option AbortCause). MatchOption o (c.loop-aborted.aborted ≡ 0) (HaveAbortedBy m u v c.loop-aborted.aborted)) c.in-Some.is c.loop-aborted.invariant.last in
    let all : c.loop-aborted.aborted ≡ c.args.tries = omega (arith, c.loop-aborted.auto.aborted-end, c.loop-aborted-test.false) in
    (refl, subst (λ (n : ℕ). HaveAbortedBy m u v n c.in-Some.last) all made)

pub loop-aborted-preserved : goal.loop-aborted-preserved
loop-aborted-preserved g c =
    let inv = c.loop-aborted.invariant in
    let tried = c.attempt-back.ensures.tried in
    let m = g.T.TxType.meaning c.args.ty.now in
    let u = g.C.Cells.view c.args.cells in
    let v = g.C.Cells.view c.loop-aborted.pass in
    let w = g.C.Cells.view c.attempt-back.result.0 in
    let ss = c.args.shapes.now.items in let p = g.K.Code.does c.args.code.now in
    let ok = subst (λ (r : Result (Attempted (Result g.row.K-Out.Denot (Halt g.row.K-Reason.Denot))) NoMemory). Says m v w ss p r) c.in-Ok-Aborted.is tried.says in
    let lost = subst (λ (o : Attempted (Result g.row.K-Out.Denot (Halt g.row.K-Reason.Denot))). Says m v w ss p (Ok o)) c.in-Ok-Aborted.field-0-is ok in
    record {
      rests = tried.rests;
      left = (let a = tried.draws in let b = inv.left in let n = c.if-left-eq0.false in omega (arith, a, b, n));
      grows = grows_on _ _ _ inv.grows tried.grows;
      made = aborted_more u v w c.loop-aborted.aborted 1 tried.grows inv.made lost.aborted;
      last = aborted_by m u v w c.loop-aborted.aborted 1 c.in-Ok-Aborted.cause tried.grows inv.made lost;
      alone = λ one.
          let all = subst (λ (r : Result (Attempted (Result g.row.K-Out.Denot (Halt g.row.K-Reason.Denot))) NoMemory). IfOk r HasSaid) c.in-Ok-Aborted.is (tried.alone (g.met.C.Cells.same_passes _ _ inv.same ∙ one)) in
          absurd (subst (λ (o : Attempted (Result g.row.K-Out.Denot (Halt g.row.K-Reason.Denot))). HasSaid o) c.in-Ok-Aborted.field-0-is all);
      same = g.met.C.Cells.same_through _ _ _ inv.same c.attempt-back.ensures.same;
    }
