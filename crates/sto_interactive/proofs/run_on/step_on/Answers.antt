-- Each step is one of `proofs/Coming`.
use Rattle.std.proofs.Common.{◌≡◌, ◌<◌, ℕ, Bor, Result, refl, sym, subst}
use Rattle.sto_part.specs.declared.NoMemory.{NoMemory}
use Rattle.sto_attempt_log.specs.declared.verdict.Turn.{Turn}
use Rattle.sto_attempt_log.specs.declared.verdict.Turn.TheVariants as Turns
use Rattle.sto_attempt_log.specs.Bounds.{events_left}
use Rattle.sto_type.specs.Traits.{of_type}
use Rattle.sto_attempt.specs.Attempts.{Steps, event_of, heard}
use Rattle.sto_interactive.specs.Waiting.{IsEnd, HasCome, HasRunOn}
use Rattle.sto_interactive.proofs.Coming.{stepped, stops_on}
use Rattle.sto_interactive.proofs.Hearing.{hears_none, hears_on}
use Rattle.sto_interactive.proofs.run_on.step_on.Goals as goal

pub loop-turn-init : goal.loop-turn-init
loop-turn-init g c = record {
  come = λ ty f begun rest h. h;
  heard = hears_none (heard c.args.attempt.now);
  same = g.met.C.Cells.same_as_itself c.args.cells.now;
}

pub step-requires : goal.step-requires
step-requires g c =
    let r = c.requires in
    let more = subst (λ (x : Turn). HasCome (of_type g.T.Naming g.T.TxType) g.B.Body (g.C.Cells.passes c.args.cells.now) r.0 r.1 x c.loop-turn.attempt r.2 (g.C.Cells.view c.loop-turn.cells)) c.in-More.is
    (c.loop-turn.invariant.come r.0 r.1 r.2 r.3 r.4) in
    record { goes = more.goes; log = more.own.log }

pub returns-in_err-turn-clause-come : goal.returns-in_err-turn-clause-come
returns-in_err-turn-clause-come g c ty f begun rest h =
    let t = of_type g.T.Naming g.T.TxType in
    let first = g.C.Cells.passes c.args.cells.now in
    let a = c.loop-turn.attempt in
    let v = g.C.Cells.view c.loop-turn.cells in
    let w = g.C.Cells.view c.step.new.cells in
    let more = subst (λ (x : Turn). HasCome t g.B.Body first ty f x a begun v) c.in-More.is (c.loop-turn.invariant.come ty f begun rest h) in
    let steps = subst (λ (n : ℕ). Steps t g.B.Body n a.read_phase (event_of t g.B.Body a) a c.step.new.self v w c.step.result)
    (g.met.C.Cells.same_passes c.args.cells.now c.loop-turn.cells c.loop-turn.invariant.same) c.step.ensures.steps in
    stops_on t g.B.Body first ty f c.step.new.self begun w c.from_residual.result c.from_residual.ensures.0
    (subst (λ (r : Result Turn NoMemory). HasRunOn t g.B.Body first ty f r c.step.new.self begun w) c.in_err-turn.was
    (stepped t g.B.Body first ty f a c.step.new.self begun v w c.step.result rest more steps))

pub returns-in_err-turn-clause-same : goal.returns-in_err-turn-clause-same
returns-in_err-turn-clause-same g c = g.met.C.Cells.same_through c.args.cells.now c.loop-turn.cells c.step.new.cells c.loop-turn.invariant.same c.step.ensures.same

pub loop-turn-smaller : goal.loop-turn-smaller
loop-turn-smaller g c =
    let a = c.loop-turn.attempt in
    let k = c.step.new.self in
    let s = c.in_ok-turn.ensures.steps in
    subst
    (λ (r : Bor g.row.T.Denot). events_left (g.B.Body.left k.log.body) (g.T.TxType.meaning r.now).widths k.read_phase k.log.table.words.items k.log.table.extension k.log.table.base.items
    < events_left (g.B.Body.left a.log.body) (g.T.TxType.meaning a.log.ty.now).widths a.read_phase a.log.table.words.items a.log.table.extension a.log.table.base.items) (sym s.ty) s.left

pub loop-turn-preserved : goal.loop-turn-preserved
loop-turn-preserved g c =
    let t = of_type g.T.Naming g.T.TxType in
    let first = g.C.Cells.passes c.args.cells.now in
    let a = c.loop-turn.attempt in
    let k = c.step.new.self in
    let v = g.C.Cells.view c.loop-turn.cells in
    let w = g.C.Cells.view c.step.new.cells in
    let grown = c.in_ok-turn.ensures.steps.grown.grown in
    record {
      come = λ ty f begun rest h.
          let more = subst (λ (x : Turn). HasCome t g.B.Body first ty f x a begun v) c.in-More.is (c.loop-turn.invariant.come ty f begun rest h) in
          let steps = subst (λ (n : ℕ). Steps t g.B.Body n a.read_phase (event_of t g.B.Body a) a k v w c.step.result)
          (g.met.C.Cells.same_passes c.args.cells.now c.loop-turn.cells c.loop-turn.invariant.same) c.step.ensures.steps in
          subst (λ (r : Result Turn NoMemory). HasRunOn t g.B.Body first ty f r k begun w) c.in_ok-turn.was (stepped t g.B.Body first ty f a k begun v w c.step.result rest more steps);
      heard = hears_on (heard c.args.attempt.now) (heard a) (heard k) grown.more c.loop-turn.invariant.heard grown.replies;
      same = g.met.C.Cells.same_through c.args.cells.now c.loop-turn.cells c.step.new.cells c.loop-turn.invariant.same c.step.ensures.same;
    }

pub returns : goal.returns
returns g c = record {
  come = λ ty f begun rest h. c.loop-turn.invariant.come ty f begun rest h;
  end = at_end c.loop-turn.turn c.in_default.not-More;
  heard = c.loop-turn.invariant.heard;
  same = c.loop-turn.invariant.same;
}
  where
    at_end : (turn : Turn) → (turn ≡ Turns.More → ⊥) → IsEnd turn
    at_end Turns.More not = absurd (not refl)
    at_end Turns.Ready not = tt
    at_end (Turns.Ended x) not = tt
