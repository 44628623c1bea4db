-- It goes on from where it waits, and its steps lead to the end.
use Rattle.sto_type.specs.Traits.{of_type}
use Rattle.sto_attempt_log.proofs.Stepping.{ok_map}
use Rattle.sto_attempt.specs.Attempts.{heard}
use Rattle.sto_interactive.specs.Waiting.{HearsMore}
use Rattle.sto_interactive.proofs.Coming.{resumed}
use Rattle.sto_interactive.proofs.Hearing.{hears_both}
use Rattle.sto_interactive.proofs.run_on.run_on.Goals as goal

pub step_on-requires : goal.step_on-requires
step_on-requires g c =
    let r = c.requires in
    let k = c.in_ok-turn.ensures in
    let v = g.C.Cells.view c.args.cells.now in (
      r.0,
      r.1,
      r.2,
      r.3,
      resumed (of_type g.T.Naming g.T.TxType) g.B.Body (g.C.Cells.passes c.args.cells.now) r.0 r.1 c.args.attempt.now c.resume.new.self r.2 v c.in_ok-turn.turn r.3 r.4 k.ty k.script k.at k.log (k.turned v r.4.waits) k.begun k.alone,
    )

pub returns-clause-come : goal.returns-clause-come
returns-clause-come g c ty f begun rest h =
    let k = c.in_ok-turn.ensures in
    let v = g.C.Cells.view c.args.cells.now in
    c.step_on.ensures.come ty f begun rest
    (resumed (of_type g.T.Naming g.T.TxType) g.B.Body (g.C.Cells.passes c.args.cells.now) ty f c.args.attempt.now c.resume.new.self begun v c.in_ok-turn.turn rest h k.ty k.script k.at k.log (k.turned v h.waits) k.begun k.alone)

pub returns-clause-heard : goal.returns-clause-heard
returns-clause-heard g c =
    let old = heard c.args.attempt.now in
    let now = heard c.resume.new.self in
    let all = heard c.step_on.new.attempt in
    let grown = c.in_ok-turn.ensures.grown.grown in
    ok_map c.step_on.result (HearsMore now all) (HearsMore old all) (hears_both old now all (record { more = grown.more; all = grown.replies })) c.step_on.ensures.heard
