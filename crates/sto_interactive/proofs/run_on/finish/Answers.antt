-- Each step is one of the commit of a transaction.
use Rattle.std.proofs.Common.{◌≡◌, ◌<◌, ℕ, Ok, Option, refl, sym, ap, ◌∙◌, subst}
use Rattle.sto_attempt_log.specs.declared.verdict.Verdict.{Verdict}
use Rattle.sto_attempt_log.specs.Remaining.{commit_left}
use Rattle.sto_attempt_log.specs.CommitPhases.{Deal}
use Rattle.sto_type.specs.Traits.{of_type}
use Rattle.sto_attempt.specs.declared.ready.Ready.{Ready}
use Rattle.sto_attempt.specs.Commits.{Advances, deal_of}
use Rattle.sto_transaction.specs.declared.machine.Machine.TheVariants.{Committing}
use Rattle.sto_transaction.specs.Machines.{HasTurned}
use Rattle.sto_transaction.proofs.Steps.{turn_of, commits_on, ended_as}
use Rattle.sto_interactive.proofs.run_on.finish.Goals as goal

pub loop-verdict-init : goal.loop-verdict-init
loop-verdict-init g c = record { commits = λ ty f begun rest h. h; replies = refl; same = g.met.C.Cells.same_as_itself c.args.cells.now }

pub step-requires : goal.step-requires
step-requires g c =
    let r = c.requires in
    let h = c.loop-verdict.invariant.commits r.0 r.1 r.2 r.3 r.4 in
    record { stands = h.stands; space = h.space; copy = h.copy }

pub returns-in-Some-clause-ended : goal.returns-in-Some-clause-ended
returns-in-Some-clause-ended g c ty f begun rest h =
    let t = of_type g.T.Naming g.T.TxType in
    let first = g.C.Cells.passes c.args.cells.now in
    let r = c.loop-verdict.ready in
    let s = c.step.new.self in
    let v = g.C.Cells.view c.loop-verdict.cells in
    let w = g.C.Cells.view c.step.new.cells in
    let k = subst (λ (n : ℕ). Advances t g.B.Body n r.commit_phase r s v w c.step.result) (g.met.C.Cells.same_passes c.args.cells.now c.loop-verdict.cells c.loop-verdict.invariant.same) c.step.ensures.advances in
    ended_as g.T.TxType.meaning g.T.Naming.valid g.T.Naming.sizes g.B.Body.script g.B.Body.then g.B.Body.left g.B.Body.may_ask first ty f s.log.body c.end-heard.result.body s.log.table.replies c.end-heard.result.replies
    c.in-Some.verdict begun w c.end-heard.ensures.body c.end-heard.ensures.replies
    (subst (λ (x : Option Verdict). HasTurned g.T.TxType.meaning g.T.Naming.valid g.T.Naming.sizes g.B.Body.script g.B.Body.then g.B.Body.left g.B.Body.may_ask first ty f (Ok (turn_of x)) (Committing s) begun w) c.in-Some.is
    (commits_on g.T.TxType.meaning g.T.Naming.valid g.T.Naming.sizes g.B.Body.script g.B.Body.then g.B.Body.left g.B.Body.may_ask first ty f r s begun v w c.step.result rest
    (c.loop-verdict.invariant.commits ty f begun rest h) k.kept k.event k.said k.space k.alone k.by))

pub returns-in-Some-clause-replies : goal.returns-in-Some-clause-replies
returns-in-Some-clause-replies g c =
    c.end-heard.ensures.replies ∙ ap (λ (r : Ready g.row.T.Denot g.row.B.Denot). r.log.table.replies) c.step.ensures.advances.kept ∙ c.loop-verdict.invariant.replies

pub returns-in-Some-clause-same : goal.returns-in-Some-clause-same
returns-in-Some-clause-same g c = g.met.C.Cells.same_through c.args.cells.now c.loop-verdict.cells c.step.new.cells c.loop-verdict.invariant.same c.step.ensures.same

pub loop-verdict-smaller : goal.loop-verdict-smaller
loop-verdict-smaller g c =
    let t = of_type g.T.Naming g.T.TxType in
    let r = c.loop-verdict.ready in
    let s = c.step.new.self in
    let k = c.step.ensures.advances in
    let same : deal_of t g.B.Body s ≡ deal_of t g.B.Body r = ap (λ (x : Ready g.row.T.Denot g.row.B.Denot). deal_of t g.B.Body x) k.kept in
    subst (λ (d : Deal). commit_left d s.commit_phase < commit_left (deal_of t g.B.Body r) r.commit_phase) (sym same) k.left

pub loop-verdict-preserved : goal.loop-verdict-preserved
loop-verdict-preserved g c =
    let t = of_type g.T.Naming g.T.TxType in
    let first = g.C.Cells.passes c.args.cells.now in
    let r = c.loop-verdict.ready in
    let s = c.step.new.self in
    let v = g.C.Cells.view c.loop-verdict.cells in
    let w = g.C.Cells.view c.step.new.cells in
    let k = subst (λ (n : ℕ). Advances t g.B.Body n r.commit_phase r s v w c.step.result) (g.met.C.Cells.same_passes c.args.cells.now c.loop-verdict.cells c.loop-verdict.invariant.same) c.step.ensures.advances in
    record {
      commits = λ ty f begun rest h.
          (subst (λ (x : Option Verdict). HasTurned g.T.TxType.meaning g.T.Naming.valid g.T.Naming.sizes g.B.Body.script g.B.Body.then g.B.Body.left g.B.Body.may_ask first ty f (Ok (turn_of x)) (Committing s) begun w) c.in_default.is
          (commits_on g.T.TxType.meaning g.T.Naming.valid g.T.Naming.sizes g.B.Body.script g.B.Body.then g.B.Body.left g.B.Body.may_ask first ty f r s begun v w c.step.result rest
          (c.loop-verdict.invariant.commits ty f begun rest h) k.kept k.event k.said k.space k.alone k.by)).1;
      replies = ap (λ (x : Ready g.row.T.Denot g.row.B.Denot). x.log.table.replies) k.kept ∙ c.loop-verdict.invariant.replies;
      same = g.met.C.Cells.same_through c.args.cells.now c.loop-verdict.cells c.step.new.cells c.loop-verdict.invariant.same c.step.ensures.same;
    }
