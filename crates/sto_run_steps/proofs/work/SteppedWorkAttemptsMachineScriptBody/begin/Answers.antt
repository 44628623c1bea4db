use Rattle.std.proofs.Common.{◌-◌, length, subst, arith}
use Rattle.sto_model.specs.Run.{Behaviour}
use Rattle.sto_lang.specs.Drafts.{weight_total}
use Rattle.sto_lang.specs.Views.{file as view, script}
use Rattle.sto_script.specs.Bodies.{then_of, script_of, left_of, left_at_reset_of, MayAskOf}
use Rattle.sto_run_threads.specs.Orders.{TransactionPlace}
use Rattle.sto_transaction.specs.Bounds.{bound, words_of}
use Rattle.sto_transaction.specs.Machines.{Proceeds}
use Rattle.sto_run_threads.specs.Counts.{heaviest}
use Rattle.sto_run_threads.proofs.Pace.{weighs_most, more_steps}
use Rattle.sto_run_threads.proofs.Places.{at_place, position_above}
use Rattle.sto_type.specs.Traits.{of_type}
use Rattle.sto_run_steps.specs.Proceeding.{script_left}
use Rattle.sto_run_steps.proofs.Counting.{bound_more, at_most}
use Rattle.sto_run_steps.proofs.Weights.{weighs_within}
use Rattle.sto_run_steps.proofs.work.SteppedWorkAttemptsMachineScriptBody.begin.Goals as goal

pub new-requires : goal.new-requires
new-requires g c =
    let at = at_place c.args.self.now.work.now.workload.file.now c.args.thread c.args.position (c.args.position - 1) c.get.result.now c.get-script.result.now
    (omega (arith, position_above (view c.args.self.now.work.now.workload.file.now) c.args.thread c.args.position c.requires.there)) c.get.ensures c.get-script.ensures in
    c.requires.ready.0.weighed (c.args.thread, c.args.position) (script c.get-script.result.now) at

pub new-requires-2 : goal.new-requires-2
new-requires-2 g c = λ call may.
    let at = at_place c.args.self.now.work.now.workload.file.now c.args.thread c.args.position (c.args.position - 1) c.get.result.now c.get-script.result.now
    (omega (arith, position_above (view c.args.self.now.work.now.workload.file.now) c.args.thread c.args.position c.requires.there)) c.get.ensures c.get-script.ensures in
    c.requires.ready.0.takes (c.args.thread, c.args.position) (script c.get-script.result.now) at call (c.in_ok-body.ensures.may call may)

pub returns-clause-fits : goal.returns-clause-fits
returns-clause-fits g c = λ passes v free.
    let at = at_place c.args.self.now.work.now.workload.file.now c.args.thread c.args.position (c.args.position - 1) c.get.result.now c.get-script.result.now
    (omega (arith, position_above (view c.args.self.now.work.now.workload.file.now) c.args.thread c.args.position c.requires.there)) c.get.ensures c.get-script.ensures in
    let weight = weighs_most (view c.args.self.now.work.now.workload.file.now) (c.args.thread, c.args.position) (script c.get-script.result.now) at in
    let most = more_steps (g.T.TxType.meaning c.args.self.now.work.now.ty.now) (left_at_reset_of c.in_ok-body.body) (heaviest (view c.args.self.now.work.now.workload.file.now).threads) (omega (arith, c.in_ok-body.ensures.left_at_reset, weight)) in
    record {
      script = script c.get-script.result.now;
      there = at;
      pace = omega (arith, c.new-2.ensures.left, most);
      proceeds = subst (λ (f : Behaviour). Proceeds g.T.TxType.meaning g.T.Naming.valid g.T.Naming.sizes script_of then_of left_of MayAskOf passes c.args.self.now.work.now.ty.now f c.new-2.result v v)
          c.in_ok-body.ensures.script (c.new-2.ensures.proceeds passes v free.rests free.draws);
    }

pub returns-clause-left : goal.returns-clause-left
returns-clause-left g c =
    let f = view c.args.self.now.work.now.workload.file.now in let widths = (g.T.TxType.meaning c.args.self.now.work.now.ty.now).widths in
    let place : TransactionPlace = (c.args.thread, c.args.position) in
    let at = at_place c.args.self.now.work.now.workload.file.now c.args.thread c.args.position (c.args.position - 1) c.get.result.now c.get-script.result.now
    (omega (arith, position_above f c.args.thread c.args.position c.requires.there)) c.get.ensures c.get-script.ensures in
    let w = weighs_within f place (script c.get-script.result.now) at in
    let e = c.in_ok-body.ensures.left_at_reset in
    let more = bound_more (left_at_reset_of c.in_ok-body.body) (weight_total f.threads) (length widths) (words_of widths) (omega (arith, e, w)) in
    at_most (script_left (of_type g.T.Naming g.T.TxType) c.new-2.result) (bound (left_at_reset_of c.in_ok-body.body) (length widths) (words_of widths)) (bound (weight_total f.threads) (length widths) (words_of widths))
    c.new-2.ensures.left more
