use Rattle.std.proofs.Common.{◌-◌, arith}
use Rattle.sto_run_threads.proofs.Results.{all_ok}
use Rattle.sto_lang.specs.Views.{file as view, script}
use Rattle.sto_run_threads.proofs.Places.{at_place, position_above}
use Rattle.sto_run_threads.proofs.workload.BorrowedFileWorkload.transaction.Goals as goal

pub new-requires : goal.new-requires
new-requires c =
    let file = c.args.self.now.file.now in
    c.requires.weighed (script c.get-script.result.now)
    (at_place file c.args.thread c.args.position (c.args.position - 1) c.get.result.now c.get-script.result.now
    (omega (arith, position_above (view file) c.args.thread c.args.position c.requires.there)) c.get.ensures c.get-script.ensures)

pub returns : goal.returns
returns c =
    let file = c.args.self.now.file.now in
    let at = at_place file c.args.thread c.args.position (c.args.position - 1) c.get.result.now c.get-script.result.now
    (omega (arith, position_above (view file) c.args.thread c.args.position c.requires.there)) c.get.ensures c.get-script.ensures in
    record { made = all_ok c.new.result _ _ _ _ (λ body does asks few. record { script = script c.get-script.result.now; there = at; does = does; asks = asks; few = omega (arith, few) }) c.new.ensures.script c.new.ensures.may c.new.ensures.left_at_reset }
