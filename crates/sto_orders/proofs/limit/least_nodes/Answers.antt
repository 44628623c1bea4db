use Rattle.std.proofs.Common.{◌≡◌, ◌+◌, List, length, take_all, Some, slice_get, refl, ap, ◌∙◌, arith}
use Rattle.std.proofs.lemmas.Option.{slice_get_read}
use Rattle.sto_lang.specs.declared.file.Thread.{Thread}
use Rattle.sto_lang.specs.Views.{threads_of}
use Rattle.sto_orders.specs.Causes.{least_told}
use Rattle.sto_orders.proofs.Limiting.{least_more}
use Rattle.sto_orders.proofs.limit.least_nodes.Goals as goal

pub loop-thread-preserved : goal.loop-thread-preserved
loop-thread-preserved c =
    let all = c.args.threads.now in
    let i = c.loop-thread.thread-index in
    let thread = c.thread-item.result in
    let at : slice_get all i ≡ Some thread = slice_get_read all (length all) i thread refl c.loop-thread-test.true c.thread-item.is in
    c.saturating_mul-least.ensures
    ∙ least_more all i thread c.loop-thread.least (c.from-stops.result + 1) at c.loop-thread.invariant (omega (arith, c.from-stops.ensures, c.len.ensures))

pub returns : goal.returns
returns c =
    c.loop-thread.invariant
    ∙ ap (λ (all : List Thread). least_told (threads_of all)) (take_all c.loop-thread.thread-index c.args.threads.now (omega (arith, c.loop-thread-test.false)))
