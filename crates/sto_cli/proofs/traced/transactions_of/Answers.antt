use Rattle.std.proofs.Common.{◌+◌, List, ap, ◌∙◌, sum_by, arith}
use Rattle.std.proofs.lemmas.List.{take_all}
use Rattle.sto_lang.specs.declared.file.Thread.{Thread}
use Rattle.sto_lang.specs.Drafts.{transaction_count}
use Rattle.sto_lang.specs.Views.{threads_of}
use Rattle.sto_cli.proofs.Counted.{scripts_of, counted, one_more, at_most}
use Rattle.sto_cli.proofs.traced.transactions_of.Goals as goal

pub overflow_add-count : goal.overflow_add-count
overflow_add-count c =
    let threads = c.as_slice-thread-items.result.now in
    let more = one_more threads c.loop-thread.thread-index c.thread-item.result c.loop-thread-test.true c.thread-item.is in
    let part = at_most threads (c.loop-thread.thread-index + 1) in
    let same = ap (λ (ts : List Thread). transaction_count (threads_of ts)) c.as_slice-thread-items.ensures.items in
    omega (arith, more, part, same, c.loop-thread.invariant, c.len-count.ensures, c.requires.few_transactions)

pub loop-thread-preserved : goal.loop-thread-preserved
loop-thread-preserved c =
    let more = one_more c.as_slice-thread-items.result.now c.loop-thread.thread-index c.thread-item.result c.loop-thread-test.true c.thread-item.is in
    omega (arith, more, c.loop-thread.invariant, c.len-count.ensures)

pub returns : goal.returns
returns c =
    let threads = c.as_slice-thread-items.result.now in
    c.loop-thread.invariant
    ∙ ap (sum_by scripts_of) (take_all c.loop-thread.thread-index threads (omega (arith, c.loop-thread-test.false)))
    ∙ counted threads
    ∙ ap (λ (ts : List Thread). transaction_count (threads_of ts)) c.as_slice-thread-items.ensures.items
